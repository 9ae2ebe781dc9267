use Rattle.theory.proofs.Laws.{grown_tree_hangs}
use Rattle.theory.proofs.grown_tree_hangs.Goals as goal

pub returns : goal.returns
returns c = grown_tree_hangs
