use Rattle.theory.proofs.Laws.{pruning_ends}
use Rattle.theory.proofs.pruning_ends.Goals as goal

pub returns : goal.returns
returns c = pruning_ends
