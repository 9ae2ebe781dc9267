use Rattle.theory.proofs.Laws.{strong_plan_is_a_tree}
use Rattle.theory.proofs.strong_plan_is_a_tree.Goals as goal

pub returns : goal.returns
returns c = strong_plan_is_a_tree
