use Rattle.theory.proofs.Laws.{plan_is_a_tree}
use Rattle.theory.proofs.plan_is_a_tree.Goals as goal

pub returns : goal.returns
returns c = plan_is_a_tree
