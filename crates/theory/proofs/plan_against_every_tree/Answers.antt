use Rattle.theory.proofs.Laws.{plan_against_every_tree}
use Rattle.theory.proofs.plan_against_every_tree.Goals as goal

pub returns : goal.returns
returns c = plan_against_every_tree
