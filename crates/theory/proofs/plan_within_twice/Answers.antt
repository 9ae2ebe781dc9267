use Rattle.theory.proofs.Laws.{plan_within_twice}
use Rattle.theory.proofs.plan_within_twice.Goals as goal

pub returns : goal.returns
returns c = plan_within_twice
