use Rattle.theory.proofs.Laws.{strong_plan_best}
use Rattle.theory.proofs.strong_plan_best.Goals as goal

pub returns : goal.returns
returns c = strong_plan_best
