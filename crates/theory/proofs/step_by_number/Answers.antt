use Rattle.theory.proofs.Laws.{step_by_number}
use Rattle.theory.proofs.step_by_number.Goals as goal

pub returns : goal.returns
returns c = step_by_number
