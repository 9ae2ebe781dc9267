use Rattle.theory.proofs.Laws.{start_by_number}
use Rattle.theory.proofs.start_by_number.Goals as goal

pub returns : goal.returns
returns c = start_by_number
