use Rattle.theory.proofs.Laws.{formed_by_number}
use Rattle.theory.proofs.formed_by_number.Goals as goal

pub returns : goal.returns
returns c = formed_by_number
