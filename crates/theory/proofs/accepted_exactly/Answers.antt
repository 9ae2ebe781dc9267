use Rattle.theory.proofs.Laws.{accepted_exactly_holds}
use Rattle.theory.proofs.accepted_exactly.Goals as goal

pub returns : goal.returns
returns c = accepted_exactly_holds
