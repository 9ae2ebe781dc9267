use Rattle.theory.proofs.Laws.{laminar_holds}
use Rattle.theory.proofs.laminar_holds.Goals as goal

pub returns : goal.returns
returns c = laminar_holds
