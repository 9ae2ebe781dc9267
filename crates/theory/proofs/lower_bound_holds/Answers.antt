use Rattle.theory.proofs.Laws.{lower_bound_holds}
use Rattle.theory.proofs.lower_bound_holds.Goals as goal

pub returns : goal.returns
returns c = lower_bound_holds
