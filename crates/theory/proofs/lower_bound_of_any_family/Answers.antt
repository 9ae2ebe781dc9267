use Rattle.theory.proofs.Laws.{lower_bound_any}
use Rattle.theory.proofs.lower_bound_of_any_family.Goals as goal

pub returns : goal.returns
returns c = lower_bound_any
