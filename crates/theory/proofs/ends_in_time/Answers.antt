use Rattle.theory.proofs.Laws.{ends_in_time_holds}
use Rattle.theory.proofs.ends_in_time.Goals as goal

pub returns : goal.returns
returns c = ends_in_time_holds
