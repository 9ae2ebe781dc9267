use Rattle.theory.proofs.Laws.{due_times_kept}
use Rattle.theory.proofs.due_times_kept.Goals as goal

pub returns : goal.returns
returns c = due_times_kept
