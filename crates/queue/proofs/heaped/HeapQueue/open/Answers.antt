-- An empty table has no keys.
use Rattle.std.proofs.Common.{refl}
use Rattle.queue.proofs.Keeps.{no_keys}
use Rattle.queue.proofs.heaped.HeapQueue.open.Goals as goal

pub invariant_of-result : goal.invariant_of-result
invariant_of-result c = let told = c.open.ensures in record { full = refl; holds = λ _. no_keys 1535 _ told.bag }
