-- An empty table has no keys.
use Rattle.std.proofs.Common.{rules}
use Rattle.queue.proofs.Keeps.{no_keys}
use Rattle.queue.proofs.heaped.HeapQueueEventQueue.clear.Goals as goal

pub invariant_of-self : goal.invariant_of-self
invariant_of-self c = let empty = no_keys 1535 in search rules
