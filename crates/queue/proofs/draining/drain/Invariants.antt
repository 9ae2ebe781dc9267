-- What is taken out and what is left to take are the entries in order.
use Rattle.std.proofs.Common.{length}
use Rattle.queue.proofs.Drains.{Drained}
use Rattle.queue.proofs.draining.drain.Given as goal

abbrev pub invariant-loop-i : goal.invariant-loop-i
invariant-loop-i g l = Drained (length l.initial.out) l.i (g.Q.EventQueue.table l.initial.queue) (g.Q.EventQueue.table l.queue) l.initial.out l.out
