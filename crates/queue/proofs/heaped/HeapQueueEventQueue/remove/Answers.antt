-- The removed entry's key is taken out; a refused number is past the table, which then stays.
use Rattle.std.proofs.Common.{◌<◌, ◌≤◌, length, set, None, ◌∙◌, arith}
use Rattle.std.proofs.lemmas.List.{length-set}
use Rattle.heap.specs.Bags.{bag_of, room_of}
use Rattle.queue.specs.Timed.{KeysOf}
use Rattle.queue.proofs.Keeps.{entry_held, taken_out}
use Rattle.queue.proofs.Writes.{taken_below}
use Rattle.queue.proofs.heaped.HeapQueueEventQueue.remove.Goals as goal

pub invariant_of-self : goal.invariant_of-self
invariant_of-self c =
    let q = c.args.self.now in
    let n = c.args.number in
    let below = taken_below n c.in_ok-check_number.ensures in
    let in' : n < length q.times = omega (arith, q.full) in
    let took = c.take_key.ensures in
    let holds : 1535 ≤ room_of c.take_key.new.heap → KeysOf (set q.times n None) (bag_of c.take_key.new.heap) =
    λ roomy. let h = q.holds (omega (arith, took.room)) in taken_out q.times n in' _ _ h (took.bag (entry_held q.times _ h n)) in
    record { full = length-set q.times n None ∙ q.full; holds = holds }
