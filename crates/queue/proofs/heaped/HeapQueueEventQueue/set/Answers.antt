-- The old entry's key is taken out and the new one's put in; a refused number is past the table, which then stays.
use Rattle.std.proofs.Common.{◌≡◌, ◌<◌, ◌≤◌, cond, ◌∷◌, length, set, is_ok, Some, Ok, Err, sym, ◌∙◌, subst, arith}
use Rattle.std.specs.List.Sorted.{IsPermutation}
use Rattle.std.proofs.lemmas.List.{length-set}
use Rattle.std.proofs.lemmas.Bool.{cond_below}
use Rattle.refusal.specs.declared.Refusal.TheVariants.{HeapFull}
use Rattle.heap.specs.Bags.{bag_of, room_of}
use Rattle.queue.specs.Timed.{KeysOf}
use Rattle.queue.proofs.Keeps.{entry_held, put_in, room_left}
use Rattle.queue.proofs.Writes.{taken_below}
use Rattle.queue.proofs.heaped.HeapQueueEventQueue.set.Goals as goal

pub invariant_of-self : goal.invariant_of-self
invariant_of-self c =
    let q = c.args.self.now in
    let n = c.args.number in
    let time = c.args.time in
    let below = taken_below n c.in_ok-check_number.ensures in
    let in' : n < length q.times = omega (arith, q.full) in
    let took = c.take_key.ensures in
    let put = c.insert.ensures in
    let left = bag_of c.take_key.new.heap in
    let after = bag_of c.insert.new.self in
    let holds : 1535 ≤ room_of c.insert.new.self → KeysOf (set q.times n (Some time)) after =
    λ roomy.
    let h = q.holds (omega (arith, took.room, put.room)) in
    let out = took.bag (entry_held q.times _ h n) in
    let some : length left < room_of c.take_key.new.heap = omega (arith, room_left q.times n in' _ left h out, q.full, put.room) in
    let taken : c.insert.result ≡ Ok tt = put.answer ∙ sym (cond_below (length left) (room_of c.take_key.new.heap) (Ok tt) (Err HeapFull) some) in
    let bag : IsPermutation (record { time = time; number = n } ∷ left) after = subst (λ r. IsPermutation (cond (is_ok r) (record { time = time; number = n } ∷ left) left) after) taken put.bag in
    put_in q.times n in' time _ left after h out bag in
    record { full = length-set q.times n (Some time) ∙ q.full; holds = holds }
