-- The least key is that of the first entry, and where there is none there is no entry.
use Rattle.std.proofs.Common.{◌≡◌, ◌∙◌, rules, arith}
use Rattle.std.specs.Option.{option_map}
use Rattle.heap.specs.Bags.{bag_of}
use Rattle.queue.proofs.Firsts.{only_first}
use Rattle.queue.proofs.Keeps.{first_by_least}
use Rattle.queue.proofs.heaped.HeapQueueEventQueue.first.Goals as goal

pub returns : goal.returns
returns c =
    let q = c.args.self.now in
    let told = c.room.ensures in
    let shown : c.map.result ≡ option_map (λ k. (k.time, k.number)) c.least.result = search rules in
    shown ∙ only_first q.times _ (first_by_least q.times (bag_of q.heap) c.least.result (q.holds (omega arith)) c.least.ensures)
