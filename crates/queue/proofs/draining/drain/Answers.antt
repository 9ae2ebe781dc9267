-- A turn takes one entry out; an empty queue or a full list ends it.
use Rattle.std.proofs.Common.{length, ◌∙◌, arith}
use Rattle.std.proofs.lemmas.List.{set-get_or}
use Rattle.queue.proofs.Drains as drains
use Rattle.queue.proofs.draining.drain.Goals as goal

pub loop-i-preserved : goal.loop-i-preserved
loop-i-preserved g c =
    let l = c.loop-i in
    let n = length c.args.out.now in
    let t = g.Q.EventQueue.table l.queue in
    let u = g.Q.EventQueue.table c.args.queue.now in
    let after = g.Q.EventQueue.table c.take_first.new.queue in
    let told = c.in-Some.ensures in
    drains.drained_more n l.i u t c.args.out.now l.out l.invariant (omega arith) (omega arith) c.in-Some.entry told.answer after told.after

pub returns-in_default : goal.returns-in_default
returns-in_default g c =
    let l = c.loop-i in
    let n = length c.args.out.now in
    let t = g.Q.EventQueue.table l.queue in
    let u = g.Q.EventQueue.table c.args.queue.now in
    let after = g.Q.EventQueue.table c.take_first.new.queue in
    let told = c.in_default.ensures in
    let e = drains.ended_empty n l.i u t c.args.out.now l.out l.invariant (omega arith) told.answer after told.after in
    record { answer = e.0; after = e.1; written = set-get_or l.out l.i (0, 0) ∙ e.2 }
