use Rattle.network.specs.Networks.{net_of}
use Rattle.theory.specs.Growth.{grow}
use Rattle.theory.proofs.Table.{table_length}
use Rattle.growth.specs.Refreshed.{dues_after}
use Rattle.growth.proofs.Catching.{right_here, caught_up}
use Rattle.growth.proofs.refresh.write_due.Goals as goal

pub returns : goal.returns
returns g c =
    let net = net_of c.args.grown.now.network.now in
    let k = c.args.grown.now.tables.now.steps in
    let t = g.Q.EventQueue.table c.args.queue.now in
    let u = g.Q.EventQueue.table c.write_entry.new.queue in
    let all = table_length net (grow net k).time (grow net k).slots in
    let sized = g.met.Q.EventQueue.sized c.args.queue.now in
    record {
      caught = caught_up (dues_after net k) t u c.args.number c.due.result sized all c.write_entry.ensures c.due.ensures;
      here = right_here (dues_after net k) t u c.args.number c.due.result sized all c.write_entry.ensures c.due.ensures;
    }
