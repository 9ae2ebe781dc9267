use Rattle.std.proofs.Common.{arith}
use Rattle.network.specs.Networks.{net_of}
use Rattle.theory.specs.Growth.{grow}
use Rattle.theory.proofs.Table.{table_length}
use Rattle.growth.specs.Refreshed.{dues_after}
use Rattle.growth.proofs.Catching.{all_right}
use Rattle.growth.proofs.refresh.fill.Goals as goal

pub returns : goal.returns
returns g c =
    let net = net_of c.args.grown.now.network.now in
    let k = c.args.grown.now.tables.now.steps in
    all_right (dues_after net k) (g.Q.EventQueue.table c.loop-number.queue) (g.met.Q.EventQueue.sized c.loop-number.queue) (table_length net (grow net k).time (grow net k).slots) (λ j l. c.loop-number.invariant j (omega arith))
