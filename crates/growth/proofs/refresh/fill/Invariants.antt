use Rattle.std.proofs.Common.{ℕ, ◌<◌}
use Rattle.network.specs.Networks.{net_of}
use Rattle.growth.specs.Refreshed.{dues_after, Right}
use Rattle.growth.proofs.refresh.fill.Given as goal

abbrev pub invariant-loop-number : goal.invariant-loop-number
invariant-loop-number g l = (j : ℕ) → j < l.number → Right (dues_after (net_of l.grown.network.now) l.grown.tables.now.steps) (g.Q.EventQueue.table l.queue) j
