use Rattle.std.proofs.Common.{◌≡◌, ℕ, ◌+◌, ◌<◌, true}
use Rattle.network.specs.Networks.{net_of}
use Rattle.growth.specs.Refreshed.{dues_after, Right, CaughtUp, is_at}
use Rattle.growth.proofs.refresh.refresh_edges.Given as goal

abbrev pub invariant-loop-s : goal.invariant-loop-s
invariant-loop-s g l =
    CaughtUp (dues_after (net_of l.grown.network.now) l.grown.tables.now.steps) (g.Q.EventQueue.table l.initial.queue) (g.Q.EventQueue.table l.queue)
    × ((s : ℕ) → s < l.s → is_at (net_of l.grown.network.now) l.grown.tables.now l.c s ≡ true → Right (dues_after (net_of l.grown.network.now) l.grown.tables.now.steps) (g.Q.EventQueue.table l.queue) (511 + s))
