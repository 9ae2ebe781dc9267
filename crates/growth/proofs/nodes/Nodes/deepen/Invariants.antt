use Rattle.std.proofs.Common.{◌≡◌, ℕ, ◌<◌, ◌≤◌}
use Rattle.growth.specs.NodeTables.{cluster_at, depth_at, deeper}
use Rattle.growth.proofs.nodes.Nodes.deepen.Given as goal

-- the nodes reached are deeper, the others are as they were
abbrev pub invariant-loop-node : goal.invariant-loop-node
invariant-loop-node l =
    ((v : ℕ) → cluster_at l.node-items v ≡ cluster_at l.initial.node-items v)
    × ((v : ℕ) → v < l.node-index → depth_at l.node-items v ≡ deeper l.clusters l.by (cluster_at l.initial.node-items v) (depth_at l.initial.node-items v))
    × ((v : ℕ) → l.node-index ≤ v → depth_at l.node-items v ≡ depth_at l.initial.node-items v)
