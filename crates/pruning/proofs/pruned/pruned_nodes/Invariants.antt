use Rattle.std.proofs.Common.{◌≡◌, ℕ, ◌-◌, ◌<◌}
use Rattle.network.specs.Networks.{net_of}
use Rattle.theory.specs.Nets.{node_count}
use Rattle.theory.specs.Prune.{marked}
use Rattle.pruning.specs.Pruned.{prune_in, pruned_in}
use Rattle.pruning.proofs.pruned.pruned_nodes.Given as goal

-- going on from here leaves what pruning leaves
abbrev pub invariant-loop : goal.invariant-loop
invariant-loop l = (v : ℕ) → v < node_count (net_of l.network) → prune_in (l.end - l.counter) (net_of l.network) l.shapes (marked l.chosen) (marked l.nodes) v ≡ pruned_in (net_of l.network) l.shapes (marked l.«tree_nodes») (marked l.chosen) v
