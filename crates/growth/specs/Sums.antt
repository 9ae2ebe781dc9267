-- Sums over the tables by node.
use Rattle.std.specs.Prelude.{ℕ, ◌*◌, cond, List, ◌==◌, slice_index}
use Rattle.theory.specs.Sums.{sum_to}
use Rattle.growth.specs.NodeTables.{cluster_at}
use Rattle.growth.specs.declared.nodes.Node.{Node}

-- the doubled prizes of the nodes below n that are in cluster c
abbrev pub prizes_in : List ℕ → List Node → ℕ → ℕ → ℕ
prizes_in prizes nodes c n = sum_to n (λ v. cond (cluster_at nodes v == c) (2 * slice_index prizes v) 0)
