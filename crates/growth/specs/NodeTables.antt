-- What the table by node holds, and what an event does to it.
use Rattle.std.specs.Prelude.{ℕ, ◌+◌, Bool, cond, ◌&&◌, ◌||◌, List, length, ◌==◌, nat_lt, slice_index_or}
use Rattle.growth.specs.Records.{vacant, is_growing}
use Rattle.growth.specs.declared.cluster.Cluster.{Cluster}
use Rattle.growth.specs.declared.nodes.Node.{Node}

-- a node at the place of none
abbrev pub unplaced : Node
unplaced = record { cluster = 0; depth = 0 }

-- the maximal cluster that holds a node, and the node's depth
abbrev pub cluster_at : List Node → ℕ → ℕ
cluster_at ns v = (slice_index_or ns v unplaced).cluster

abbrev pub depth_at : List Node → ℕ → ℕ
depth_at ns v = (slice_index_or ns v unplaced).depth

-- the cluster of this number is in the table and grows
abbrev pub grows_at : List Cluster → ℕ → Bool
grows_at cs c = nat_lt c (length cs) && is_growing (slice_index_or cs c vacant)

-- a node of the clusters p and q is in the new one now
abbrev pub regrouped : ℕ → ℕ → ℕ → ℕ → ℕ
regrouped p q new c = cond (c == p || c == q) new c

abbrev pub moved : ℕ → ℕ → ℕ → Node → Node
moved p q new n = record { cluster = regrouped p q new n.cluster; depth = n.depth }

-- the depth of a node in cluster c after a time
abbrev pub deeper : List Cluster → ℕ → ℕ → ℕ → ℕ
deeper cs by c depth = depth + cond (grows_at cs c) by 0
