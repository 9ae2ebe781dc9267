-- The grown tree, pruning, and what a plan answers.
use Rattle.std.specs.Prelude.{ℕ, zero, suc, Bool, false, cond, not, ◌&&◌, ◌||◌, List, [], ◌∷◌, map, length, Some, None, Option, ◌==◌, slice_index}
use Rattle.std.specs.List.{range_with_len}
use Rattle.network.specs.Nets.{Net}
use Rattle.theory.specs.Sums.{sum_to, one}
use Rattle.theory.specs.Nets.{node_count, edge_count, first_end, second_end}
use Rattle.theory.specs.Clusters.{Cluster, Slot, cluster_active, holds, splits, any_maximal}
use Rattle.theory.specs.Clusters.Cluster.{node, merged}
use Rattle.theory.specs.Growth.{State}
use Rattle.theory.specs.Numbers.{cluster_of}
use Rattle.theory.specs.Trees.{tree_cost, lost}

-- the edge s merged two clusters of this one
abbrev pub uses : Cluster → ℕ → Bool
uses (node o v) s = false
uses (merged o c e l r) s = e == s || (uses l s || uses r s)

-- the edge is chosen
abbrev pub chosen : List Slot → ℕ → Bool
chosen ts s = any_maximal (λ t. uses t s) ts

-- the node is in an active maximal cluster
abbrev pub grown_node : List Slot → ℕ → Bool
grown_node ts v = any_maximal (λ t. cluster_active t && holds t v) ts

-- the chosen edges with both ends in N
abbrev pub edges_within : Net → List Slot → (ℕ → Bool) → ℕ → Bool
edges_within net ts N s = chosen ts s && (N (first_end net s) && N (second_end net s))

-- the edges of the grown tree
abbrev pub grown_edge : Net → List Slot → ℕ → Bool
grown_edge net ts = edges_within net ts (grown_node ts)

-- how many edges of E have just one end in a cluster
abbrev pub degree : Net → (ℕ → Bool) → Cluster → ℕ
degree net E u = sum_to (edge_count net) (λ s. one (E s && splits u (first_end net s) (second_end net s)))

-- an inactive cluster that just one edge of E leaves
abbrev pub prunable : Net → (ℕ → Bool) → Cluster → Bool
prunable net E u = not (cluster_active u) && degree net E u == 1

-- the cluster, if it passes the test
abbrev pub passing : (Cluster → Bool) → Option Cluster → Option Cluster
passing p None = None
passing p (Some u) = cond (p u) (Some u) None

-- the lowest-numbered cluster that passes the test, of the numbers listed
abbrev pub lowest : (Cluster → Bool) → List Slot → List ℕ → Option Cluster
lowest p ts [] = None
lowest p ts (c ∷ cs) = elim (passing p (cluster_of ts c)) [ Some u ↦ Some u | None ↦ lowest p ts cs ]

-- the cluster that is pruned next
abbrev pub to_prune : Net → List Slot → (ℕ → Bool) → Option Cluster
to_prune net ts N = lowest (prunable net (edges_within net ts N)) ts (range_with_len 0 (length ts))

-- the nodes of N that a cluster does not hold
abbrev pub without : (ℕ → Bool) → Cluster → ℕ → Bool
without N u v = N v && not (holds u v)

-- pruning, at most k times: the lowest-numbered prunable cluster is taken away, again and again
abbrev pub prune_from : ℕ → Net → List Slot → (ℕ → Bool) → ℕ → Bool
prune_from zero net ts N = N
prune_from (suc k) net ts N = elim (to_prune net ts N) [ Some u ↦ prune_from k net ts (without N u) | None ↦ N ]

-- the nodes that pruning leaves; each time takes a node at least
abbrev pub pruned : Net → List Slot → ℕ → Bool
pruned net ts = prune_from (node_count net) net ts (grown_node ts)

-- how much of the prizes a plan takes: all of them, those of one node, or some
pub data Coverage : Type 0 where
  whole alone part : Coverage

-- by the lost prizes and the number of nodes left
abbrev pub coverage : ℕ → ℕ → Coverage
coverage lost-prizes nodes-left = cond (lost-prizes == 0) whole (cond (nodes-left == 1) alone part)

-- a plan: a mark 1 or 0 for each node and for each edge, the costs of the edges marked 1, the prizes of the nodes marked 0
pub record Plan : Type 0 where
  pub node_marks : List ℕ
  pub edge_marks : List ℕ
  pub plan_cost : ℕ
  pub plan_lost : ℕ
  pub status : Coverage

-- a mark for each number below n
abbrev pub marks : ℕ → (ℕ → Bool) → List ℕ
marks n p = map (λ v. one (p v)) (range_with_len 0 n)

-- the numbers that are marked 1
abbrev pub marked : List ℕ → ℕ → Bool
marked ms v = slice_index ms v == 1

-- the plan of the nodes N and the edges E
abbrev pub plan_of : Net → (ℕ → Bool) → (ℕ → Bool) → Plan
plan_of net N E = record {
  node_marks = marks (node_count net) N;
  edge_marks = marks (edge_count net) E;
  plan_cost = tree_cost net E;
  plan_lost = lost net N;
  status = coverage (lost net N) (sum_to (node_count net) (λ v. one (N v)));
}

-- the plan: what pruning leaves of the grown tree
abbrev pub plan : Net → State → Plan
plan net st = plan_of net (pruned net st.slots) (edges_within net st.slots (pruned net st.slots))
