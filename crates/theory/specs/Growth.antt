-- Growth: its state, one step of it, and so many steps from the start.
use Rattle.std.specs.Prelude.{ℕ, zero, suc, ◌+◌, ◌-◌, Bool, true, false, cond, List, [], ◌∷◌, ◌++◌, map, length, Some, None, Option, nat_lt, slice_index_or, slice_set}
use Rattle.std.specs.List.{range_with_len}
use Rattle.network.specs.Nets.{Net}
use Rattle.theory.specs.Sums.{one}
use Rattle.theory.specs.Nets.{node_count, first_end, second_end}
use Rattle.theory.specs.Clusters.{Standing, Cluster, Slot, is_active, cluster_active, moat, over_maximal, over_all}
use Rattle.theory.specs.Clusters.Phase.{active, inactive}
use Rattle.theory.specs.Clusters.Cluster.{node, merged}
use Rattle.theory.specs.Clusters.Slot.{maximal, inside}
use Rattle.theory.specs.Due.{maximal_of, earliest, due_times}

-- the clusters by number, the time, and the steps accepted so far; the chosen edges are those that merged two clusters
pub record State : Type 0 where
  pub slots : List Slot
  pub time : ℕ
  pub steps : ℕ

-- a new cluster: active, with moat 0
abbrev pub fresh : Standing
fresh = record { moat = 0; phase = active }

-- a node alone
abbrev pub lone : ℕ → Slot
lone v = maximal (node fresh v)

-- each node alone, at time 0
abbrev pub start : Net → State
start net = record { slots = map lone (range_with_len 0 (node_count net)); time = 0; steps = 0 }

-- d passes: an active cluster's moat grows by it
abbrev pub wider : ℕ → Standing → Standing
wider d o = record { moat = o.moat + cond (is_active o.phase) d 0; phase = o.phase }

-- a maximal cluster after d: its parts stay as they are
abbrev pub widen : ℕ → Cluster → Cluster
widen d (node o v) = node (wider d o) v
widen d (merged o c e l r) = merged (wider d o) c e l r

-- the slot after d
abbrev pub widen_slot : ℕ → Slot → Slot
widen_slot d (maximal t) = maximal (widen d t)
widen_slot d inside = inside

-- all slots after d
abbrev pub pass : ℕ → List Slot → List Slot
pass d ts = map (widen_slot d) ts

-- a cluster's moat stays when it becomes inactive
abbrev pub made_inactive : Standing → Standing
made_inactive o = record { moat = o.moat; phase = inactive }

-- the cluster, inactive
abbrev pub inactivate : Cluster → Cluster
inactivate (node o v) = node (made_inactive o) v
inactivate (merged o c e l r) = merged (made_inactive o) c e l r

-- the slot with its cluster inactive
abbrev pub inactivate_slot : Slot → Slot
inactivate_slot (maximal t) = maximal (inactivate t)
inactivate_slot inside = inside

-- the maximal cluster c becomes inactive
abbrev pub deactivate : List Slot → ℕ → List Slot
deactivate ts c = slice_set ts c (inactivate_slot (slice_index_or ts c inside))

-- the maximal cluster of a slot
abbrev pub taken : Slot → Cluster
taken (maximal t) = t
taken inside = node fresh 0

-- the cluster that edge e makes of the maximal clusters p and q, under the next number
abbrev pub union : List Slot → ℕ → ℕ → ℕ → Cluster
union ts p q e = merged fresh (length ts) e (taken (slice_index_or ts p inside)) (taken (slice_index_or ts q inside))

-- the clusters p and q are inside a new one now
abbrev pub merge : List Slot → ℕ → ℕ → ℕ → List Slot
merge ts p q e = slice_set (slice_set ts p inside) q inside ++ (maximal (union ts p q e) ∷ [])

-- what the entry under a number does: below 511 a cluster becomes inactive, from 511 on an edge merges two clusters
abbrev pub happen : Bool → Net → List Slot → ℕ → List Slot
happen true net ts k = deactivate ts k
happen false net ts k = merge ts (maximal_of ts (first_end net (k - 511))) (maximal_of ts (second_end net (k - 511))) (k - 511)

-- time moves to the entry's time, and the entry happens
abbrev pub advance : Net → State → Option (ℕ × ℕ) → State
advance net st None = st
advance net st (Some (t, k)) = record { slots = happen (nat_lt k 511) net (pass (t - st.time) st.slots) k; time = t; steps = st.steps + 1 }

-- how many maximal clusters are active
abbrev pub active_count : State → ℕ
active_count st = over_maximal (λ t. one (cluster_active t)) st.slots

-- growth has ended: fewer than two maximal clusters are active
abbrev pub ended : State → Bool
ended st = nat_lt (active_count st) 2

-- a step at the earliest entry, unless growth has ended
abbrev pub unless_ended : Bool → Net → State → State
unless_ended true net st = st
unless_ended false net st = advance net st (earliest (due_times net st.time st.slots))

-- one step: accepted unless growth has ended
abbrev pub step : Net → State → State
step net st = unless_ended (ended st) net st

-- k steps from the start
abbrev pub grow : Net → ℕ → State
grow net zero = start net
grow net (suc k) = step net (grow net k)

-- the total of all moats
abbrev pub total : State → ℕ
total st = over_all moat st.slots

-- the total of moats less the time, in half units
abbrev pub lower_bound : State → ℕ
lower_bound st = total st - st.time
