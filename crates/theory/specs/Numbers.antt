-- Clusters by number: the cluster of a number, its parts, state and moat.
use Rattle.std.specs.Prelude.{ℕ, Bool, true, false, cond, List, [], ◌∷◌, Some, None, Option, ◌==◌, slice_index_or}
use Rattle.theory.specs.Clusters.{Phase, Cluster, Slot, standing, moat, number, holds, inner}
use Rattle.theory.specs.Clusters.Phase.{active}
use Rattle.theory.specs.Clusters.Cluster.{node, merged}
use Rattle.theory.specs.Clusters.Slot.{maximal, inside}

-- the first of two that is there
abbrev pub either : {X : Type 0} → Option X → Option X → Option X
either (Some x) y = Some x
either None y = y

-- the cluster of number c in a cluster
abbrev pub seek : ℕ → Cluster → Option Cluster
seek c (node o v) = cond (v == c) (Some (node o v)) None
seek c (merged o k e l r) = cond (k == c) (Some (merged o k e l r)) (either (seek c l) (seek c r))

-- the cluster of number c in a family
abbrev pub cluster_of : List Slot → ℕ → Option Cluster
cluster_of [] c = None
cluster_of (maximal t ∷ ts) c = either (seek c t) (cluster_of ts c)
cluster_of (inside ∷ ts) c = cluster_of ts c

-- what f says of the cluster, or d where there is none
abbrev pub told : {X : Type 0} → (Cluster → X) → X → Option Cluster → X
told f d None = d
told f d (Some u) = f u

-- the numbers of a cluster's two parts; none for a node alone
abbrev pub parts : Cluster → Option (ℕ × ℕ)
parts (node o v) = None
parts (merged o c e l r) = Some (number l, number r)

-- the parts of the cluster of number c
abbrev pub parts_of : List Slot → ℕ → Option (ℕ × ℕ)
parts_of ts c = told parts None (cluster_of ts c)

-- the state of the cluster of number c
abbrev pub phase_of : List Slot → ℕ → Phase
phase_of ts c = told (λ u. (standing u).phase) active (cluster_of ts c)

-- the moat of the cluster of number c
abbrev pub moat_of : List Slot → ℕ → ℕ
moat_of ts c = told moat 0 (cluster_of ts c)

-- the inner moats of the cluster of number c
abbrev pub inner_of : List Slot → ℕ → ℕ
inner_of ts c = told inner 0 (cluster_of ts c)

-- the cluster of number c holds the node v
abbrev pub holds_at : List Slot → ℕ → ℕ → Bool
holds_at ts c v = told (λ u. holds u v) false (cluster_of ts c)

-- the slot has a maximal cluster
abbrev pub slot_maximal : Slot → Bool
slot_maximal (maximal t) = true
slot_maximal inside = false

-- the cluster of number c is inside no other
abbrev pub is_maximal : List Slot → ℕ → Bool
is_maximal ts c = slot_maximal (slice_index_or ts c inside)
