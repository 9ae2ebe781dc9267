-- Due times: the table of 1,535 optional times, cluster c under c and edge s under 511 + s, and its earliest entry.
use Rattle.std.specs.Prelude.{ℕ, ◌+◌, ◌-◌, ◌/◌, Bool, true, false, cond, ◌||◌, List, [], ◌∷◌, ◌++◌, map, length, Some, None, Option, ◌==◌, nat_lt, slice_index_or}
use Rattle.std.specs.List.{range_with_len}
use Rattle.queue.specs.Tables.{first_entry}
use Rattle.network.specs.Nets.{Net}
use Rattle.theory.specs.Nets.{first_end, second_end, doubled_prize, doubled_cost}
use Rattle.theory.specs.Clusters.{Cluster, Slot, cluster_active, holds, over, inner, depth}
use Rattle.theory.specs.Clusters.Slot.{maximal, inside}

-- time and number of the earliest entry, as an event queue gives it: the least time, the lowest number among equal times
abbrev pub earliest : List (Option ℕ) → Option (ℕ × ℕ)
earliest table = first_entry table

-- doubled prizes less inner moats
abbrev pub surplus : Net → Cluster → ℕ
surplus net t = over (doubled_prize net) t - inner t

-- doubled cost less the depths of both ends
abbrev pub slack : Net → List Slot → ℕ → ℕ
slack net ts s = doubled_cost net s - (depth ts (first_end net s) + depth ts (second_end net s))

-- the slot has a maximal cluster that holds v
abbrev pub slot_holds : ℕ → Slot → Bool
slot_holds v (maximal t) = holds t v
slot_holds v inside = false

-- the slot has an active maximal cluster
abbrev pub slot_active : Slot → Bool
slot_active (maximal t) = cluster_active t
slot_active inside = false

-- the place of the first that passes; the length where none does
abbrev pub place : {X : Type 0} → (X → Bool) → List X → ℕ
place p [] = 0
place p (x ∷ xs) = cond (p x) 0 (place p xs + 1)

-- the number of the maximal cluster that holds v
abbrev pub maximal_of : List Slot → ℕ → ℕ
maximal_of ts v = place (slot_holds v) ts

-- the maximal cluster of this number is active
abbrev pub active_at : List Slot → ℕ → Bool
active_at ts c = slot_active (slice_index_or ts c inside)

-- an active maximal cluster is due when its surplus has run out
abbrev pub cluster_due : Net → ℕ → Slot → Option ℕ
cluster_due net time inside = None
cluster_due net time (maximal t) = cond (cluster_active t) (Some (time + surplus net t)) None

-- an edge between two maximal clusters is due when its slack has run out: both of them use it up, or one, or none
abbrev pub slack_due : Bool → Bool → ℕ → ℕ → Option ℕ
slack_due true true time left = Some (time + left / 2)
slack_due true false time left = Some (time + left)
slack_due false true time left = Some (time + left)
slack_due false false time left = None

-- an edge inside one maximal cluster has no due time
abbrev pub edge_due : Net → ℕ → List Slot → ℕ → Option ℕ
edge_due net time ts s =
    cond (maximal_of ts (first_end net s) == maximal_of ts (second_end net s)) None
    (slack_due (active_at ts (maximal_of ts (first_end net s))) (active_at ts (maximal_of ts (second_end net s))) time (slack net ts s))

-- the due times of all clusters, then of all edges
unfoldable pub due_times : Net → ℕ → List Slot → List (Option ℕ)
due_times net time ts = map (λ c. cluster_due net time (slice_index_or ts c inside)) (range_with_len 0 511) ++ map (edge_due net time ts) (range_with_len 0 1024)

-- the number is in the list
abbrev pub among : ℕ → List ℕ → Bool
among c [] = false
among c (d ∷ ds) = c == d || among c ds

-- the clusters of the event under a number: a cluster itself, or the two that an edge merges and the new one
abbrev pub event_clusters : Net → List Slot → ℕ → List ℕ
event_clusters net ts k =
    cond (nat_lt k 511) (k ∷ []) (maximal_of ts (first_end net (k - 511)) ∷ maximal_of ts (second_end net (k - 511)) ∷ length ts ∷ [])
