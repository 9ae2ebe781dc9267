-- As many records grow as maximal clusters are active.
use Rattle.std.proofs.Common.{◌≡◌, ℕ, zero, suc, ◌+◌, ◌≤◌, List, [], ◌∷◌, length, get_or, sym, refl, ap, ◌∙◌, arith}
use Rattle.network.specs.Nets.{Net}
use Rattle.theory.specs.Sums.{sum_of, sum_to, one}
use Rattle.theory.specs.Nets.{node_count}
use Rattle.theory.specs.Clusters.{Slot, cluster_active, on_maximal}
use Rattle.theory.specs.Clusters.Slot.{maximal, inside}
use Rattle.theory.specs.Due.{slot_active, active_at}
use Rattle.theory.specs.Growth.{State, active_count}
use Rattle.theory.specs.ByNumber.{Formed}
use Rattle.theory.proofs.Sums.{sum_to_same}
use Rattle.growth.specs.Records.{vacant, is_growing}
use Rattle.growth.specs.Events.{growing}
use Rattle.growth.specs.Shown.{ShowsAll}
use Rattle.growth.specs.declared.tables.Tables.{Tables}
use Rattle.growth.proofs.Growing.{growing_any, idle_past}

-- the first summand apart
sum_to_front : (n : ℕ) (f : ℕ → ℕ) → sum_to (suc n) f ≡ f 0 + sum_to n (λ v. f (suc v))
sum_to_front zero f = omega arith
sum_to_front (suc n) f = let ih = sum_to_front n f in omega arith

by_place : {X : Type 0} (f : X → ℕ) (d : X) (xs : List X) → sum_of f xs ≡ sum_to (length xs) (λ c. f (get_or xs c d))
by_place f d [] = refl
by_place f d (x ∷ xs) =
    let ih = by_place f d xs in
    let front = sum_to_front (length xs) (λ c. f (get_or (x ∷ xs) c d)) in
    omega arith

-- summands of 0 change nothing
sum_to_more : (m n : ℕ) (f : ℕ → ℕ) → n ≤ m → ((c : ℕ) → n ≤ c → f c ≡ 0) → sum_to m f ≡ sum_to n f
sum_to_more m zero f l none = none_at m
  where
    none_at : (k : ℕ) → sum_to k f ≡ 0
    none_at zero = refl
    none_at (suc k) = let ih = none_at k in let z = none k (omega arith) in omega arith
sum_to_more zero (suc n) f l none = absurd (omega arith)
sum_to_more (suc m) (suc n) f l none =
    let a = sum_to_front m f in
    let b = sum_to_front n f in
    let ih = sum_to_more m n (λ v. f (suc v)) (omega arith) (λ c h. none (suc c) (omega arith)) in
    omega arith

on_slot : (x : Slot) → on_maximal (λ t. one (cluster_active t)) x ≡ one (slot_active x)
on_slot (maximal t) = refl
on_slot inside = refl

pub growing_count : (net : Net) (t : Tables) (st : State) → Formed (node_count net) st.slots → ShowsAll net t st → growing t.family.clusters ≡ active_count st
growing_count net t st formed shows =
    let ts = st.slots in
    let cs = t.family.clusters in
    let w = t.family.whole in
    let k = t.family.within in
    let e = shows.shown.count in
    sum_to_same (length cs) (λ c. one (is_growing (get_or cs c vacant))) (λ c. one (active_at ts c)) (λ c l. ap one (growing_any net t st formed shows c))
    ∙ sum_to_more (length cs) (length ts) (λ c. one (active_at ts c)) (omega arith) (λ c l. ap one (idle_past net t st formed shows c l))
    ∙ sum_to_same (length ts) (λ c. one (active_at ts c)) (λ c. on_maximal (λ t. one (cluster_active t)) (get_or ts c inside)) (λ c l. sym (on_slot (get_or ts c inside)))
    ∙ sym (by_place (on_maximal (λ t. one (cluster_active t))) inside ts)
