-- Walks: joined end to end, turned round, over more edges, and over the border of a set. Assumes nothing.
use Rattle.std.proofs.Common.{◌≡◌, ℕ, Bool, true, false, inl, inr}
use Rattle.std.proofs.lemmas.Bool.{cases_Bool, both_ways}
use Rattle.network.specs.Nets.{Net}
use Rattle.theory.specs.Sums.{differ}
use Rattle.theory.specs.Nets.{first_end, second_end}
use Rattle.theory.specs.Trees.{Walk}
use Rattle.theory.specs.Trees.Walk.{stay, there, back}
use Rattle.theory.proofs.Bools.{differs_first, differs_second}

pub walk_on : {net : Net} {E : ℕ → Bool} {u v w : ℕ} → Walk net E u v → Walk net E v w → Walk net E u w
walk_on stay q = q
walk_on (there s h p) q = there s h (walk_on p q)
walk_on (back s h p) q = back s h (walk_on p q)

-- over edges of a set with at least these
pub walk_more : {net : Net} {E : ℕ → Bool} (F : ℕ → Bool) → ((s : ℕ) → E s ≡ true → F s ≡ true) → {u v : ℕ} → Walk net E u v → Walk net F u v
walk_more F f stay = stay
walk_more F f (there s h p) = there s (f s h) (walk_more F f p)
walk_more F f (back s h p) = back s (f s h) (walk_more F f p)

-- a walk that leaves a set goes over an edge with just one end in it
pub crossing : (net : Net) (E S : ℕ → Bool) {u v : ℕ} → Walk net E u v → S u ≡ true → S v ≡ false →
    (s : ℕ) × (E s ≡ true) × (differ (S (first_end net s)) (S (second_end net s)) ≡ true)
crossing net E S {u} stay hu hv = absurd (both_ways (S u) hv hu)
crossing net E S (there s h rest) hu hv =
    elim (cases_Bool (S (second_end net s))) [
      | inl yes' ↦ crossing net E S rest yes' hv
      | inr no' ↦ (s, h, differs_first (S (first_end net s)) (S (second_end net s)) hu no')
    ]
crossing net E S (back s h rest) hu hv =
    elim (cases_Bool (S (first_end net s))) [
      | inl yes' ↦ crossing net E S rest yes' hv
      | inr no' ↦ (s, h, differs_second (S (first_end net s)) (S (second_end net s)) no' hu)
    ]

-- a walk the other way
pub walk_turn : {net : Net} {E : ℕ → Bool} {u v : ℕ} → Walk net E u v → Walk net E v u
walk_turn stay = stay
walk_turn (there s h p) = walk_on (walk_turn p) (back s h stay)
walk_turn (back s h p) = walk_on (walk_turn p) (there s h stay)
