-- So many steps of growth: what every state keeps, how many clusters stay active, and when growth ends.
use Rattle.std.proofs.Common.{◌≡◌, ℕ, zero, suc, ◌+◌, ◌-◌, ◌*◌, ◌<◌, ◌≤◌, Bool, true, false, ◌⊎◌, List, length, get_or, Some, None, Option, sym, refl, ap, ◌∙◌, subst, inl, inr, arith}
use Rattle.std.proofs.lemmas.Bool.{cases_Bool, cond-true, ltb-true, ltb-false, lt-ltb}
use Rattle.network.specs.Nets.{Net}
use Rattle.theory.specs.Sums.{one}
use Rattle.theory.specs.Nets.{node_count}
use Rattle.theory.specs.Clusters.{Cluster, Slot, cluster_active, over_maximal}
use Rattle.theory.specs.Clusters.Cluster.{merged}
use Rattle.theory.specs.Clusters.Slot.{inside}
use Rattle.theory.specs.Due.{earliest, surplus, cluster_due, due_times}
use Rattle.theory.specs.Growth.{State, fresh, widen, inactivate, pass, advance, active_count, ended, unless_ended, step, grow}
use Rattle.theory.proofs.Families.{maximal_plus, maximal_le}
use Rattle.theory.proofs.Slots.{maximal_at, all_maximal, set_sum, deactivate_is, join, merge_is, join_sum, join_new, widen_active, pass_over, pass_maximal}
use Rattle.theory.proofs.Sharing.{some_maximal}
use Rattle.theory.proofs.Invariant.{Inv, May, inv_start, inactivate_active, lone_over, sum_of_const}
use Rattle.theory.specs.Laws.{AcceptedExactly, EndsInTime}
use Rattle.theory.proofs.Bools.{one_true, one_false, one_most, one_is}
use Rattle.std.specs.List.{range_with_len}
use Rattle.std.proofs.lemmas.List.FromFn.{length-range_with_len}
use Rattle.theory.proofs.Valid.{Fine}
use Rattle.theory.proofs.Earliest.{Earliest, earliest_stands}
use Rattle.theory.proofs.Table.{table_cluster}
use Rattle.theory.proofs.Steps.{Event, below_511, may, happens, inv_event}
use Rattle.theory.proofs.Steps.Event.{deactivates, merges}

-- a step leaves the state, or is accepted
pub data View (net : Net) (st st' : State) : Type 0 where
  rests : active_count st < 2 → st' ≡ st → View net st st'
  moves : 2 ≤ active_count st → (d : ℕ) → May net d st.slots → st'.time ≡ st.time + d → st'.steps ≡ st.steps + 1 → Event net st.slots d st'.slots → View net st st'

abbrev pub Kept : Net → State → Type 0
Kept net st = Inv net st.time st.slots

pub view : (net : Net) → Fine net → (st : State) → Kept net st → View net st (step net st)
view net f st h = elim (cases_Bool (ended st)) [
  | inl e ↦ rests (ltb-true (active_count st) 2 e) (ap (λ b. unless_ended b net st) e)
  | inr e ↦ subst (View net st) (sym (ap (λ b. unless_ended b net st) e)) (go (earliest table) (earliest_stands table) (ltb-false (active_count st) 2 e))
]
  where
    table : List (Option ℕ)
    table = due_times net st.time st.slots

    go : (o : Option (ℕ × ℕ)) → Earliest table o → 2 ≤ active_count st → View net st (advance net st o)
    go None none' two =
        let a = some_maximal (λ t. one (cluster_active t)) st.slots (omega arith) in
        let e : cluster_due net st.time (get_or st.slots a.0 inside) ≡ Some (st.time + surplus net a.1)
        = ap (cluster_due net st.time) a.2 ∙ cond-true (cluster_active a.1) (Some (st.time + surplus net a.1)) None (one_is (cluster_active a.1) a.3) in
        absurd (clash (get_or table a.0 None) (st.time + surplus net a.1) (none' a.0) (table_cluster net st.time st.slots a.0 (below_511 net f st.time st.slots h a.0 a.1 a.2) ∙ e))
      where
        clash : (o : Option ℕ) (x : ℕ) → o ≡ None → o ≡ Some x → ⊥
        clash o x p q = let z : ◌≡◌ {A = ℕ} 0 1 = cc in omega arith
    go (Some (t, k)) least two =
        let first : (get_or table k None ≡ Some t) × ((j s : ℕ) → get_or table j None ≡ Some s → t ≤ s) = (least.0, λ j s e. (least.1 j s e).0) in
        let m = may net f st.time st.slots h t k first in
        let x = happens net f st.time st.slots h t k first in
        moves two (t - st.time) m (let z = x.later in omega arith) refl x.event

pub kept_step : (net : Net) (st st' : State) → Kept net st → View net st st' → Kept net st'
kept_step net st st' h (rests few is) = subst (Kept net) (sym is) h
kept_step net st st' h (moves two d m time steps event) = subst (λ t. Inv net t st'.slots) (sym time) (inv_event net st.time d st.slots st'.slots h m event)

pub kept : (net : Net) → Fine net → (k : ℕ) → Kept net (grow net k)
kept net f zero = inv_start net
kept net f (suc k) = kept_step net (grow net k) (step net (grow net k)) (kept net f k) (view net f (grow net k) (kept net f k))

pub view_at : (net : Net) → Fine net → (k : ℕ) → View net (grow net k) (grow net (suc k))
view_at net f k = view net f (grow net k) (kept net f k)

-- each active maximal cluster counts twice, each other once
abbrev pub mass : List Slot → ℕ
mass ts = over_maximal (λ t. 1 + one (cluster_active t)) ts

abbrev actives : List Slot → ℕ
actives ts = over_maximal (λ t. one (cluster_active t)) ts

fall : (net : Net) (ts us : List Slot) (d : ℕ) → Event net ts d us → 2 ≤ actives ts → (mass us + 1 ≤ mass ts) × (1 ≤ actives us)
fall net ts us d (deactivates c t e g tight is) two =
    let at = pass_maximal d ts c t e in
    let M : Cluster → ℕ = λ u. 1 + one (cluster_active u) in
    let A : Cluster → ℕ = λ u. one (cluster_active u) in
    let same = widen_active d t in
    let a = set_sum M (pass d ts) c (widen d t) (inactivate (widen d t)) at in
    let b = set_sum A (pass d ts) c (widen d t) (inactivate (widen d t)) at in
    let x = pass_over d M (λ u. ap (λ z. 1 + one z) (widen_active d u)) ts in
    let y = pass_over d A (λ u. ap one (widen_active d u)) ts in
    let i = one_true (cluster_active (widen d t)) (same ∙ g) in
    let j = one_false (cluster_active (inactivate (widen d t))) (inactivate_active (widen d t)) in
    let eq = is ∙ deactivate_is (pass d ts) c (widen d t) at in
    let eq₁ = ap mass eq in
    let eq₂ = ap actives eq in
    (omega arith, omega arith)
fall net ts us d (merges e x ne known some-active tight is) two =
    let at_p = pass_maximal d ts x.p x.l x.pl in
    let at_q = pass_maximal d ts x.q x.r x.qr in
    let l = widen d x.l in
    let r = widen d x.r in
    let new = merged fresh (length (pass d ts)) e l r in
    let M : Cluster → ℕ = λ u. 1 + one (cluster_active u) in
    let A : Cluster → ℕ = λ u. one (cluster_active u) in
    let a = join_sum (pass d ts) x.p x.q l r new at_p at_q ne M in
    let b = maximal_at A (join (pass d ts) x.p x.q new) (length (pass d ts)) new (join_new (pass d ts) x.p x.q l r new at_p at_q ne) in
    let y = pass_over d M (λ u. ap (λ z. 1 + one z) (widen_active d u)) ts in
    let eq = is ∙ merge_is (pass d ts) x.p x.q e l r at_p at_q in
    let eq₁ = ap mass eq in
    let eq₂ = ap actives eq in
    let i : one (cluster_active l) ≡ one (cluster_active x.l) = ap one (widen_active d x.l) in
    let j : one (cluster_active r) ≡ one (cluster_active x.r) = ap one (widen_active d x.r) in
    let k = either_active (cluster_active x.l) (cluster_active x.r) some-active in
    (omega arith, omega arith)
  where
    either_active : (p q : Bool) → (p ≡ false → q ≡ false → ⊥) → 1 ≤ one p + one q
    either_active true q f = omega arith
    either_active false true f = omega arith
    either_active false false f = absurd (f refl refl)

-- two for each active one
pub twice_active : (ts : List Slot) → 2 * actives ts ≤ mass ts
twice_active ts =
    let A : Cluster → ℕ = λ u. one (cluster_active u) in
    let a = maximal_plus (λ u. 1) A ts in
    let b = maximal_le (λ u. Unit {0}) A (λ u. 1) (λ u z. one_most (cluster_active u)) ts (all_maximal (λ u. Unit {0}) ts (λ c t e. tt)) in
    omega arith

-- counts: the mass falls with each accepted step, and one cluster stays active
pub record Counted (net : Net) (st : State) : Type 0 where
  pub falls : mass st.slots + st.steps ≤ 2 * node_count net
  pub active : 1 ≤ node_count net → 1 ≤ active_count st
  pub early : node_count net ≡ 0 → st.time ≡ 0

counted_step : (net : Net) (st st' : State) → Counted net st → View net st st' → Counted net st'
counted_step net st st' h (rests few is) = subst (Counted net) (sym is) h
counted_step net st st' h (moves two d m time steps event) =
    let a = fall net st.slots st'.slots d event two in
    let b = twice_active st.slots in
    let k = h.falls in
    record { falls = omega (arith, a.0); active = λ l. a.1; early = λ e. absurd (omega arith) }

pub counted : (net : Net) → Fine net → (k : ℕ) → Counted net (grow net k)
counted net f zero =
    let vs = range_with_len 0 (node_count net) in
    let a = lone_over (λ u. 1 + one (cluster_active u)) vs in
    let b = sum_of_const 2 vs in
    let c = lone_over (λ u. one (cluster_active u)) vs in
    let d = sum_of_const 1 vs in
    let e = length-range_with_len 0 (node_count net) in
    record { falls = omega arith; active = λ l. omega arith; early = λ i. refl }
counted net f (suc k) = counted_step net (grow net k) (step net (grow net k)) (counted net f k) (view_at net f k)

-- every request was accepted, or growth has ended
all_accepted : (net : Net) → Fine net → (k : ℕ) → ((grow net k).steps ≡ k) ⊎ (active_count (grow net k) < 2)
all_accepted net f zero = inl refl
all_accepted net f (suc k) = by (view_at net f k) (all_accepted net f k)
  where
    by : View net (grow net k) (grow net (suc k)) → ((grow net k).steps ≡ k) ⊎ (active_count (grow net k) < 2) → ((grow net (suc k)).steps ≡ suc k) ⊎ (active_count (grow net (suc k)) < 2)
    by (rests few is) h = inr (subst (λ s. active_count s < 2) (sym is) few)
    by (moves two d m time steps event) (inl e) = inl (omega arith)
    by (moves two d m time steps event) (inr few) = absurd (omega arith)

pub accepted_exactly : (net : Net) → Fine net → (k : ℕ) → AcceptedExactly net k
accepted_exactly net f k = by (view_at net f k)
  where
    by : View net (grow net k) (grow net (suc k)) → AcceptedExactly net k
    by (rests few is) = ((λ two. absurd (omega arith)), λ l. is)
    by (moves two d m time steps event) = ((λ l. steps), λ few. absurd (omega arith))

pub ends_in_time : (net : Net) → Fine net → (k : ℕ) → EndsInTime net k
ends_in_time net f k some =
    let c = counted net f k in
    let a = c.falls in
    let b = c.active some in
    let t = twice_active (grow net k).slots in (
      omega arith,
      (λ l. lt-ltb (active_count (grow net k)) 2 (omega arith)),
      λ l. elim (all_accepted net f k) [
        | inl e ↦ lt-ltb (active_count (grow net k)) 2 (omega arith)
        | inr few ↦ lt-ltb (active_count (grow net k)) 2 few
      ],
    )
