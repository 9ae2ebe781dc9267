-- Counting back: at every moment of growth the maximal clusters that a plan meets are joined by its edges, and the moats pay for them.
use Rattle.std.proofs.Common.{◌≡◌, ℕ, zero, suc, ◌+◌, ◌*◌, ◌≤◌, Bool, true, false, cond, ◌&&◌, ◌||◌, List, [], ◌∷◌, length, get_or, set, sym, refl, ap, ◌∙◌, subst, inl, inr, mul-le-mul_left, arith}
use Rattle.std.specs.List.{AllByRecursion, range_with_len}
use Rattle.std.proofs.lemmas.Bool.{cases_Bool, cases_eq, both_ways, cond-true, cond-false}
use Rattle.std.proofs.lemmas.List.{get_or-set_same, get_or-set_other}
use Rattle.network.specs.Nets.{Net}
use Rattle.theory.specs.Sums.{sum_of, sum_to, one, differ}
use Rattle.theory.specs.Nets.{node_count, edge_count, first_end, second_end}
use Rattle.theory.specs.Clusters.{Cluster, Slot, moat, cluster_active, holds, under, splits, Deep, OnMaximal, over_maximal, over_all, Every}
use Rattle.theory.specs.Clusters.Cluster.{node, merged}
use Rattle.theory.specs.Clusters.Slot.{maximal, inside}
use Rattle.theory.specs.Growth.{State, fresh, widen, inactivate, pass, grow}
use Rattle.theory.specs.Prune.{degree}
use Rattle.theory.proofs.Bools.{one_true, one_false}
use Rattle.theory.proofs.Sums.{sum_to_same, sum_to_plus}
use Rattle.theory.proofs.Families.{deep_head}
use Rattle.theory.proofs.Slots.{maximal_below, maximal_all, all_maximal, same_maximal, set_sum, deactivate_is, join, merge_is, join_sum, join_other, join_new, widen_holds, pass_all, pass_over, pass_maximal}
use Rattle.theory.proofs.Sharing.{apart}
use Rattle.theory.proofs.Invariant.{Inv, lone_over}
use Rattle.theory.proofs.Inside.{touches}
use Rattle.theory.proofs.Rings.{between}
use Rattle.theory.proofs.Valid.{Fine}
use Rattle.theory.proofs.Steps.{Event}
use Rattle.theory.proofs.Steps.Event.{deactivates, merges}
use Rattle.theory.proofs.Runs.{View, view_at, kept}
use Rattle.theory.proofs.Runs.View.{rests, moves}

-- between the parts of a cluster a plan has one edge if it meets both, and none otherwise
abbrev pub BetweenAt : Net → (ℕ → Bool) → (ℕ → Bool) → Cluster → Type 0
BetweenAt net N E (node o v) = Unit {0}
BetweenAt net N E (merged o c e l r) = sum_to (edge_count net) (λ s. one (E s && between net l r s)) ≡ one (touches N l && touches N r)

-- and two edges leave an inactive cluster that it meets
abbrev pub Busy : Net → (ℕ → Bool) → (ℕ → Bool) → Cluster → Type 0
Busy net N E u = (cluster_active u ≡ false → touches N u ≡ true → 2 ≤ degree net E u) × BetweenAt net N E u

pub record Good (net : Net) (N E : ℕ → Bool) (ts : List Slot) : Type 0 where
  pub balance : over_maximal (degree net E) ts + 2 ≡ 2 * over_maximal (λ t. one (touches N t)) ts
  pub busy : Every (Busy net N E) ts

point : (x la lb ra rb : Bool) → (la ≡ true → ra ≡ false) → (lb ≡ true → rb ≡ false) →
    one (x && differ la lb) + one (x && differ ra rb) ≡ one (x && differ (la || ra) (lb || rb)) + (one (x && ((la && rb) || (lb && ra))) + one (x && ((la && rb) || (lb && ra))))
point false la lb ra rb f g = refl
point true true true true rb f g = absurd (both_ways true (f refl) refl)
point true true true false true f g = absurd (both_ways true (g refl) refl)
point true true true false false f g = refl
point true true false true rb f g = absurd (both_ways true (f refl) refl)
point true true false false true f g = refl
point true true false false false f g = refl
point true false true true true f g = absurd (both_ways true (g refl) refl)
point true false true true false f g = refl
point true false true false true f g = absurd (both_ways true (g refl) refl)
point true false true false false f g = refl
point true false false true true f g = refl
point true false false true false f g = refl
point true false false false true f g = refl
point true false false false false f g = refl

module _ (net : Net) (N E : ℕ → Bool) where
  abbrev m : ℕ
  m = edge_count net

  -- two clusters merge: the edges between them leave neither any more
  degree_merged : (o : _) (c e : ℕ) (l r : Cluster) → ((v : ℕ) → holds l v ≡ true → holds r v ≡ false) →
      degree net E l + degree net E r ≡ degree net E (merged o c e l r) + 2 * sum_to (edge_count net) (λ s. one (E s && between net l r s))
  degree_merged o c e l r f =
      let A : ℕ → ℕ = λ s. one (E s && splits l (first_end net s) (second_end net s)) in
      let B : ℕ → ℕ = λ s. one (E s && splits r (first_end net s) (second_end net s)) in
      let C : ℕ → ℕ = λ s. one (E s && splits (merged o c e l r) (first_end net s) (second_end net s)) in
      let D : ℕ → ℕ = λ s. one (E s && between net l r s) in
      let x = sum_to_same m (λ s. A s + B s) (λ s. C s + (D s + D s)) (λ s b. point (E s) (holds l (first_end net s)) (holds l (second_end net s)) (holds r (first_end net s)) (holds r (second_end net s)) (f (first_end net s)) (f (second_end net s))) in
      let y = sum_to_plus m A B in
      let z = sum_to_plus m C (λ s. D s + D s) in
      let w = sum_to_plus m D D in
      omega arith

  widen_degree : (d : ℕ) (t : Cluster) → degree net E (widen d t) ≡ degree net E t
  widen_degree d (node o v) = refl
  widen_degree d (merged o c e l r) = refl

  inactivate_degree : (t : Cluster) → degree net E (inactivate t) ≡ degree net E t
  inactivate_degree (node o v) = refl
  inactivate_degree (merged o c e l r) = refl

  widen_touches : (d : ℕ) (t : Cluster) → touches N (widen d t) ≡ touches N t
  widen_touches d (node o v) = refl
  widen_touches d (merged o c e l r) = refl

  inactivate_touches : (t : Cluster) → touches N (inactivate t) ≡ touches N t
  inactivate_touches (node o v) = refl
  inactivate_touches (merged o c e l r) = refl

  back_widen : (d : ℕ) (t : Cluster) → Deep (Busy net N E) (widen d t) → Deep (Busy net N E) t
  back_widen d (node o v) h = h
  back_widen d (merged o c e l r) h = h

  back_inactivate : (d : ℕ) (t : Cluster) → cluster_active t ≡ true → Deep (Busy net N E) (inactivate (widen d t)) → Deep (Busy net N E) t
  back_inactivate d (node o v) g h = ((λ dead. absurd (both_ways (cluster_active (node o v)) dead g)), h.1)
  back_inactivate d (merged o c e l r) g h = (((λ dead. absurd (both_ways (cluster_active (merged o c e l r)) dead g)), h.0.1), h.1, h.2)

  one_both : (x y : Bool) → one (x || y) + one (x && y) ≡ one x + one y
  one_both true true = refl
  one_both true false = refl
  one_both false true = refl
  one_both false false = refl

  -- what is good after an event was good before it
  back : (time d : ℕ) (ts us : List Slot) → Inv net time ts → Event net ts d us → Good net N E us → Good net N E ts
  back time d ts us h (deactivates c t e g tight is) good = record { balance = balance; busy = busy }
    where
      vs : List Slot
      vs = set (pass d ts) c (maximal (inactivate (widen d t)))

      at : get_or (pass d ts) c inside ≡ maximal (widen d t)
      at = pass_maximal d ts c t e

      us_is : us ≡ vs
      us_is = is ∙ deactivate_is (pass d ts) c (widen d t) at

      good' : Good net N E vs
      good' = subst (Good net N E) us_is good

      balance : over_maximal (degree net E) ts + 2 ≡ 2 * over_maximal (λ t. one (touches N t)) ts
      balance =
          let a = set_sum (degree net E) (pass d ts) c (widen d t) (inactivate (widen d t)) at in
          let b = set_sum (λ t. one (touches N t)) (pass d ts) c (widen d t) (inactivate (widen d t)) at in
          let i = inactivate_degree (widen d t) in
          let j = ap one (inactivate_touches (widen d t)) in
          let x = pass_over d (degree net E) (widen_degree d) ts in
          let y = pass_over d (λ t. one (touches N t)) (λ t. ap one (widen_touches d t)) ts in
          let k = good'.balance in
          omega arith

      busy : Every (Busy net N E) ts
      busy = all_maximal (Deep (Busy net N E)) ts (λ k w q. elim (cases_eq k c) [
        | inl s ↦
            let same = same_maximal t w (sym e ∙ ap (λ i. get_or ts i inside) (sym s) ∙ q) in
            let there' : get_or vs c inside ≡ maximal (inactivate (widen d t)) = get_or-set_same (pass d ts) c (maximal (inactivate (widen d t))) inside (maximal_below (pass d ts) c (widen d t) at) in
            subst (Deep (Busy net N E)) same (back_inactivate d t g (maximal_all (Deep (Busy net N E)) vs c (inactivate (widen d t)) good'.busy there'))
        | inr s ↦ back_widen d w (maximal_all (Deep (Busy net N E)) vs k (widen d w) good'.busy (get_or-set_other (pass d ts) c k (maximal (inactivate (widen d t))) inside s ∙ pass_maximal d ts k w q))
      ])
  back time d ts us h (merges e x ne known some-active tight is) good = record { balance = balance; busy = busy }
    where
      l : Cluster
      l = widen d x.l

      r : Cluster
      r = widen d x.r

      at_p : get_or (pass d ts) x.p inside ≡ maximal (widen d x.l)
      at_p = pass_maximal d ts x.p x.l x.pl

      at_q : get_or (pass d ts) x.q inside ≡ maximal (widen d x.r)
      at_q = pass_maximal d ts x.q x.r x.qr

      new : Cluster
      new = merged fresh (length (pass d ts)) e (widen d x.l) (widen d x.r)

      vs : List Slot
      vs = join (pass d ts) x.p x.q new

      good' : Good net N E vs
      good' = subst (Good net N E) (is ∙ merge_is (pass d ts) x.p x.q e (widen d x.l) (widen d x.r) at_p at_q) good

      new_busy : Deep (Busy net N E) new
      new_busy = maximal_all (Deep (Busy net N E)) vs (length (pass d ts)) new good'.busy (join_new (pass d ts) x.p x.q (widen d x.l) (widen d x.r) new at_p at_q ne)

      off : (v : ℕ) → holds (widen d x.l) v ≡ true → holds (widen d x.r) v ≡ false
      off v k = widen_holds d x.r v ∙ apart (node_count net) ts h.shared x.p x.q x.l x.r v x.pl x.qr ne (sym (widen_holds d x.l v) ∙ k)

      balance : over_maximal (degree net E) ts + 2 ≡ 2 * over_maximal (λ t. one (touches N t)) ts
      balance =
          let a = join_sum (pass d ts) x.p x.q (widen d x.l) (widen d x.r) new at_p at_q ne (degree net E) in
          let b = join_sum (pass d ts) x.p x.q (widen d x.l) (widen d x.r) new at_p at_q ne (λ t. one (touches N t)) in
          let i = degree_merged fresh (length (pass d ts)) e (widen d x.l) (widen d x.r) off in
          let j = one_both (touches N (widen d x.l)) (touches N (widen d x.r)) in
          let w = new_busy.0.1 in
          let y = pass_over d (degree net E) (widen_degree d) ts in
          let z = pass_over d (λ t. one (touches N t)) (λ t. ap one (widen_touches d t)) ts in
          let k = good'.balance in
          omega arith

      busy : Every (Busy net N E) ts
      busy = all_maximal (Deep (Busy net N E)) ts (λ k w q. elim (cases_eq k x.p) [
        | inl s ↦ subst (Deep (Busy net N E)) (same_maximal x.l w (sym x.pl ∙ ap (λ i. get_or ts i inside) (sym s) ∙ q)) (back_widen d x.l new_busy.1)
        | inr s ↦ elim (cases_eq k x.q) [
          | inl s' ↦ subst (Deep (Busy net N E)) (same_maximal x.r w (sym x.qr ∙ ap (λ i. get_or ts i inside) (sym s') ∙ q)) (back_widen d x.r new_busy.2)
          | inr s' ↦ back_widen d w (maximal_all (Deep (Busy net N E)) vs k (widen d w) good'.busy
              (join_other (pass d ts) x.p x.q (widen d x.l) (widen d x.r) new at_p at_q ne k (maximal_below (pass d ts) k (widen d w) (pass_maximal d ts k w q)) s s' ∙ pass_maximal d ts k w q))
        ]
      ])

  -- the inactive ones set apart
  active_split : (ts : List Slot) → AllByRecursion (OnMaximal (λ t. cluster_active t ≡ false → touches N t ≡ true → 2 ≤ degree net E t)) ts →
      2 * over_maximal (λ t. one (touches N t)) ts + over_maximal (λ t. cond (cluster_active t) (degree net E t) 0) ts
      ≤ over_maximal (λ t. cond (cluster_active t) (2 * one (touches N t)) 0) ts + over_maximal (degree net E) ts
  active_split [] h = omega arith
  active_split (inside ∷ ts) h = let ih = active_split ts h.1 in omega arith
  active_split (maximal t ∷ ts) h =
      let ih = active_split ts h.1 in
      elim (cases_Bool (cluster_active t)) [
        | inl g ↦ let a = cond-true (cluster_active t) (degree net E t) 0 g in let b = cond-true (cluster_active t) (2 * one (touches N t)) 0 g in omega arith
        | inr g ↦
            let a = cond-false (cluster_active t) (degree net E t) 0 g in
            let b = cond-false (cluster_active t) (2 * one (touches N t)) 0 g in
            elim (cases_Bool (touches N t)) [
              | inl q ↦ let z = one_true (touches N t) q in let k = h.0 g q in omega arith
              | inr q ↦ let z = one_false (touches N t) q in omega arith
            ]
      ]

  grows : (ts : List Slot) → Good net N E ts → over_maximal (λ t. cond (cluster_active t) (degree net E t) 0) ts + 2 ≤ over_maximal (λ t. cond (cluster_active t) (2 * one (touches N t)) 0) ts
  grows ts good =
      let a = active_split ts (all_maximal (λ t. cluster_active t ≡ false → touches N t ≡ true → 2 ≤ degree net E t) ts (λ c t e. (deep_head (Busy net N E) t (maximal_all (Deep (Busy net N E)) ts c t good.busy e)).0)) in
      let b = good.balance in
      omega arith

  -- what the edges left cost the moats
  abbrev pub PaidFor : ℕ → List Slot → Type 0
  PaidFor time ts = over_all (λ u. moat u * degree net E u) ts + 2 * time ≤ over_all (λ u. moat u * (2 * one (touches N u))) ts

  inactivate_under : (K : Cluster → ℕ) → ((t : Cluster) → K (inactivate t) ≡ K t) → (t : Cluster) → under (λ u. moat u * K u) (inactivate t) ≡ under (λ u. moat u * K u) t
  inactivate_under K f (node o v) = ap (λ k. o.moat * k) (f (node o v))
  inactivate_under K f (merged o c e l r) = let a : o.moat * K (inactivate (merged o c e l r)) ≡ o.moat * K (merged o c e l r) = ap (λ k. o.moat * k) (f (merged o c e l r)) in omega arith

  -- an event changes no sum over moats
  pub event_sum : (d : ℕ) (ts us : List Slot) → Event net ts d us → (K : Cluster → ℕ) → ((t : Cluster) → K (inactivate t) ≡ K t) → over_all (λ u. moat u * K u) us ≡ over_all (λ u. moat u * K u) (pass d ts)
  event_sum d ts us (deactivates c t e g tight is) K f =
      let at = pass_maximal d ts c t e in
      let a = set_sum (under (λ u. moat u * K u)) (pass d ts) c (widen d t) (inactivate (widen d t)) at in
      let b = inactivate_under K f (widen d t) in
      let i = ap (over_all (λ u. moat u * K u)) (is ∙ deactivate_is (pass d ts) c (widen d t) at) in
      omega arith
  event_sum d ts us (merges e x ne known some-active tight is) K f =
      let at_p = pass_maximal d ts x.p x.l x.pl in
      let at_q = pass_maximal d ts x.q x.r x.qr in
      let new = merged fresh (length (pass d ts)) e (widen d x.l) (widen d x.r) in
      let a = join_sum (pass d ts) x.p x.q (widen d x.l) (widen d x.r) new at_p at_q ne (under (λ u. moat u * K u)) in
      let i = ap (over_all (λ u. moat u * K u)) (is ∙ merge_is (pass d ts) x.p x.q e (widen d x.l) (widen d x.r) at_p at_q) in
      omega arith

  pub paid_for : Fine net → (k : ℕ) → Good net N E (grow net k).slots → PaidFor (grow net k).time (grow net k).slots
  paid_for f zero good =
      let vs = range_with_len 0 (node_count net) in
      let a = lone_over (under (λ u. moat u * degree net E u)) vs in
      let b = none vs in
      omega arith
    where
      none : (ws : List ℕ) → sum_of (λ v. under (λ u. moat u * degree net E u) (node fresh v)) ws ≡ 0
      none [] = refl
      none (w ∷ ws) = let ih = none ws in omega arith
  paid_for f (suc k) good = by (view_at net f k) (paid_for f k)
    where
      st : State
      st = grow net k

      by : View net (grow net k) (grow net (suc k)) → (Good net N E (grow net k).slots → PaidFor (grow net k).time (grow net k).slots) → PaidFor (grow net (suc k)).time (grow net (suc k)).slots
      by (rests few is) ih = subst (λ s. PaidFor s.time s.slots) (sym is) (ih (subst (λ s. Good net N E s.slots) is good))
      by (moves two d may time steps event) ih =
          let before = back st.time d st.slots (grow net (suc k)).slots (kept net f k) event good in
          let old = ih before in
          let a = event_sum d st.slots (grow net (suc k)).slots event (degree net E) inactivate_degree in
          let b = event_sum d st.slots (grow net (suc k)).slots event (λ u. 2 * one (touches N u)) (λ t. ap (λ z. 2 * one z) (inactivate_touches t)) in
          let i = pass_all d (degree net E) (widen_degree d) st.slots in
          let j = pass_all d (λ u. 2 * one (touches N u)) (λ t. ap (λ z. 2 * one z) (widen_touches d t)) st.slots in
          let g = mul-le-mul_left d (grows st.slots before) in
          omega arith
