-- What a step makes of the cluster of each number, of depths and of the total of moats.
use Rattle.std.proofs.Common.{◌≡◌, ℕ, ◌+◌, ◌*◌, ◌<◌, ◌≤◌, Bool, true, false, cond, eqb, ltb, ◌⊎◌, List, length, get_or, set, Some, None, sym, refl, ap, ◌∙◌, subst, inl, inr, arith}
use Rattle.std.proofs.lemmas.Bool.{eq-eqb, ne_eqb, or_left, or_right, cases_Bool, cases_eq, both_ways, cond-true, cond-false}
use Rattle.std.proofs.lemmas.List.{get_or-set_same, get_or-set_other}
use Rattle.network.specs.Nets.{Net}
use Rattle.theory.specs.Sums.{one}
use Rattle.theory.specs.Nets.{node_count}
use Rattle.theory.specs.Clusters.{Cluster, Slot, standing, cluster_active, moat, number, holds, over_maximal, over_all, depth}
use Rattle.theory.specs.Clusters.Phase.{active, inactive}
use Rattle.theory.specs.Clusters.Cluster.{node, merged}
use Rattle.theory.specs.Clusters.Slot.{maximal, inside}
use Rattle.theory.specs.Due.{maximal_of, slot_active, active_at}
use Rattle.theory.specs.Growth.{fresh, widen, inactivate, pass}
use Rattle.theory.specs.Numbers.{cluster_of, told, parts, parts_of, phase_of, moat_of, slot_maximal, is_maximal}
use Rattle.theory.specs.Prune.{uses, chosen}
use Rattle.theory.proofs.Bools.{one_true, one_most, flip}
use Rattle.theory.proofs.Families.{all_same}
use Rattle.theory.proofs.Slots.{maximal_at, maximal_below, same_maximal, deactivate_is, join, merge_is, join_new, join_other, widen_holds, pass_maximal, pass_all, pass_length}
use Rattle.theory.proofs.Sharing.{maximal_two, its_maximal}
use Rattle.theory.proofs.Invariant.{Inv, May, inactivate_holds}
use Rattle.theory.proofs.Inside.{Inside, any_at, any_found}
use Rattle.theory.proofs.Inside.Inside.{here, in_left, in_right}
use Rattle.theory.proofs.Valid.{Fine}
use Rattle.theory.proofs.Numbers.{named, Numbered, numbered_event, inside_named, cluster_of_in}
use Rattle.theory.proofs.Table.{maximal_of_is, active_at_is}
use Rattle.theory.proofs.Steps.{Event, inv_event, active_holding}
use Rattle.theory.proofs.Steps.Event.{deactivates, merges}
use Rattle.theory.proofs.Balance.{event_sum}
use Rattle.theory.proofs.Formed.{Ordered, widen_number, inactivate_number, cluster_number, found_at, found, inside_trans, shown}

widen_parts : (d : ℕ) (t : Cluster) → parts (widen d t) ≡ parts t
widen_parts d (node o v) = refl
widen_parts d (merged o c e l r) = refl

inactivate_parts : (t : Cluster) → parts (inactivate t) ≡ parts t
inactivate_parts (node o v) = refl
inactivate_parts (merged o c e l r) = refl

widen_moat : (d : ℕ) (t : Cluster) → moat (widen d t) ≡ moat t + cond (cluster_active t) d 0
widen_moat d (node o v) = refl
widen_moat d (merged o c e l r) = refl

inactivate_moat : (t : Cluster) → moat (inactivate t) ≡ moat t
inactivate_moat (node o v) = refl
inactivate_moat (merged o c e l r) = refl

widen_phase : (d : ℕ) (t : Cluster) → (standing (widen d t)).phase ≡ (standing t).phase
widen_phase d (node o v) = refl
widen_phase d (merged o c e l r) = refl

inactivate_phase : (t : Cluster) → (standing (inactivate t)).phase ≡ inactive
inactivate_phase (node o v) = refl
inactivate_phase (merged o c e l r) = refl

pub widen_uses : (d : ℕ) (t : Cluster) (s : ℕ) → uses (widen d t) s ≡ uses t s
widen_uses d (node o v) s = refl
widen_uses d (merged o c e l r) s = refl

pub inactivate_uses : (t : Cluster) (s : ℕ) → uses (inactivate t) s ≡ uses t s
inactivate_uses (node o v) s = refl
inactivate_uses (merged o c e l r) s = refl

-- a cluster inside another is that one, or stays where it is when the other changes
inside_cases : (d : ℕ) {u t : Cluster} → Inside u t → (u ≡ t) ⊎ (Inside u (widen d t) × Inside u (inactivate (widen d t)) × (number u ≡ number t → 2 ≤ named (number t) t))
inside_cases d here = inl refl
inside_cases d {u} (in_left {c = c} {l = l} i) = inr (in_left i, in_left i, λ e. let a = inside_named i in let b : named (number u) l ≡ named c l = ap (λ k. named k l) e in let x = one_true (eqb c c) (eq-eqb c c refl) in omega arith)
inside_cases d {u} (in_right {c = c} {r = r} i) = inr (in_right i, in_right i, λ e. let a = inside_named i in let b : named (number u) r ≡ named c r = ap (λ k. named k r) e in let x = one_true (eqb c c) (eq-eqb c c refl) in omega arith)

-- the cluster that an event makes inactive
abbrev pub deactivated_by : {net : Net} {ts : List Slot} {d : ℕ} {us : List Slot} → Event net ts d us → ℕ → Bool
deactivated_by (deactivates c t e g tight is) k = eqb k c
deactivated_by (merges e x ne known some-active tight is) k = false

-- what becomes of a maximal cluster
abbrev pub became : Bool → ℕ → Cluster → Cluster
became b d t = cond b (inactivate (widen d t)) (widen d t)

became_number : (b : Bool) (d : ℕ) (t : Cluster) → number (became b d t) ≡ number t
became_number true d t = inactivate_number (widen d t) ∙ widen_number d t
became_number false d t = widen_number d t

pub became_holds : (b : Bool) (d : ℕ) (t : Cluster) (v : ℕ) → holds (became b d t) v ≡ holds t v
became_holds true d t v = inactivate_holds (widen d t) v ∙ widen_holds d t v
became_holds false d t v = widen_holds d t v

became_uses : (b : Bool) (d : ℕ) (t : Cluster) (s : ℕ) → uses (became b d t) s ≡ uses t s
became_uses true d t s = inactivate_uses (widen d t) s ∙ widen_uses d t s
became_uses false d t s = widen_uses d t s

-- where a maximal cluster goes
pub data Goes {net : Net} {ts : List Slot} {d : ℕ} {us : List Slot} (ev : Event net ts d us) (j : ℕ) (t : Cluster) : Type 0 where
  stays : get_or us j inside ≡ maximal (became (deactivated_by ev j) d t) → Goes ev j t
  joins : (w : Cluster) → get_or us (length ts) inside ≡ maximal w → Inside (became (deactivated_by ev j) d t) w → Goes ev j t

pub goes : (net : Net) (ts us : List Slot) (d : ℕ) (ev : Event net ts d us) (j : ℕ) (t : Cluster) → get_or ts j inside ≡ maximal t → Goes ev j t
goes net ts us d (deactivates c t' e g tight is) j t q = elim (cases_eq j c) [
  | inl s ↦
      let same = same_maximal t' t (sym e ∙ ap (λ i. get_or ts i inside) (sym s) ∙ q) in
      stays (eq ∙ ap (λ i. get_or (set (pass d ts) c (maximal (inactivate (widen d t')))) i inside) s ∙ get_or-set_same (pass d ts) c (maximal (inactivate (widen d t'))) inside (maximal_below (pass d ts) c (widen d t') at)
      ∙ ap (λ u. maximal (inactivate (widen d u))) same ∙ ap (λ b. maximal (became b d t)) (sym (eq-eqb j c s)))
  | inr s ↦ stays (eq ∙ get_or-set_other (pass d ts) c j (maximal (inactivate (widen d t'))) inside s ∙ pass_maximal d ts j t q ∙ ap (λ b. maximal (became b d t)) (sym (ne_eqb j c s)))
]
  where
    at : get_or (pass d ts) c inside ≡ maximal (widen d t')
    at = pass_maximal d ts c t' e

    eq : get_or us j inside ≡ get_or (set (pass d ts) c (maximal (inactivate (widen d t')))) j inside
    eq = ap (λ vs. get_or vs j inside) (is ∙ deactivate_is (pass d ts) c (widen d t') at)
goes net ts us d (merges e x ne known some-active tight is) j t q = elim (cases_eq j x.p) [
  | inl s ↦ joins new at_new (subst (λ u. Inside (widen d u) new) (same_maximal x.l t (sym x.pl ∙ ap (λ i. get_or ts i inside) (sym s) ∙ q)) (in_left here))
  | inr s ↦ elim (cases_eq j x.q) [
    | inl s' ↦ joins new at_new (subst (λ u. Inside (widen d u) new) (same_maximal x.r t (sym x.qr ∙ ap (λ i. get_or ts i inside) (sym s') ∙ q)) (in_right here))
    | inr s' ↦ stays (ap (λ vs. get_or vs j inside) eq ∙ join_other (pass d ts) x.p x.q (widen d x.l) (widen d x.r) new at_p at_q ne j (maximal_below (pass d ts) j (widen d t) (pass_maximal d ts j t q)) s s' ∙ pass_maximal d ts j t q)
  ]
]
  where
    at_p : get_or (pass d ts) x.p inside ≡ maximal (widen d x.l)
    at_p = pass_maximal d ts x.p x.l x.pl

    at_q : get_or (pass d ts) x.q inside ≡ maximal (widen d x.r)
    at_q = pass_maximal d ts x.q x.r x.qr

    new : Cluster
    new = merged fresh (length (pass d ts)) e (widen d x.l) (widen d x.r)

    eq : us ≡ join (pass d ts) x.p x.q new
    eq = is ∙ merge_is (pass d ts) x.p x.q e (widen d x.l) (widen d x.r) at_p at_q

    at_new : get_or us (length ts) inside ≡ maximal new
    at_new = ap (λ vs. get_or vs (length ts) inside) eq ∙ ap (λ i. get_or (join (pass d ts) x.p x.q new) i inside) (sym (pass_length d ts)) ∙ join_new (pass d ts) x.p x.q (widen d x.l) (widen d x.r) new at_p at_q ne

module _ (net : Net) (f : Fine net) (time : ℕ) (ts us : List Slot) (d : ℕ) (h : Inv net time ts) (m : May net d ts) (num : Numbered ts) (ord : Ordered ts) (ev : Event net ts d us) where
  pub next : Inv net (time + d) us
  next = inv_event net time d ts us h m ev

  num' : Numbered us
  num' = numbered_event net ts us d ev num

  -- the new place of a cluster inside a maximal one
  placed : (c j : ℕ) (t u : Cluster) → get_or ts j inside ≡ maximal t → Inside u (became (deactivated_by ev j) d t) → number u ≡ c → cluster_of us c ≡ Some u
  placed c j t u e i s = elim (goes net ts us d ev j t e) [
    | stays q ↦ found_at us num' c j (became (deactivated_by ev j) d t) u q i s
    | joins w q k ↦ found_at us num' c (length ts) w u q (inside_trans i k) s
  ]

  -- a number stands for one cluster, so a cluster inside another is not maximal
  buried : (c j : ℕ) (t u : Cluster) → get_or ts j inside ≡ maximal t → 1 ≤ named c t → number u ≡ c → (number u ≡ number t → 2 ≤ named (number t) t) → is_maximal ts c ≡ false
  buried c j t u e one_in s two = go (get_or ts c inside) refl
    where
      most : over_maximal (named c) ts ≤ 1
      most = let a = num c in let b = one_most (ltb c (length ts)) in omega arith

      go : (x : Slot) → get_or ts c inside ≡ x → is_maximal ts c ≡ false
      go inside q = ap slot_maximal q
      go (maximal w) q = elim (cases_eq c j) [
        | inl same ↦
            let tj = ord.slots_named j t e in
            let k : number u ≡ number t = s ∙ same ∙ sym tj in
            let a = two k in
            let b : named (number t) t ≡ named c t = ap (λ i. named i t) (sym k ∙ s) in
            let z = maximal_at (named c) ts j t e in
            absurd (omega (arith, most))
        | inr ne ↦
            let a = maximal_two (named c) ts c j w t q e ne in
            let i : Inside w w = here in
            let b = inside_named i in
            let k : named (number w) w ≡ named c w = ap (λ i. named i w) (ord.slots_named c w q) in
            absurd (omega (arith, most))
      ]

  -- what becomes of the cluster of a number
  moved : (c : ℕ) (u : Cluster) → cluster_of ts c ≡ Some u → cluster_of us c ≡ Some (cond (is_maximal ts c) (became (deactivated_by ev c) d u) u)
  moved c u e = go (cluster_of_in ts c u e)
    where
      s : number u ≡ c
      s = cluster_number ts c u e

      go : (j : ℕ) × (t : Cluster) × (get_or ts j inside ≡ maximal t) × Inside u t → cluster_of us c ≡ Some (cond (is_maximal ts c) (became (deactivated_by ev c) d u) u)
      go (j, t, at, i) = elim (inside_cases d i) [
        | inl q ↦
            let jc : j ≡ c = sym (ord.slots_named j t at) ∙ ap number (sym q) ∙ s in
            let maximal-c : is_maximal ts c ≡ true = ap (is_maximal ts) (sym jc) ∙ ap slot_maximal at in
            let p = placed c j t (became (deactivated_by ev j) d t) at here (became_number (deactivated_by ev j) d t ∙ ap number (sym q) ∙ s) in
            p ∙ ap (λ b. Some (became b d t)) (ap (deactivated_by ev) jc) ∙ ap (λ w. Some (became (deactivated_by ev c) d w)) (sym q) ∙ ap Some (sym (cond-true (is_maximal ts c) (became (deactivated_by ev c) d u) u maximal-c))
        | inr q ↦
            let in' : Inside u (became (deactivated_by ev j) d t) = pick (deactivated_by ev j) t q.0 q.1 in
            let one_in : 1 ≤ named c t = let a = inside_named i in let b : named (number u) t ≡ named c t = ap (λ k. named k t) s in omega arith in
            placed c j t u at in' s ∙ ap Some (sym (cond-false (is_maximal ts c) (became (deactivated_by ev c) d u) u (buried c j t u at one_in s q.2)))
      ]
        where
          pick : (b : Bool) (w : Cluster) → Inside u (widen d w) → Inside u (inactivate (widen d w)) → Inside u (became b d w)
          pick true w x y = y
          pick false w x y = x

  -- a maximal cluster's number, and any other
  active_not : (c : ℕ) → is_maximal ts c ≡ false → active_at ts c ≡ false
  active_not c k = by (get_or ts c inside) refl
    where
      by : (x : Slot) → get_or ts c inside ≡ x → active_at ts c ≡ false
      by inside q = ap slot_active q
      by (maximal t) q = absurd (both_ways (is_maximal ts c) k (ap slot_maximal q))

  active_is : (c : ℕ) (u : Cluster) → cluster_of ts c ≡ Some u → is_maximal ts c ≡ true → active_at ts c ≡ cluster_active u
  active_is c u e k = by (get_or ts c inside) refl
    where
      by : (x : Slot) → get_or ts c inside ≡ x → active_at ts c ≡ cluster_active u
      by inside q = absurd (both_ways (is_maximal ts c) (ap slot_maximal q) k)
      by (maximal t) q = let s : Some t ≡ Some u = sym (shown (node_count net) ts h.shared num ord c t q) ∙ e in let v : t ≡ u = cc in ap slot_active q ∙ ap cluster_active v

  pub parts_kept : (c : ℕ) → c < length ts → parts_of us c ≡ parts_of ts c
  parts_kept c l =
      let u = found ts num c l in
      ap (told parts None) (moved c u.0 u.1) ∙ by (is_maximal ts c) (deactivated_by ev c) u.0 ∙ sym (ap (told parts None) u.1)
    where
      by : (a b : Bool) (w : Cluster) → parts (cond a (became b d w) w) ≡ parts w
      by true true w = inactivate_parts (widen d w) ∙ widen_parts d w
      by true false w = widen_parts d w
      by false b w = refl

  pub moats_grow : (c : ℕ) → c < length ts → moat_of us c ≡ moat_of ts c + cond (active_at ts c) d 0
  moats_grow c l =
      let u = found ts num c l in
      let a : moat_of us c ≡ moat (cond (is_maximal ts c) (became (deactivated_by ev c) d u.0) u.0) = ap (told moat 0) (moved c u.0 u.1) in
      let b : moat_of ts c ≡ moat u.0 = ap (told moat 0) u.1 in
      elim (cases_Bool (is_maximal ts c)) [
        | inl k ↦
            let x = by (deactivated_by ev c) u.0 in
            let y : moat (cond (is_maximal ts c) (became (deactivated_by ev c) d u.0) u.0) ≡ moat (became (deactivated_by ev c) d u.0) = ap moat (cond-true (is_maximal ts c) (became (deactivated_by ev c) d u.0) u.0 k) in
            let z : cond (active_at ts c) d 0 ≡ cond (cluster_active u.0) d 0 = ap (λ w. cond w d 0) (active_is c u.0 u.1 k) in
            omega arith
        | inr k ↦
            let y : moat (cond (is_maximal ts c) (became (deactivated_by ev c) d u.0) u.0) ≡ moat u.0 = ap moat (cond-false (is_maximal ts c) (became (deactivated_by ev c) d u.0) u.0 k) in
            let z : cond (active_at ts c) d 0 ≡ 0 = cond-false (active_at ts c) d 0 (active_not c k) in
            omega arith
      ]
    where
      by : (b : Bool) (w : Cluster) → moat (became b d w) ≡ moat w + cond (cluster_active w) d 0
      by true w = inactivate_moat (widen d w) ∙ widen_moat d w
      by false w = widen_moat d w

  -- the state of a maximal cluster that an event makes inactive
  pub phases_kept : (c : ℕ) → c < length ts → (deactivated_by ev c ≡ true → is_maximal ts c ≡ true) → phase_of us c ≡ cond (deactivated_by ev c) inactive (phase_of ts c)
  phases_kept c l g =
      let u = found ts num c l in
      ap (told (λ w. (standing w).phase) active) (moved c u.0 u.1) ∙ by (is_maximal ts c) (deactivated_by ev c) u.0 g ∙ ap (λ p. cond (deactivated_by ev c) inactive p) (sym (ap (told (λ w. (standing w).phase) active) u.1))
    where
      by : (a b : Bool) (w : Cluster) → (b ≡ true → a ≡ true) → (standing (cond a (became b d w) w)).phase ≡ cond b inactive (standing w).phase
      by true true w k = inactivate_phase (widen d w)
      by true false w k = widen_phase d w
      by false true w k = absurd (both_ways false refl (k refl))
      by false false w k = refl

  pub depth_grows : (v : ℕ) → v < node_count net → depth us v ≡ depth ts v + cond (active_at ts (maximal_of ts v)) d 0
  depth_grows v l =
      let K : Cluster → ℕ = λ u. one (holds u v) in
      let x = its_maximal (node_count net) ts h.shared v l in
      let a = all_same (λ u. cond (holds u v) (moat u) 0) (λ u. moat u * K u) (λ u. flip (holds u v) (moat u)) in
      let a₁ = a ts in
      let a₂ = a us in
      let b = event_sum net (λ z. false) (λ z. false) d ts us ev K (λ t. ap one (inactivate_holds t v)) in
      let c = pass_all d K (λ t. ap one (widen_holds d t v)) ts in
      let e = active_holding net f time ts h x.0 x.1 v x.2 x.3 in
      let e' : d * over_maximal (λ t. cond (cluster_active t) (one (holds t v)) 0) ts ≡ d * cond (cluster_active x.1) 1 0 = ap (λ z. d * z) e in
      let g : cond (active_at ts (maximal_of ts v)) d 0 ≡ cond (cluster_active x.1) d 0 = ap (λ z. cond z d 0) (ap (active_at ts) (maximal_of_is (node_count net) ts h.shared x.0 x.1 v x.2 x.3) ∙ active_at_is (node_count net) ts h.shared x.0 x.1 x.2) in
      let i = flip (cluster_active x.1) d in
      omega arith

  pub total_grows : over_all moat us ≡ over_all moat ts + d * over_maximal (λ t. one (cluster_active t)) ts
  total_grows =
      let K : Cluster → ℕ = λ u. 1 in
      let a = all_same moat (λ u. moat u * K u) (λ u. (let z : moat u ≡ moat u * 1 = omega arith in z)) in
      let a₁ = a ts in
      let a₂ = a us in
      let b = event_sum net (λ z. false) (λ z. false) d ts us ev K (λ t. refl) in
      let c = pass_all d K (λ t. refl) ts in
      omega arith

  -- a chosen edge stays chosen
  pub chosen_still : (s : ℕ) → chosen ts s ≡ true → chosen us s ≡ true
  chosen_still s k =
      let a = any_found (λ t. uses t s) ts k in
      elim (goes net ts us d ev a.0 a.1 a.2) [
        | stays q ↦ any_at (λ t. uses t s) us a.0 (became (deactivated_by ev a.0) d a.1) q (became_uses (deactivated_by ev a.0) d a.1 s ∙ a.3)
        | joins w q i ↦ any_at (λ t. uses t s) us (length ts) w q (uses_inside i (became_uses (deactivated_by ev a.0) d a.1 s ∙ a.3))
      ]
    where
      uses_inside : {u t : Cluster} → Inside u t → uses u s ≡ true → uses t s ≡ true
      uses_inside here g = g
      uses_inside (in_left {e = e} {l = l} i) g = or_right (eqb e s) _ (or_left (uses l s) _ (uses_inside i g))
      uses_inside (in_right {e = e} {l = l} i) g = or_right (eqb e s) _ (or_right (uses l s) _ (uses_inside i g))
