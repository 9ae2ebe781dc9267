-- A step of growth by number.
use Rattle.std.proofs.Common.{◌≡◌, ℕ, ◌+◌, ◌-◌, ◌<◌, ◌≤◌, Bool, true, false, cond, not, ◌&&◌, ◌||◌, eqb, ltb, ◌≢◌, List, [], ◌∷◌, length, get_or, set, Some, None, sym, refl, ap, ◌∙◌, subst, inl, inr, arith}
use Rattle.std.proofs.lemmas.Bool.{eq-eqb, eqb-true, ne_eqb, or_left, or_right, or_cases, or_from, cases_eq, both_ways, cond-true, cond-false, lt-ltb, le-ltb}
use Rattle.std.proofs.lemmas.List.{length-set, get_or-set_same, get_or-set_other, get_or_past}
use Rattle.network.specs.Nets.{Net}
use Rattle.theory.specs.Nets.{node_count, first_end, second_end}
use Rattle.theory.specs.Clusters.{Cluster, Slot, standing, moat, number, holds}
use Rattle.theory.specs.Clusters.Phase.{active, inactive}
use Rattle.theory.specs.Clusters.Cluster.{merged}
use Rattle.theory.specs.Clusters.Slot.{maximal, inside}
use Rattle.theory.specs.Due.{earliest, maximal_of, due_times, among}
use Rattle.theory.specs.Growth.{fresh, widen, widen_slot, inactivate, pass, advance, unless_ended, ended, step, grow}
use Rattle.theory.specs.Numbers.{cluster_of, told, parts, parts_of, phase_of, moat_of, slot_maximal, is_maximal}
use Rattle.theory.specs.Prune.{uses, chosen}
use Rattle.theory.specs.ByNumber.{merging, Stepped}
use Rattle.theory.proofs.Bools.{same_bool}
use Rattle.theory.proofs.Slots.{maximal_at, maximal_below, same_maximal, deactivate_is, join, merge_is, join_length, join_new, join_left, join_right, join_other, join_maximal, widen_holds, pass_maximal, pass_at, pass_length}
use Rattle.theory.proofs.Sharing.{its_maximal}
use Rattle.theory.proofs.Invariant.{Inv, May}
use Rattle.theory.proofs.Inside.{any_at, any_found}
use Rattle.theory.proofs.Inside.Inside.{here}
use Rattle.theory.proofs.Valid.{Fine}
use Rattle.theory.proofs.Earliest.{Earliest, earliest_stands}
use Rattle.theory.proofs.Numbers.{Numbered, numbered, numbered_event}
use Rattle.theory.proofs.Table.{maximal_of_is}
use Rattle.theory.proofs.Steps.{Event, Under, may, happens}
use Rattle.theory.proofs.Steps.Event.{deactivates, merges}
use Rattle.theory.proofs.Runs.{kept}
use Rattle.theory.proofs.Formed.{Ordered, ordered, widen_number, found_at}
use Rattle.theory.proofs.Moving.{widen_uses, inactivate_uses, deactivated_by, became, became_holds, goes, next, parts_kept, moats_grow, phases_kept, depth_grows, total_grows, chosen_still}
use Rattle.theory.proofs.Moving.Goes.{stays, joins}

pass_back : (d : ℕ) (ts : List Slot) (j : ℕ) (w : Cluster) → get_or (pass d ts) j inside ≡ maximal w → (u : Cluster) × (get_or ts j inside ≡ maximal u) × (w ≡ widen d u)
pass_back d ts j w e = go (get_or ts j inside) refl
  where
    go : (x : Slot) → get_or ts j inside ≡ x → (u : Cluster) × (get_or ts j inside ≡ maximal u) × (w ≡ widen d u)
    go inside q = let z : inside ≡ maximal w = sym (pass_at d ts j ∙ ap (widen_slot d) q) ∙ e in let y : ◌≡◌ {A = ℕ} 0 1 = cc in absurd (omega arith)
    go (maximal u) q = (u, q, same_maximal w (widen d u) (sym e ∙ pass_at d ts j ∙ ap (widen_slot d) q))

-- the fields that depend on the kind of event
pub record Kind (net : Net) (ts us : List Slot) (k : ℕ) : Type 0 where
  pub count : length us ≡ length ts + cond (ltb k 511) 0 1
  pub phases : (c : ℕ) → c < length ts → phase_of us c ≡ cond (eqb c k) inactive (phase_of ts c)
  pub maximals : (c : ℕ) → c < length ts → is_maximal us c ≡ (is_maximal ts c && not (among c (merging net ts k)))
  pub new_parts : 511 ≤ k → parts_of us (length ts) ≡ Some (maximal_of ts (first_end net (k - 511)), maximal_of ts (second_end net (k - 511)))
  pub new_phase : 511 ≤ k → phase_of us (length ts) ≡ active
  pub new_moat : 511 ≤ k → moat_of us (length ts) ≡ 0
  pub new_maximal : 511 ≤ k → is_maximal us (length ts) ≡ true
  pub memberships : (v : ℕ) → v < node_count net → maximal_of us v ≡ cond (among (maximal_of ts v) (merging net ts k)) (length ts) (maximal_of ts v)
  pub edges : (s : ℕ) → chosen us s ≡ (chosen ts s || (not (ltb k 511) && eqb (k - 511) s))

and_true : (x : Bool) → x ≡ (x && true)
and_true true = refl
and_true false = refl

or_false : (x : Bool) → x ≡ (x || false)
or_false true = refl
or_false false = refl

kind : (net : Net) → Fine net → (time : ℕ) (ts us : List Slot) (d k : ℕ) → Inv net time ts → May net d ts → Numbered ts → Ordered ts → (ev : Event net ts d us) → Under k ev → Kind net ts us k
kind net f time ts us d k h m num ord (deactivates c t e g tight is) (l, same) = record {
  count = ap length eq ∙ length-set (pass d ts) c (maximal (inactivate (widen d t))) ∙ pass_length d ts ∙ (let y : ◌≡◌ {A = ℕ} (cond (ltb k 511) 0 1) 0 = cond-true (ltb k 511) 0 1 yes' in omega arith);
  phases = λ i b. phases_kept net f time ts us d h m num ord ev i b (λ q. ap (is_maximal ts) (eqb-true i c q) ∙ ap slot_maximal e) ∙ ap (λ z. cond (eqb i z) inactive (phase_of ts i)) same;
  maximals = λ i b. still i ∙ and_true (is_maximal ts i) ∙ ap (λ z. is_maximal ts i && not (among i z)) (sym none);
  new_parts = λ b. absurd (omega arith);
  new_phase = λ b. absurd (omega arith);
  new_moat = λ b. absurd (omega arith);
  new_maximal = λ b. absurd (omega arith);
  memberships = λ v b. there v (its_maximal (node_count net) ts h.shared v b) ∙ ap (λ z. cond (among (maximal_of ts v) z) (length ts) (maximal_of ts v)) (sym none);
  edges = λ s. same_bool (chosen us s) (chosen ts s) (less s) (chosen_still net f time ts us d h m num ord ev s) ∙ or_false (chosen ts s) ∙ ap (λ z. chosen ts s || (not z && eqb (k - 511) s)) (sym yes');
}
  where
    ev : Event net ts d us
    ev = deactivates c t e g tight is

    yes' : ltb k 511 ≡ true
    yes' = lt-ltb k 511 l

    none : merging net ts k ≡ []
    none = cond-true (ltb k 511) [] _ yes'

    at : get_or (pass d ts) c inside ≡ maximal (widen d t)
    at = pass_maximal d ts c t e

    eq : us ≡ set (pass d ts) c (maximal (inactivate (widen d t)))
    eq = is ∙ deactivate_is (pass d ts) c (widen d t) at

    still : (i : ℕ) → is_maximal us i ≡ is_maximal ts i
    still i = ap (λ vs. is_maximal vs i) eq ∙ elim (cases_eq i c) [
      | inl q ↦ ap slot_maximal (ap (λ j. get_or (set (pass d ts) c (maximal (inactivate (widen d t)))) j inside) q ∙ get_or-set_same (pass d ts) c (maximal (inactivate (widen d t))) inside (maximal_below (pass d ts) c (widen d t) at)) ∙ sym (ap slot_maximal (ap (λ j. get_or ts j inside) q ∙ e))
      | inr q ↦ ap slot_maximal (get_or-set_other (pass d ts) c i (maximal (inactivate (widen d t))) inside q ∙ pass_at d ts i) ∙ widened (get_or ts i inside)
    ]
      where
        widened : (x : Slot) → slot_maximal (widen_slot d x) ≡ slot_maximal x
        widened (maximal u) = refl
        widened inside = refl

    after : Inv net (time + d) us
    after = next net f time ts us d h m num ord ev

    there : (v : ℕ) → (j : ℕ) × (u : Cluster) × (get_or ts j inside ≡ maximal u) × (holds u v ≡ true) → maximal_of us v ≡ maximal_of ts v
    there v (j, u, q, i) = elim (goes net ts us d ev j u q) [
      | stays r ↦ maximal_of_is (node_count net) us after.shared j (became (deactivated_by ev j) d u) v r (became_holds (deactivated_by ev j) d u v ∙ i) ∙ sym (maximal_of_is (node_count net) ts h.shared j u v q i)
      | joins w r b ↦ absurd (no_slot w (sym (get_or_past us (length ts) inside (let y : length us ≡ length ts = ap length eq ∙ length-set (pass d ts) c (maximal (inactivate (widen d t))) ∙ pass_length d ts in omega arith)) ∙ r))
    ]
      where
        no_slot : (w : Cluster) → inside ≡ maximal w → ⊥
        no_slot w z = let y : ◌≡◌ {A = ℕ} 0 1 = cc in omega arith

    less : (s : ℕ) → chosen us s ≡ true → chosen ts s ≡ true
    less s q = by (any_found (λ u. uses u s) (set (pass d ts) c (maximal (inactivate (widen d t)))) (ap (λ vs. chosen vs s) (sym eq) ∙ q))
      where
        by : (j : ℕ) × (w : Cluster) × (get_or (set (pass d ts) c (maximal (inactivate (widen d t)))) j inside ≡ maximal w) × (uses w s ≡ true) → chosen ts s ≡ true
        by (j, w, r, i) = elim (cases_eq j c) [
          | inl z ↦
              let v = same_maximal (inactivate (widen d t)) w (sym (get_or-set_same (pass d ts) c (maximal (inactivate (widen d t))) inside (maximal_below (pass d ts) c (widen d t) at)) ∙ ap (λ y. get_or (set (pass d ts) c (maximal (inactivate (widen d t)))) y inside) (sym z) ∙ r) in
              any_at (λ u. uses u s) ts c t e (sym (inactivate_uses (widen d t) s ∙ widen_uses d t s) ∙ ap (λ u. uses u s) v ∙ i)
          | inr z ↦ let b = pass_back d ts j w (sym (get_or-set_other (pass d ts) c j (maximal (inactivate (widen d t))) inside z) ∙ r) in any_at (λ u. uses u s) ts j b.0 b.1 (sym (widen_uses d b.0 s) ∙ ap (λ u. uses u s) (sym b.2) ∙ i)
        ]
kind net f time ts us d k h m num ord (merges e x ne known some-active tight is) (l, same) = record {
  count = ap length eq ∙ join_length (pass d ts) x.p x.q l' r' new at_p at_q ne ∙ (let y : ◌≡◌ {A = ℕ} (cond (ltb k 511) 0 1) 1 = cond-false (ltb k 511) 0 1 no' in let z = pass_length d ts in omega arith);
  phases = λ i b. phases_kept net f time ts us d h m num ord ev i b (λ q. absurd (both_ways false refl q)) ∙ sym (cond-false (eqb i k) inactive (phase_of ts i) (ne_eqb i k (let z = few in omega arith)));
  maximals = λ i b. ap (λ vs. is_maximal vs i) eq ∙ max_at i b ∙ ap (λ z. is_maximal ts i && not (among i z)) (sym pair);
  new_parts = λ b. ap (told parts None) at_new ∙ ap (λ z. Some (z, number r')) (widen_number d x.l ∙ ord.slots_named x.p x.l x.pl) ∙ ap (λ z. Some (x.p, z)) (widen_number d x.r ∙ ord.slots_named x.q x.r x.qr)
      ∙ ap (λ z. Some (z, x.q)) (sym first_at) ∙ ap (λ z. Some (maximal_of ts (first_end net (k - 511)), z)) (sym second_at);
  new_phase = λ b. ap (told (λ u. (standing u).phase) active) at_new;
  new_moat = λ b. ap (told moat 0) at_new;
  new_maximal = λ b. ap slot_maximal new_slot;
  memberships = λ v b. there v (its_maximal (node_count net) ts h.shared v b) ∙ ap (λ z. cond (among (maximal_of ts v) z) (length ts) (maximal_of ts v)) (sym pair);
  edges = λ s. same_bool (chosen us s) (chosen ts s || eqb (k - 511) s) (less s) (more s) ∙ ap (λ z. chosen ts s || (not z && eqb (k - 511) s)) (sym no');
}
  where
    ev : Event net ts d us
    ev = merges e x ne known some-active tight is

    no' : ltb k 511 ≡ false
    no' = le-ltb k 511 l

    l' : Cluster
    l' = widen d x.l

    r' : Cluster
    r' = widen d x.r

    at_p : get_or (pass d ts) x.p inside ≡ maximal (widen d x.l)
    at_p = pass_maximal d ts x.p x.l x.pl

    at_q : get_or (pass d ts) x.q inside ≡ maximal (widen d x.r)
    at_q = pass_maximal d ts x.q x.r x.qr

    new : Cluster
    new = merged fresh (length (pass d ts)) e (widen d x.l) (widen d x.r)

    vs : List Slot
    vs = join (pass d ts) x.p x.q new

    eq : us ≡ join (pass d ts) x.p x.q new
    eq = is ∙ merge_is (pass d ts) x.p x.q e (widen d x.l) (widen d x.r) at_p at_q

    new_slot : get_or us (length ts) inside ≡ maximal new
    new_slot = ap (λ ws. get_or ws (length ts) inside) eq ∙ ap (λ i. get_or (join (pass d ts) x.p x.q new) i inside) (sym (pass_length d ts)) ∙ join_new (pass d ts) x.p x.q l' r' new at_p at_q ne

    at_new : cluster_of us (length ts) ≡ Some new
    at_new = found_at us (numbered_event net ts us d ev num) (length ts) (length ts) new new new_slot here (pass_length d ts)

    few : length ts ≤ 511
    few =
        let a = h.sized in
        let b = f.few_nodes in
        let c = maximal_at (λ u. 1) ts x.p x.l x.pl in
        omega arith

    first_at : maximal_of ts (first_end net (k - 511)) ≡ x.p
    first_at = ap (λ s. maximal_of ts (first_end net s)) (sym same) ∙ maximal_of_is (node_count net) ts h.shared x.p x.l (first_end net e) x.pl x.la

    second_at : maximal_of ts (second_end net (k - 511)) ≡ x.q
    second_at = ap (λ s. maximal_of ts (second_end net s)) (sym same) ∙ maximal_of_is (node_count net) ts h.shared x.q x.r (second_end net e) x.qr x.rb

    pair : merging net ts k ≡ x.p ∷ x.q ∷ []
    pair = cond-false (ltb k 511) [] _ no' ∙ ap (λ c. c ∷ maximal_of ts (second_end net (k - 511)) ∷ []) first_at ∙ ap (λ c. x.p ∷ c ∷ []) second_at

    in_p : (i : ℕ) → i ≡ x.p → among i (x.p ∷ x.q ∷ []) ≡ true
    in_p i z = or_left (eqb i x.p) _ (eq-eqb i x.p z)

    in_q : (i : ℕ) → i ≡ x.q → among i (x.p ∷ x.q ∷ []) ≡ true
    in_q i z = or_right (eqb i x.p) _ (or_left (eqb i x.q) _ (eq-eqb i x.q z))

    out : (i : ℕ) → i ≢ x.p → i ≢ x.q → among i (x.p ∷ x.q ∷ []) ≡ false
    out i y z = or_from (eqb i x.p) _ (ne_eqb i x.p y) (or_from (eqb i x.q) _ (ne_eqb i x.q z) refl)

    gone : (a b : Bool) → b ≡ true → false ≡ (a && not b)
    gone true b z = ap not (sym z)
    gone false b z = refl

    kept_on : (a b : Bool) → b ≡ false → a ≡ (a && not b)
    kept_on true b z = ap not (sym z)
    kept_on false b z = refl

    max_at : (i : ℕ) → i < length ts → is_maximal (join (pass d ts) x.p x.q new) i ≡ (is_maximal ts i && not (among i (x.p ∷ x.q ∷ [])))
    max_at i b = elim (cases_eq i x.p) [
      | inl z ↦ ap slot_maximal (ap (λ j. get_or vs j inside) z ∙ join_left (pass d ts) x.p x.q l' r' new at_p at_q ne) ∙ gone (is_maximal ts i) (among i (x.p ∷ x.q ∷ [])) (in_p i z)
      | inr y ↦ elim (cases_eq i x.q) [
        | inl z ↦ ap slot_maximal (ap (λ j. get_or vs j inside) z ∙ join_right (pass d ts) x.p x.q l' r' new at_p at_q ne) ∙ gone (is_maximal ts i) (among i (x.p ∷ x.q ∷ [])) (in_q i z)
        | inr z ↦ ap slot_maximal (join_other (pass d ts) x.p x.q l' r' new at_p at_q ne i (let w = pass_length d ts in omega arith) y z ∙ pass_at d ts i) ∙ widened (get_or ts i inside) ∙ kept_on (is_maximal ts i) (among i (x.p ∷ x.q ∷ [])) (out i y z)
      ]
    ]
      where
        widened : (w : Slot) → slot_maximal (widen_slot d w) ≡ slot_maximal w
        widened (maximal u) = refl
        widened inside = refl

    after : Inv net (time + d) us
    after = next net f time ts us d h m num ord ev

    there : (v : ℕ) → (j : ℕ) × (u : Cluster) × (get_or ts j inside ≡ maximal u) × (holds u v ≡ true) → maximal_of us v ≡ cond (among (maximal_of ts v) (x.p ∷ x.q ∷ [])) (length ts) (maximal_of ts v)
    there v (j, u, q, i) = elim (cases_eq j x.p) [
      | inl z ↦ in_new (or_left (holds l' v) _ (widen_holds d x.l v ∙ ap (λ w. holds w v) (same_maximal x.l u (sym x.pl ∙ ap (λ y. get_or ts y inside) (sym z) ∙ q)) ∙ i)) (in_p j z)
      | inr y ↦ elim (cases_eq j x.q) [
        | inl z ↦ in_new (or_right (holds l' v) _ (widen_holds d x.r v ∙ ap (λ w. holds w v) (same_maximal x.r u (sym x.qr ∙ ap (λ y. get_or ts y inside) (sym z) ∙ q)) ∙ i)) (in_q j z)
        | inr z ↦
            maximal_of_is (node_count net) us after.shared j (widen d u) v
            (ap (λ ws. get_or ws j inside) eq ∙ join_other (pass d ts) x.p x.q l' r' new at_p at_q ne j (let w = pass_length d ts in let b = maximal_below ts j u q in omega arith) y z ∙ pass_maximal d ts j u q)
            (widen_holds d u v ∙ i) ∙ sym (ap (λ w. cond (among w (x.p ∷ x.q ∷ [])) (length ts) w) old ∙ cond-false (among j (x.p ∷ x.q ∷ [])) (length ts) j (out j y z))
      ]
    ]
      where
        old : maximal_of ts v ≡ j
        old = maximal_of_is (node_count net) ts h.shared j u v q i

        in_new : holds new v ≡ true → among j (x.p ∷ x.q ∷ []) ≡ true → maximal_of us v ≡ cond (among (maximal_of ts v) (x.p ∷ x.q ∷ [])) (length ts) (maximal_of ts v)
        in_new b w = maximal_of_is (node_count net) us after.shared (length ts) new v new_slot b ∙ sym (ap (λ y. cond (among y (x.p ∷ x.q ∷ [])) (length ts) y) old ∙ cond-true (among j (x.p ∷ x.q ∷ [])) (length ts) j w)

    more : (s : ℕ) → (chosen ts s || eqb (k - 511) s) ≡ true → chosen us s ≡ true
    more s q = elim (or_cases (chosen ts s) (eqb (k - 511) s) q) [
      | inl i ↦ chosen_still net f time ts us d h m num ord ev s i
      | inr i ↦ any_at (λ u. uses u s) us (length ts) new new_slot (or_left (eqb e s) _ (ap (λ z. eqb z s) same ∙ i))
    ]

    less : (s : ℕ) → chosen us s ≡ true → (chosen ts s || eqb (k - 511) s) ≡ true
    less s q = by (any_found (λ u. uses u s) (join (pass d ts) x.p x.q new) (ap (λ ws. chosen ws s) (sym eq) ∙ q))
      where
        back : (j : ℕ) (u : Cluster) → get_or ts j inside ≡ maximal u → uses (widen d u) s ≡ true → (chosen ts s || eqb (k - 511) s) ≡ true
        back j u z i = or_left (chosen ts s) _ (any_at (λ w. uses w s) ts j u z (sym (widen_uses d u s) ∙ i))

        by : (j : ℕ) × (w : Cluster) × (get_or (join (pass d ts) x.p x.q new) j inside ≡ maximal w) × (uses w s ≡ true) → (chosen ts s || eqb (k - 511) s) ≡ true
        by (j, w, r, i) = elim (join_maximal (pass d ts) x.p x.q l' r' new at_p at_q ne j w r) [
          | inr z ↦ let b = pass_back d ts j w z.2 in back j b.0 b.1 (ap (λ u. uses u s) (sym b.2) ∙ i)
          | inl z ↦ elim (or_cases (eqb e s) (uses l' s || uses r' s) (ap (λ u. uses u s) (sym z.1) ∙ i)) [
            | inl y ↦ or_right (chosen ts s) _ (ap (λ c. eqb c s) (sym same) ∙ y)
            | inr y ↦ elim (or_cases (uses l' s) (uses r' s) y) [
              | inl b ↦ back x.p x.l x.pl b
              | inr b ↦ back x.q x.r x.qr b
            ]
          ]
        ]

pub stepped : (net : Net) → Fine net → (k t number : ℕ) → ended (grow net k) ≡ false →
    earliest (due_times net (grow net k).time (grow net k).slots) ≡ Some (t, number) → Stepped net (grow net k) (step net (grow net k)) t number
stepped net f k t number go on =
    let st = grow net k in
    let ts = st.slots in
    let h = kept net f k in
    let num = numbered net f k in
    let ord = ordered net f k in
    let T = due_times net st.time ts in
    let least : Earliest T (Some (t, number)) = subst (Earliest T) on (earliest_stands T) in
    let first : (get_or T number None ≡ Some t) × ((j s : ℕ) → get_or T j None ≡ Some s → t ≤ s) = (least.0, λ j s e. (least.1 j s e).0) in
    let m = may net f st.time ts h t number first in
    let x = happens net f st.time ts h t number first in
    let d = t - st.time in
    let st' = advance net st (Some (t, number)) in
    let us = st'.slots in
    let ev = x.event in
    let kd = kind net f st.time ts us d number h m num ord ev x.under in
    let is : step net st ≡ st' = ap (λ b. unless_ended b net st) go ∙ ap (advance net st) on in
    subst (λ s. Stepped net st s t number) (sym is) (record {
      later = x.later;
      time = refl;
      steps = refl;
      count = kd.count;
      parts = parts_kept net f st.time ts us d h m num ord ev;
      phases = kd.phases;
      moats = moats_grow net f st.time ts us d h m num ord ev;
      maximals = kd.maximals;
      new_parts = kd.new_parts;
      new_phase = kd.new_phase;
      new_moat = kd.new_moat;
      new_maximal = kd.new_maximal;
      memberships = kd.memberships;
      depths = depth_grows net f st.time ts us d h m num ord ev;
      edges = kd.edges;
      moats_total = total_grows net f st.time ts us d h m num ord ev;
    })
