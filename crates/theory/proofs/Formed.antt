-- The clusters of growth by number: each number below the next stands for one cluster, whose parts have lower numbers.
use Rattle.std.proofs.Common.{◌≡◌, ℕ, zero, suc, ◌<◌, ◌≤◌, true, false, cond, ◌&&◌, ◌||◌, eqb, ltb, ◌⊎◌, List, [], ◌∷◌, map, length, get_or, set, Some, None, Option, sym, refl, ap, ◌∙◌, subst, inl, inr, arith}
use Rattle.std.specs.List.{range_with_len}
use Rattle.std.proofs.lemmas.Bool.{eq-eqb, eqb-true, ne_eqb, cases_Bool, cases_eq, cases_lt, cond-true, cond-false, lt-ltb, or_left, or_right, and_from, and_parts, both_ways}
use Rattle.std.proofs.lemmas.List.{get_or-set_same, get_or-set_other, get_or_past, length-map}
use Rattle.std.proofs.ByRecursion.{All-set}
use Rattle.std.proofs.lemmas.List.FromFn.{length-range_with_len, get_or-map-range_with_len}
use Rattle.network.specs.Nets.{Net}
use Rattle.theory.specs.Sums.{sum_to, one}
use Rattle.theory.specs.Nets.{node_count}
use Rattle.theory.specs.Clusters.{Cluster, Slot, is_active, standing, cluster_active, moat, number, holds, inner, Deep, OnMaximal, over, Every, any_maximal, Shared}
use Rattle.theory.specs.Clusters.Phase.{active}
use Rattle.theory.specs.Clusters.Cluster.{node, merged}
use Rattle.theory.specs.Clusters.Slot.{maximal, inside}
use Rattle.theory.specs.Due.{slot_active, maximal_of, active_at}
use Rattle.theory.specs.Growth.{fresh, lone, start, widen, widen_slot, inactivate, pass, grow}
use Rattle.theory.specs.Numbers.{either, seek, cluster_of, told, parts, phase_of, moat_of, inner_of, holds_at, slot_maximal, is_maximal}
use Rattle.theory.specs.Prune.{uses, grown_node}
use Rattle.theory.specs.ByNumber.{Parted, Formed, StartByNumber}
use Rattle.theory.proofs.Bools.{only, one_true, one_most, one_is, zero_cond}
use Rattle.theory.proofs.Slots.{maximal_below, maximal_all, same_maximal, deactivate_is, merge_is, join_all, join_maximal, pass_maximal, pass_at, pass_by, not_maximal}
use Rattle.theory.proofs.Sums.{sum_to_same}
use Rattle.theory.proofs.Sharing.{its_maximal, some_maximal, held_below, dep, apart, lone_sum}
use Rattle.theory.proofs.Invariant.{inv_start, lone_over, sum_of_none, all_lone}
use Rattle.theory.proofs.Inside.{Inside, deep_inside, inside_sub, any_at, any_found}
use Rattle.theory.proofs.Inside.Inside.{here, in_left, in_right}
use Rattle.theory.proofs.Valid.{Fine}
use Rattle.theory.proofs.Numbers.{named, Numbered, numbered_start, cluster_of_is, cluster_of_in}
use Rattle.theory.proofs.Table.{maximal_of_is}
use Rattle.theory.proofs.Steps.{Event}
use Rattle.theory.proofs.Steps.Event.{deactivates, merges}
use Rattle.theory.proofs.Runs.{View, view_at}
use Rattle.theory.proofs.Runs.View.{rests, moves}

-- the parts have lower numbers
abbrev pub Falls : Cluster → Type 0
Falls (node o v) = Unit {0}
Falls (merged o c e l r) = (number l < c) × (number r < c)

pub record Ordered (ts : List Slot) : Type 0 where
  pub slots_named : (c : ℕ) (t : Cluster) → get_or ts c inside ≡ maximal t → number t ≡ c
  pub falls : Every Falls ts

pub widen_number : (d : ℕ) (t : Cluster) → number (widen d t) ≡ number t
widen_number d (node o v) = refl
widen_number d (merged o c e l r) = refl

pub inactivate_number : (t : Cluster) → number (inactivate t) ≡ number t
inactivate_number (node o v) = refl
inactivate_number (merged o c e l r) = refl

widen_falls : (d : ℕ) (t : Cluster) → Deep Falls t → Deep Falls (widen d t)
widen_falls d (node o v) h = h
widen_falls d (merged o c e l r) h = h

inactivate_falls : (t : Cluster) → Deep Falls t → Deep Falls (inactivate t)
inactivate_falls (node o v) h = h
inactivate_falls (merged o c e l r) h = h

pass_ordered : (d : ℕ) (ts : List Slot) → Ordered ts → Ordered (pass d ts)
pass_ordered d ts h = record {
  slots_named = λ c t e. go c t (get_or ts c inside) refl (sym (pass_at d ts c) ∙ e);
  falls = pass_by d (Deep Falls) ts (λ c t e. widen_falls d t (maximal_all (Deep Falls) ts c t h.falls e));
}
  where
    go : (c : ℕ) (t : Cluster) (x : Slot) → get_or ts c inside ≡ x → widen_slot d (get_or ts c inside) ≡ maximal t → number t ≡ c
    go c t inside e k = absurd (not_maximal t (sym (ap (widen_slot d) e) ∙ k))
    go c t (maximal u) e k = let s = same_maximal (widen d u) t (sym (ap (widen_slot d) e) ∙ k) in ap number (sym s) ∙ widen_number d u ∙ h.slots_named c u e

ordered_event : (net : Net) (ts us : List Slot) (d : ℕ) → Event net ts d us → Ordered ts → Ordered us
ordered_event net ts us d (deactivates c t e g tight is) h = subst Ordered (sym (is ∙ deactivate_is (pass d ts) c (widen d t) at)) (record {
  slots_named = λ k u q. elim (cases_eq k c) [
    | inl s ↦
        let v = same_maximal (inactivate (widen d t)) u (sym (get_or-set_same (pass d ts) c (maximal (inactivate (widen d t))) inside (maximal_below (pass d ts) c (widen d t) at)) ∙ ap (λ i. get_or (set (pass d ts) c (maximal (inactivate (widen d t)))) i inside) (sym s) ∙ q) in
        ap number (sym v) ∙ inactivate_number (widen d t) ∙ p.slots_named c (widen d t) at ∙ sym s
    | inr s ↦ p.slots_named k u (sym (get_or-set_other (pass d ts) c k (maximal (inactivate (widen d t))) inside s) ∙ q)
  ];
  falls = All-set (OnMaximal (Deep Falls)) (pass d ts) c (maximal (inactivate (widen d t))) (inactivate_falls (widen d t) (maximal_all (Deep Falls) (pass d ts) c (widen d t) p.falls at)) p.falls;
})
  where
    p : Ordered (pass d ts)
    p = pass_ordered d ts h

    at : get_or (pass d ts) c inside ≡ maximal (widen d t)
    at = pass_maximal d ts c t e
ordered_event net ts us d (merges e x ne known some-active tight is) h = subst Ordered (sym (is ∙ merge_is (pass d ts) x.p x.q e (widen d x.l) (widen d x.r) at_p at_q)) (record {
  slots_named = λ k u q. elim (join_maximal (pass d ts) x.p x.q (widen d x.l) (widen d x.r) new at_p at_q ne k u q) [
    | inl s ↦ ap number s.1 ∙ sym s.0
    | inr s ↦ o.slots_named k u s.2
  ];
  falls = join_all (pass d ts) x.p x.q (widen d x.l) (widen d x.r) new at_p at_q ne (Deep Falls) o.falls (low, maximal_all (Deep Falls) (pass d ts) x.p (widen d x.l) o.falls at_p, maximal_all (Deep Falls) (pass d ts) x.q (widen d x.r) o.falls at_q);
})
  where
    o : Ordered (pass d ts)
    o = pass_ordered d ts h

    at_p : get_or (pass d ts) x.p inside ≡ maximal (widen d x.l)
    at_p = pass_maximal d ts x.p x.l x.pl

    at_q : get_or (pass d ts) x.q inside ≡ maximal (widen d x.r)
    at_q = pass_maximal d ts x.q x.r x.qr

    new : Cluster
    new = merged fresh (length (pass d ts)) e (widen d x.l) (widen d x.r)

    low : (number (widen d x.l) < length (pass d ts)) × (number (widen d x.r) < length (pass d ts))
    low =
        let a = o.slots_named x.p (widen d x.l) at_p in
        let b = o.slots_named x.q (widen d x.r) at_q in
        let i = maximal_below (pass d ts) x.p (widen d x.l) at_p in
        let j = maximal_below (pass d ts) x.q (widen d x.r) at_q in
        (omega arith, omega arith)

lone_at : (n c : ℕ) → c < n → get_or (map lone (range_with_len 0 n)) c inside ≡ maximal (node fresh c)
lone_at n c l = get_or-map-range_with_len lone 0 n c c inside l (omega arith)

ordered_start : (net : Net) → Ordered (start net).slots
ordered_start net = record {
  slots_named = λ c t e. elim (cases_lt c (node_count net)) [
    | inl l ↦ ap number (sym (same_maximal (node fresh c) t (sym (lone_at (node_count net) c l) ∙ e)))
    | inr l ↦ absurd (not_maximal t (sym (get_or_past (start net).slots c inside (let a = length-map (range_with_len 0 (node_count net)) lone in let b = length-range_with_len 0 (node_count net) in omega arith)) ∙ e))
  ];
  falls = all_lone (Deep Falls) (λ v. tt) (range_with_len 0 (node_count net));
}

pub ordered : (net : Net) → Fine net → (k : ℕ) → Ordered (grow net k).slots
ordered net f zero = ordered_start net
ordered net f (suc k) = by (view_at net f k) (ordered net f k)
  where
    by : View net (grow net k) (grow net (suc k)) → Ordered (grow net k).slots → Ordered (grow net (suc k)).slots
    by (rests few is) h = subst (λ s. Ordered s.slots) (sym is) h
    by (moves two d m time steps event) h = ordered_event net (grow net k).slots (grow net (suc k)).slots d event h

-- what is found has the number
seek_number : (c : ℕ) (t u : Cluster) → seek c t ≡ Some u → number u ≡ c
seek_number c (node o v) u h = elim (cases_Bool (eqb v c)) [
  | inl e ↦ let k : Some (node o v) ≡ Some u = sym (cond-true (eqb v c) (Some (node o v)) None e) ∙ h in let s : node o v ≡ u = cc in ap number (sym s) ∙ eqb-true v c e
  | inr e ↦ let k : None ≡ Some u = sym (cond-false (eqb v c) (Some (node o v)) None e) ∙ h in let z : ◌≡◌ {A = ℕ} 0 1 = cc in absurd (omega arith)
]
seek_number c (merged o k e l r) u h = elim (cases_Bool (eqb k c)) [
  | inl q ↦ let j : Some (merged o k e l r) ≡ Some u = sym (cond-true (eqb k c) (Some (merged o k e l r)) (either (seek c l) (seek c r)) q) ∙ h in let s : merged o k e l r ≡ u = cc in ap number (sym s) ∙ eqb-true k c q
  | inr q ↦ go (seek c l) refl (sym (cond-false (eqb k c) (Some (merged o k e l r)) (either (seek c l) (seek c r)) q) ∙ h) (seek_number c l u) (seek_number c r u)
]
  where
    go : (x : Option Cluster) → seek c l ≡ x → either (seek c l) (seek c r) ≡ Some u → (seek c l ≡ Some u → number u ≡ c) → (seek c r ≡ Some u → number u ≡ c) → number u ≡ c
    go None p j f g = g (sym (ap (λ x. either x (seek c r)) p) ∙ j)
    go (Some w) p j f g = f (p ∙ sym (ap (λ x. either x (seek c r)) p) ∙ j)

pub cluster_number : (ts : List Slot) (c : ℕ) (u : Cluster) → cluster_of ts c ≡ Some u → number u ≡ c
cluster_number [] c u h = let z : ◌≡◌ {A = ℕ} 0 1 = cc in absurd (omega arith)
cluster_number (inside ∷ ts) c u h = cluster_number ts c u h
cluster_number (maximal w ∷ ts) c u h = go (seek c w) refl (cluster_number ts c u)
  where
    go : (x : Option Cluster) → seek c w ≡ x → (cluster_of ts c ≡ Some u → number u ≡ c) → number u ≡ c
    go None p f = f (sym (ap (λ x. either x (cluster_of ts c)) p) ∙ h)
    go (Some x) p f = seek_number c w u (p ∙ sym (ap (λ y. either y (cluster_of ts c)) p) ∙ h)

named_in : (c : ℕ) (t : Cluster) → 1 ≤ named c t → (u : Cluster) × Inside u t × (number u ≡ c)
named_in c (node o v) h = (node o v, here, eqb-true v c (one_is (eqb v c) h))
named_in c (merged o k e l r) h = go (cases_Bool (eqb k c)) (cases_lt 0 (named c l)) (named_in c l) (named_in c r)
  where
    go : (eqb k c ≡ true) ⊎ (eqb k c ≡ false) → (0 < named c l) ⊎ (named c l ≤ 0) → (1 ≤ named c l → (u : Cluster) × Inside u l × (number u ≡ c)) → (1 ≤ named c r → (u : Cluster) × Inside u r × (number u ≡ c)) →
        (u : Cluster) × Inside u (merged o k e l r) × (number u ≡ c)
    go (inl q) b f g = (merged o k e l r, here, eqb-true k c q)
    go (inr q) (inl b) f g = let x = f (omega arith) in (x.0, in_left x.1, x.2)
    go (inr q) (inr b) f g = let a : one (eqb k c) ≡ 0 = cond-false (eqb k c) 1 0 q in let x = g (omega arith) in (x.0, in_right x.1, x.2)

-- a cluster of the family, with its number, is found
pub found_at : (ts : List Slot) → Numbered ts → (c j : ℕ) (t u : Cluster) → get_or ts j inside ≡ maximal t → Inside u t → number u ≡ c → cluster_of ts c ≡ Some u
found_at ts n c j t u e i s = subst (λ k. cluster_of ts k ≡ Some u) s (cluster_of_is ts u t j e i (let a = n (number u) in let b = one_most (ltb (number u) (length ts)) in omega arith))

pub found : (ts : List Slot) → Numbered ts → (c : ℕ) → c < length ts → (u : Cluster) × (cluster_of ts c ≡ Some u)
found ts n c l =
    let a = some_maximal (named c) ts (let x = n c in let y = one_true (ltb c (length ts)) (lt-ltb c (length ts) l) in omega arith) in
    let b = named_in c a.1 a.3 in
    (b.0, found_at ts n c a.0 a.1 b.0 a.2 b.1 b.2)

pub inside_trans : {u w t : Cluster} → Inside u w → Inside w t → Inside u t
inside_trans i here = i
inside_trans i (in_left j) = in_left (inside_trans i j)
inside_trans i (in_right j) = in_right (inside_trans i j)

-- sums over nodes, by what stands at each
over_same : (f g : ℕ → ℕ) (t : Cluster) → ((v : ℕ) → holds t v ≡ true → f v ≡ g v) → over f t ≡ over g t
over_same f g (node o v) h = h v (eq-eqb v v refl)
over_same f g (merged o c e l r) h =
    let a = over_same f g l (λ v k. h v (or_left (holds l v) _ k)) in
    let b = over_same f g r (λ v k. h v (or_right (holds l v) _ k)) in
    omega arith

over_none : (f : ℕ → ℕ) (t : Cluster) → ((v : ℕ) → holds t v ≡ true → f v ≡ 0) → over f t ≡ 0
over_none f (node o v) h = h v (eq-eqb v v refl)
over_none f (merged o c e l r) h =
    let a = over_none f l (λ v k. h v (or_left (holds l v) _ k)) in
    let b = over_none f r (λ v k. h v (or_right (holds l v) _ k)) in
    omega arith

module _ (n : ℕ) (ts : List Slot) (shared : Shared n ts) (num : Numbered ts) (ord : Ordered ts) where
  pub shown : (c : ℕ) (t : Cluster) → get_or ts c inside ≡ maximal t → cluster_of ts c ≡ Some t
  shown c t e = found_at ts num c c t t e here (ord.slots_named c t e)

  parted_at : (c : ℕ) (u : Cluster) → cluster_of ts c ≡ Some u → Parted ts n c (parts u)
  parted_at c (node o v) e =
      let a = cluster_of_in ts c (node o v) e in
      let s : v ≡ c = cluster_number ts c (node o v) e in (
        subst (λ i. i < n) s (held_below n ts shared a.0 a.1 v a.2 (inside_sub a.3 v (eq-eqb v v refl))),
        ap (told inner 0) e ∙ sym (ap (told moat 0) e),
        λ w. ap (told (λ u. holds u w) false) e ∙ ap (λ i. eqb i w) s,
      )
  parted_at c (merged o k e l r) q =
      let a = cluster_of_in ts c (merged o k e l r) q in
      let s : k ≡ c = cluster_number ts c (merged o k e l r) q in
      let low = deep_inside Falls a.3 (maximal_all (Deep Falls) ts a.0 a.1 ord.falls a.2) in
      let el = found_at ts num (number l) a.0 a.1 l a.2 (inside_trans (in_left here) a.3) refl in
      let er = found_at ts num (number r) a.0 a.1 r a.2 (inside_trans (in_right here) a.3) refl in
      let il : inner_of ts (number l) ≡ inner l = ap (told inner 0) el in
      let ir : inner_of ts (number r) ≡ inner r = ap (told inner 0) er in
      let ic : inner_of ts c ≡ inner (merged o k e l r) = ap (told inner 0) q in
      let mc : moat_of ts c ≡ o.moat = ap (told moat 0) q in (
        (let x = low.0 in omega arith),
        (let x = low.1 in omega arith),
        omega arith,
        λ w. ap (told (λ u. holds u w) false) q ∙ ap (λ z. z || holds r w) (sym (ap (told (λ u. holds u w) false) el)) ∙ ap (λ z. holds_at ts (number l) w || z) (sym (ap (told (λ u. holds u w) false) er)),
      )

  pub formed : Formed n ts
  formed = record {
    clusters = found ts num;
    parted = λ c l. let u = found ts num c l in subst (Parted ts n c) (sym (ap (told parts None) u.1)) (parted_at c u.0 u.1);
    shown = shown;
    activity = λ c l. activity c (get_or ts c inside) refl;
    memberships = λ v l. memberships v (its_maximal n ts shared v l);
    sums = sums;
    in_grown = λ v l. in_grown v (its_maximal n ts shared v l);
  }
    where
      -- the nodes of a maximal cluster, by number
      at_maximal : (c : ℕ) (t : Cluster) → get_or ts c inside ≡ maximal t → (v : ℕ) → v < n → holds t v ≡ eqb (maximal_of ts v) c
      at_maximal c t e v l = elim (cases_Bool (holds t v)) [
        | inl h ↦ h ∙ sym (eq-eqb (maximal_of ts v) c (maximal_of_is n ts shared c t v e h))
        | inr h ↦ h ∙ sym (ne_eqb (maximal_of ts v) c (λ q. other h (its_maximal n ts shared v l) q))
      ]
        where
          other : holds t v ≡ false → (j : ℕ) × (u : Cluster) × (get_or ts j inside ≡ maximal u) × (holds u v ≡ true) → maximal_of ts v ≡ c → ⊥
          other h (j, u, g, i) q =
              let s : j ≡ c = sym (maximal_of_is n ts shared j u v g i) ∙ q in
              let same = same_maximal u t (sym g ∙ ap (λ k. get_or ts k inside) s ∙ e) in
              both_ways (holds t v) h (ap (λ w. holds w v) (sym same) ∙ i)

      sums : (c : ℕ) (t : Cluster) → get_or ts c inside ≡ maximal t → (f : ℕ → ℕ) → over f t ≡ sum_to n (λ v. cond (eqb (maximal_of ts v) c) (f v) 0)
      sums c t e f =
          let g : ℕ → ℕ = λ v. cond (holds t v) (f v) 0 in
          let a = shared g in
          let b = lone_sum (over g) ts c t e (λ j u q ne. over_none g u (λ v h. cond-false (holds t v) (f v) 0 (apart n ts shared j c u t v q e ne h))) in
          let d = over_same g f t (λ v h. cond-true (holds t v) (f v) 0 h) in
          let k = sum_to_same n g (λ v. cond (eqb (maximal_of ts v) c) (f v) 0) (λ v l. ap (λ z. cond z (f v) 0) (at_maximal c t e v l)) in
          omega arith

      in_grown : (v : ℕ) → (c : ℕ) × (t : Cluster) × (get_or ts c inside ≡ maximal t) × (holds t v ≡ true) → grown_node ts v ≡ active_at ts (maximal_of ts v)
      in_grown v (c, t, e, h) = elim (cases_Bool (cluster_active t)) [
        | inl g ↦ any_at (λ u. cluster_active u && holds u v) ts c t e (and_from (cluster_active t) _ g h) ∙ sym (here' ∙ g)
        | inr g ↦ only (grown_node ts v) (λ k. none g (any_found (λ u. cluster_active u && holds u v) ts k)) ∙ sym (here' ∙ g)
      ]
        where
          here' : active_at ts (maximal_of ts v) ≡ cluster_active t
          here' = ap (active_at ts) (maximal_of_is n ts shared c t v e h) ∙ ap slot_active e

          none : cluster_active t ≡ false → (j : ℕ) × (u : Cluster) × (get_or ts j inside ≡ maximal u) × ((cluster_active u && holds u v) ≡ true) → ⊥
          none g (j, u, q, k) =
              let p = and_parts (cluster_active u) _ k in
              let s : j ≡ c = sym (maximal_of_is n ts shared j u v q p.1) ∙ maximal_of_is n ts shared c t v e h in
              let same = same_maximal u t (sym q ∙ ap (λ i. get_or ts i inside) s ∙ e) in
              both_ways (cluster_active t) g (ap cluster_active (sym same) ∙ p.0)

      activity : (c : ℕ) (x : Slot) → get_or ts c inside ≡ x → active_at ts c ≡ (is_maximal ts c && is_active (phase_of ts c))
      activity c inside e = ap slot_active e ∙ sym (ap (λ y. slot_maximal y && is_active (phase_of ts c)) e)
      activity c (maximal t) e = ap slot_active e ∙ sym (ap (λ y. slot_maximal y && is_active (phase_of ts c)) e ∙ ap (λ y. is_active (told (λ u. (standing u).phase) active y)) (shown c t e))

      memberships : (v : ℕ) → (c : ℕ) × (t : Cluster) × (get_or ts c inside ≡ maximal t) × (holds t v ≡ true) → (is_maximal ts (maximal_of ts v) ≡ true) × (maximal_of ts v < length ts) × (holds_at ts (maximal_of ts v) v ≡ true)
      memberships v (c, t, e, h) =
          let s = maximal_of_is n ts shared c t v e h in (
            ap (is_maximal ts) s ∙ ap slot_maximal e,
            subst (λ i. i < length ts) (sym s) (maximal_below ts c t e),
            ap (λ i. holds_at ts i v) s ∙ ap (told (λ u. holds u v) false) (shown c t e) ∙ h,
          )

pub start_by_number : StartByNumber
start_by_number net = record {
  count = len;
  parts = λ c l. ap (told parts None) (at c l);
  phases = λ c l. ap (told (λ u. (standing u).phase) active) (at c l);
  moats = λ c l. ap (told moat 0) (at c l);
  maximals = λ c l. ap slot_maximal (lone_at n c l);
  memberships = λ v l. maximal_of_is n ts (inv_start net).shared v (node fresh v) v (lone_at n v l) (eq-eqb v v refl);
  depths = λ v. lone_over (λ u. dep u v) vs ∙ sum_of_none (λ u. dep (node fresh u) v) (λ u. zero_cond (eqb u v)) vs;
  none_chosen = λ s. none s vs;
  no_moats = lone_over inner vs ∙ sum_of_none (λ u. inner (node fresh u)) (λ u. refl) vs;
}
  where
    n : ℕ
    n = node_count net

    vs : List ℕ
    vs = range_with_len 0 (node_count net)

    ts : List Slot
    ts = (start net).slots

    len : length (start net).slots ≡ node_count net
    len = length-map (range_with_len 0 (node_count net)) lone ∙ length-range_with_len 0 (node_count net)

    at : (c : ℕ) → c < node_count net → cluster_of (start net).slots c ≡ Some (node fresh c)
    at c l = shown n ts (inv_start net).shared (numbered_start net) (ordered_start net) c (node fresh c) (lone_at n c l)

    none : (s : ℕ) (ws : List ℕ) → any_maximal (λ t. uses t s) (map lone ws) ≡ false
    none s [] = refl
    none s (w ∷ ws) = none s ws
