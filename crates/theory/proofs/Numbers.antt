-- Clusters by number: each number below the next stands for just one cluster.
use Rattle.std.proofs.Common.{◌≡◌, ℕ, zero, suc, ◌+◌, ◌≤◌, eqb, ltb, List, [], ◌∷◌, length, get_or, Some, None, Option, sym, refl, ap, ◌∙◌, subst, inl, inr, arith}
use Rattle.std.specs.List.{range_with_len}
use Rattle.std.proofs.lemmas.Bool.{eq-eqb, ne_eqb, cases_Bool, cases_eq, cases_lt, cond-true, cond-false, lt-ltb, le-ltb}
use Rattle.std.proofs.lemmas.List.{length-set, length-map}
use Rattle.std.proofs.lemmas.List.FromFn.{length-range_with_len}
use Rattle.network.specs.Nets.{Net}
use Rattle.theory.specs.Sums.{one}
use Rattle.theory.specs.Nets.{node_count}
use Rattle.theory.specs.Clusters.{Cluster, Slot, number, under, over, over_maximal}
use Rattle.theory.specs.Clusters.Cluster.{node, merged}
use Rattle.theory.specs.Clusters.Slot.{maximal, inside}
use Rattle.theory.specs.Growth.{fresh, lone, start, widen, inactivate, pass, grow}
use Rattle.theory.specs.Numbers.{either, seek, cluster_of}
use Rattle.theory.proofs.Bools.{one_true, one_false, one_none}
use Rattle.theory.proofs.Slots.{maximal_at, set_sum, deactivate_is, merge_is, join_sum, join_length, pass_over, pass_maximal, pass_length}
use Rattle.theory.proofs.Sharing.{count_once, count_none}
use Rattle.theory.proofs.Invariant.{lone_over, inv_start}
use Rattle.theory.proofs.Inside.{Inside}
use Rattle.theory.proofs.Inside.Inside.{here, in_left, in_right}
use Rattle.theory.proofs.Valid.{Fine}
use Rattle.theory.proofs.Steps.{Event}
use Rattle.theory.proofs.Steps.Event.{deactivates, merges}
use Rattle.theory.proofs.Runs.{View, view_at}
use Rattle.theory.proofs.Runs.View.{rests, moves}

-- how many clusters of a cluster have the number c
abbrev pub named : ℕ → Cluster → ℕ
named c t = under (λ u. one (eqb (number u) c)) t

abbrev pub Numbered : List Slot → Type 0
Numbered ts = (c : ℕ) → over_maximal (named c) ts ≡ one (ltb c (length ts))

widen_named : (d c : ℕ) (t : Cluster) → named c (widen d t) ≡ named c t
widen_named d c (node o v) = refl
widen_named d c (merged o k e l r) = refl

inactivate_named : (c : ℕ) (t : Cluster) → named c (inactivate t) ≡ named c t
inactivate_named c (node o v) = refl
inactivate_named c (merged o k e l r) = refl

pub numbered_event : (net : Net) (ts us : List Slot) (d : ℕ) → Event net ts d us → Numbered ts → Numbered us
numbered_event net ts us d (deactivates c t e g tight is) h k =
    let at = pass_maximal d ts c t e in
    let a = set_sum (named k) (pass d ts) c (widen d t) (inactivate (widen d t)) at in
    let b = inactivate_named k (widen d t) in
    let x = pass_over d (named k) (widen_named d k) ts in
    let eq = is ∙ deactivate_is (pass d ts) c (widen d t) at in
    let eq₁ = ap (over_maximal (named k)) eq in
    let eq₂ = ap (λ z. one (ltb k z)) (ap length eq ∙ length-set (pass d ts) c (maximal (inactivate (widen d t))) ∙ pass_length d ts) in
    let ih = h k in
    omega arith
numbered_event net ts us d (merges e x ne known some-active tight is) h k =
    let at_p = pass_maximal d ts x.p x.l x.pl in
    let at_q = pass_maximal d ts x.q x.r x.qr in
    let l = widen d x.l in
    let r = widen d x.r in
    let new = merged fresh (length (pass d ts)) e l r in
    let a = join_sum (pass d ts) x.p x.q l r new at_p at_q ne (named k) in
    let y = pass_over d (named k) (widen_named d k) ts in
    let eq = is ∙ merge_is (pass d ts) x.p x.q e l r at_p at_q in
    let eq₁ = ap (over_maximal (named k)) eq in
    let eq₂ = ap (λ z. one (ltb k z)) (ap length eq ∙ join_length (pass d ts) x.p x.q l r new at_p at_q ne) in
    let len = pass_length d ts in
    let eq₃ = ap (λ z. one (ltb k (z + 1))) len in
    let eq₄ = ap (λ z. one (eqb z k)) len in
    let n = next (length ts) in
    let ih = h k in
    omega arith
  where
    next : (m : ℕ) → one (ltb k m) + one (eqb m k) ≡ one (ltb k (m + 1))
    next m = elim (cases_lt k m) [
      | inl lt ↦ let a = one_true (ltb k m) (lt-ltb k m lt) in let b = one_false (eqb m k) (ne_eqb m k (omega arith)) in let c = one_true (ltb k (m + 1)) (lt-ltb k (m + 1) (omega arith)) in omega arith
      | inr ge ↦ elim (cases_eq m k) [
        | inl eq ↦ let a = one_false (ltb k m) (le-ltb k m ge) in let b = one_true (eqb m k) (eq-eqb m k eq) in let c = one_true (ltb k (m + 1)) (lt-ltb k (m + 1) (omega arith)) in omega arith
        | inr nq ↦ let a = one_false (ltb k m) (le-ltb k m ge) in let b = one_false (eqb m k) (ne_eqb m k nq) in let c = one_false (ltb k (m + 1)) (le-ltb k (m + 1) (omega arith)) in omega arith
      ]
    ]

pub numbered_start : (net : Net) → Numbered (start net).slots
numbered_start net c =
    let n = node_count net in
    let vs = range_with_len 0 n in
    let a = lone_over (named c) vs in
    let b = lone_over (over (λ u. one (eqb u c))) vs in
    let s = (inv_start net).shared (λ u. one (eqb u c)) in
    let len : one (ltb c (length (start net).slots)) ≡ one (ltb c n) = ap (λ z. one (ltb c z)) (length-map vs lone ∙ length-range_with_len 0 n) in
    elim (cases_lt c n) [
      | inl l ↦ let x = count_once n c l in let y = one_true (ltb c n) (lt-ltb c n l) in omega arith
      | inr l ↦ let x = count_none n c l in let y = one_false (ltb c n) (le-ltb c n l) in omega arith
    ]

pub numbered : (net : Net) → Fine net → (k : ℕ) → Numbered (grow net k).slots
numbered net f zero = numbered_start net
numbered net f (suc k) = by (view_at net f k) (numbered net f k)
  where
    by : View net (grow net k) (grow net (suc k)) → Numbered (grow net k).slots → Numbered (grow net (suc k)).slots
    by (rests few is) h = subst (λ s. Numbered s.slots) (sym is) h
    by (moves two d m time steps event) h = numbered_event net (grow net k).slots (grow net (suc k)).slots d event h

-- found by number
pub inside_named : {u t : Cluster} → Inside u t → 1 ≤ named (number u) t
inside_named {u = node o v} here = let a = one_true (eqb v v) (eq-eqb v v refl) in omega arith
inside_named {u = merged o c e l r} here = let a = one_true (eqb c c) (eq-eqb c c refl) in omega arith
inside_named (in_left i) = let a = inside_named i in omega arith
inside_named (in_right i) = let a = inside_named i in omega arith

seek_none : (c : ℕ) (t : Cluster) → named c t ≡ 0 → seek c t ≡ None
seek_none c (node o v) h = cond-false (eqb v c) (Some (node o v)) None (one_none (eqb v c) h)
seek_none c (merged o k e l r) h =
    cond-false (eqb k c) (Some (merged o k e l r)) (either (seek c l) (seek c r)) (one_none (eqb k c) (omega arith))
    ∙ ap (λ x. either x (seek c r)) (seek_none c l (omega arith)) ∙ seek_none c r (omega arith)

seek_some : {u t : Cluster} → Inside u t → named (number u) t ≤ 1 → seek (number u) t ≡ Some u
seek_some {u = node o v} here h = cond-true (eqb v v) (Some (node o v)) None (eq-eqb v v refl)
seek_some {u = merged o c e l r} here h = cond-true (eqb c c) (Some (merged o c e l r)) (either (seek c l) (seek c r)) (eq-eqb c c refl)
seek_some {u = u} (in_left {o = o} {c = c} {e = e} {l = l} {r = r} i) h =
    let a = inside_named i in
    cond-false (eqb c (number u)) (Some (merged o c e l r)) (either (seek (number u) l) (seek (number u) r)) (one_none (eqb c (number u)) (omega arith))
    ∙ ap (λ x. either x (seek (number u) r)) (seek_some i (omega arith))
seek_some {u = u} (in_right {o = o} {c = c} {e = e} {l = l} {r = r} i) h =
    let a = inside_named i in
    cond-false (eqb c (number u)) (Some (merged o c e l r)) (either (seek (number u) l) (seek (number u) r)) (one_none (eqb c (number u)) (omega arith))
    ∙ ap (λ x. either x (seek (number u) r)) (seek_none (number u) l (omega arith)) ∙ seek_some i (omega arith)

-- a cluster of the family is the one of its number
pub cluster_of_is : (ts : List Slot) (u t : Cluster) (d : ℕ) → get_or ts d inside ≡ maximal t → Inside u t → over_maximal (named (number u)) ts ≤ 1 → cluster_of ts (number u) ≡ Some u
cluster_of_is [] u t d e i h = let z : ◌≡◌ {A = ℕ} 0 1 = cc in absurd (omega arith)
cluster_of_is (maximal w ∷ ts) u t zero e i h =
    let same : t ≡ w = cc in
    let i' : Inside u w = subst (Inside u) same i in
    ap (λ x. either x (cluster_of ts (number u))) (seek_some i' (omega arith))
cluster_of_is (inside ∷ ts) u t zero e i h = let z : ◌≡◌ {A = ℕ} 0 1 = cc in absurd (omega arith)
cluster_of_is (maximal w ∷ ts) u t (suc d) e i h =
    let a = inside_named i in
    let b = maximal_at (named (number u)) ts d t e in
    ap (λ x. either x (cluster_of ts (number u))) (seek_none (number u) w (omega arith)) ∙ cluster_of_is ts u t d e i (omega arith)
cluster_of_is (inside ∷ ts) u t (suc d) e i h = cluster_of_is ts u t d e i (omega arith)

-- what is found by number is of the family
seek_inside : (c : ℕ) (t u : Cluster) → seek c t ≡ Some u → Inside u t
seek_inside c (node o v) u h = elim (cases_Bool (eqb v c)) [
  | inl e ↦ let k : Some (node o v) ≡ Some u = sym (cond-true (eqb v c) (Some (node o v)) None e) ∙ h in let s : node o v ≡ u = cc in subst (λ x. Inside x (node o v)) s here
  | inr e ↦ let k : None ≡ Some u = sym (cond-false (eqb v c) (Some (node o v)) None e) ∙ h in let z : ◌≡◌ {A = ℕ} 0 1 = cc in absurd (omega arith)
]
seek_inside c (merged o k e l r) u h = elim (cases_Bool (eqb k c)) [
  | inl q ↦ let j : Some (merged o k e l r) ≡ Some u = sym (cond-true (eqb k c) (Some (merged o k e l r)) (either (seek c l) (seek c r)) q) ∙ h in let s : merged o k e l r ≡ u = cc in subst (λ x. Inside x (merged o k e l r)) s here
  | inr q ↦ go (seek c l) refl (sym (cond-false (eqb k c) (Some (merged o k e l r)) (either (seek c l) (seek c r)) q) ∙ h) (seek_inside c l u) (seek_inside c r u)
]
  where
    go : (x : Option Cluster) → seek c l ≡ x → either (seek c l) (seek c r) ≡ Some u → (seek c l ≡ Some u → Inside u l) → (seek c r ≡ Some u → Inside u r) → Inside u (merged o k e l r)
    go None p j f g = in_right (g (sym (ap (λ x. either x (seek c r)) p) ∙ j))
    go (Some w) p j f g = in_left (f (p ∙ sym (ap (λ x. either x (seek c r)) p) ∙ j))

pub cluster_of_in : (ts : List Slot) (c : ℕ) (u : Cluster) → cluster_of ts c ≡ Some u → (d : ℕ) × (t : Cluster) × (get_or ts d inside ≡ maximal t) × Inside u t
cluster_of_in [] c u h = let z : ◌≡◌ {A = ℕ} 0 1 = cc in absurd (omega arith)
cluster_of_in (inside ∷ ts) c u h = let i = cluster_of_in ts c u h in (suc i.0, i.1, i.2, i.3)
cluster_of_in (maximal w ∷ ts) c u h = go (seek c w) refl (cluster_of_in ts c u)
  where
    go : (x : Option Cluster) → seek c w ≡ x → (cluster_of ts c ≡ Some u → (d : ℕ) × (t : Cluster) × (get_or ts d inside ≡ maximal t) × Inside u t) →
        (d : ℕ) × (t : Cluster) × (get_or (maximal w ∷ ts) d inside ≡ maximal t) × Inside u t
    go None p f = let i = f (sym (ap (λ x. either x (cluster_of ts c)) p) ∙ h) in (suc i.0, i.1, i.2, i.3)
    go (Some x) p f = (0, w, refl, seek_inside c w u (p ∙ sym (ap (λ y. either y (cluster_of ts c)) p) ∙ h))
