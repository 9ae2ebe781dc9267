-- Nodes shared out among the maximal clusters: no node in two of them, nor in two parts. Assumes nothing.
use Rattle.std.proofs.Common.{◌≡◌, ℕ, zero, suc, ◌+◌, ◌*◌, ◌<◌, ◌≤◌, Bool, true, false, cond, ◌&&◌, ◌||◌, eqb, ◌≢◌, ◌⊎◌, List, [], ◌∷◌, get_or, sym, refl, ap, ◌∙◌, inl, inr, arith}
use Rattle.std.proofs.lemmas.Bool.{eq-eqb, ne_eqb, or_left, or_right, or_cases, or_parts, cases_Bool, cases_eq, cases_lt, both_ways, cond-false}
use Rattle.network.specs.Nets.{Net}
use Rattle.theory.specs.Sums.{sum_to, one, differ}
use Rattle.theory.specs.Nets.{first_end, second_end}
use Rattle.theory.specs.Clusters.{Cluster, Slot, moat, holds, over, under, splits, Deep, on_maximal, over_maximal, depth, load, Shared}
use Rattle.theory.specs.Clusters.Cluster.{node, merged}
use Rattle.theory.specs.Clusters.Slot.{maximal, inside}
use Rattle.theory.proofs.Bools.{one_true, one_false, differ_false}
use Rattle.theory.proofs.Sums.{sum_to_none}
use Rattle.theory.proofs.Slots.{maximal_at}

-- how often v stands in a cluster
abbrev pub stands : ℕ → Cluster → ℕ
stands v t = over (λ u. one (eqb u v)) t

pub held_stands : (t : Cluster) (v : ℕ) → holds t v ≡ true → 1 ≤ stands v t
held_stands (node o u) v h = let a = one_true (eqb u v) h in omega arith
held_stands (merged o c e l r) v h = elim (or_cases (holds l v) (holds r v) h) [
  | inl k ↦ let a = held_stands l v k in omega arith
  | inr k ↦ let a = held_stands r v k in omega arith
]

pub stands_held : (t : Cluster) (v : ℕ) → 1 ≤ stands v t → holds t v ≡ true
stands_held (node o u) v h = elim (cases_Bool (eqb u v)) [ inl e ↦ e | inr e ↦ let a = one_false (eqb u v) e in absurd (omega arith) ]
stands_held (merged o c e l r) v h = go (cases_lt 0 (stands v l)) (stands_held l v) (stands_held r v)
  where
    go : (0 < stands v l) ⊎ (stands v l ≤ 0) → (1 ≤ stands v l → holds l v ≡ true) → (1 ≤ stands v r → holds r v ≡ true) → (holds l v || holds r v) ≡ true
    go (inl a) f g = or_left (holds l v) _ (f (omega arith))
    go (inr a) f g = or_right (holds l v) _ (g (omega arith))

pub count_none : (n v : ℕ) → n ≤ v → sum_to n (λ u. one (eqb u v)) ≡ 0
count_none n v h = sum_to_none n (λ u. one (eqb u v)) (λ u l. one_false (eqb u v) (ne_eqb u v (omega arith)))

pub count_once : (n v : ℕ) → v < n → sum_to n (λ u. one (eqb u v)) ≡ 1
count_once zero v h = absurd (omega arith)
count_once (suc n) v h = elim (cases_eq n v) [
  | inl e ↦ let a = one_true (eqb n v) (eq-eqb n v e) in let b = count_none n v (omega arith) in omega arith
  | inr e ↦ let a = one_false (eqb n v) (ne_eqb n v e) in let b = count_once n v (omega arith) in omega arith
]

-- a node stands in the family once, or not at all
pub stands_once : (n : ℕ) (ts : List Slot) → Shared n ts → (v : ℕ) → v < n → over_maximal (stands v) ts ≡ 1
stands_once n ts h v l = h (λ u. one (eqb u v)) ∙ count_once n v l

pub stands_none : (n : ℕ) (ts : List Slot) → Shared n ts → (v : ℕ) → n ≤ v → over_maximal (stands v) ts ≡ 0
stands_none n ts h v l = h (λ u. one (eqb u v)) ∙ count_none n v l

pub stands_most : (n : ℕ) (ts : List Slot) → Shared n ts → (v : ℕ) → over_maximal (stands v) ts ≤ 1
stands_most n ts h v = elim (cases_lt v n) [
  | inl l ↦ let a = stands_once n ts h v l in omega arith
  | inr l ↦ let a = stands_none n ts h v l in omega arith
]

-- two places of a list
pub maximal_two : (f : Cluster → ℕ) (ts : List Slot) (c d : ℕ) (t u : Cluster) → get_or ts c inside ≡ maximal t → get_or ts d inside ≡ maximal u → c ≢ d → f t + f u ≤ over_maximal f ts
maximal_two f [] c d t u p q ne = let z : ◌≡◌ {A = ℕ} 0 1 = cc in absurd (omega arith)
maximal_two f (x ∷ ts) zero zero t u p q ne = absurd (ne refl)
maximal_two f (x ∷ ts) zero (suc d) t u p q ne = let a = maximal_at f ts d u q in let b = ap (on_maximal f) p in omega arith
maximal_two f (x ∷ ts) (suc c) zero t u p q ne = let a = maximal_at f ts c t p in let b = ap (on_maximal f) q in omega arith
maximal_two f (x ∷ ts) (suc c) (suc d) t u p q ne = let a = maximal_two f ts c d t u p q (λ e. ne (ap suc e)) in omega arith

module _ (n : ℕ) (ts : List Slot) (shared : Shared n ts) where
  -- two maximal clusters share no node
  pub apart : (c d : ℕ) (t u : Cluster) (v : ℕ) → get_or ts c inside ≡ maximal t → get_or ts d inside ≡ maximal u → c ≢ d → holds t v ≡ true → holds u v ≡ false
  apart c d t u v p q ne h = elim (cases_Bool (holds u v)) [
    | inr e ↦ e
    | inl e ↦
        let a = maximal_two (stands v) ts c d t u p q ne in
        let b = held_stands t v h in
        let k = held_stands u v e in
        let m = stands_most n ts shared v in
        absurd (omega arith)
  ]

  pub held_below : (c : ℕ) (t : Cluster) (v : ℕ) → get_or ts c inside ≡ maximal t → holds t v ≡ true → v < n
  held_below c t v p h = elim (cases_lt v n) [
    | inl l ↦ l
    | inr l ↦ let a = maximal_at (stands v) ts c t p in let b = held_stands t v h in let z = stands_none n ts shared v l in absurd (omega arith)
  ]

  pub once_in : (c : ℕ) (t : Cluster) (v : ℕ) → get_or ts c inside ≡ maximal t → stands v t ≤ 1
  once_in c t v p = let a = maximal_at (stands v) ts c t p in let m = stands_most n ts shared v in omega arith

-- each node of the network is in a maximal cluster
pub some_maximal : (f : Cluster → ℕ) (ts : List Slot) → 1 ≤ over_maximal f ts → (c : ℕ) × (t : Cluster) × (get_or ts c inside ≡ maximal t) × (1 ≤ f t)
some_maximal f [] h = absurd (omega arith)
some_maximal f (inside ∷ ts) h = let ih = some_maximal f ts (omega arith) in (suc ih.0, ih.1, ih.2, ih.3)
some_maximal f (maximal t ∷ ts) h = go (cases_lt 0 (f t)) (some_maximal f ts)
  where
    go : (0 < f t) ⊎ (f t ≤ 0) → (1 ≤ over_maximal f ts → (c : ℕ) × (u : Cluster) × (get_or ts c inside ≡ maximal u) × (1 ≤ f u)) → (c : ℕ) × (u : Cluster) × (get_or (maximal t ∷ ts) c inside ≡ maximal u) × (1 ≤ f u)
    go (inl a) k = (0, t, refl, omega arith)
    go (inr a) k = let ih = k (omega arith) in (suc ih.0, ih.1, ih.2, ih.3)

pub its_maximal : (n : ℕ) (ts : List Slot) → Shared n ts → (v : ℕ) → v < n → (c : ℕ) × (t : Cluster) × (get_or ts c inside ≡ maximal t) × (holds t v ≡ true)
its_maximal n ts h v l = let a = some_maximal (stands v) ts (let e = stands_once n ts h v l in omega arith) in (a.0, a.1, a.2, stands_held a.1 v a.3)

-- a sum over the maximal clusters to which only one adds
pub none_sum : (f : Cluster → ℕ) (ts : List Slot) → ((c : ℕ) (t : Cluster) → get_or ts c inside ≡ maximal t → f t ≡ 0) → over_maximal f ts ≡ 0
none_sum f [] h = refl
none_sum f (maximal t ∷ ts) h = let ih = none_sum f ts (λ c u e. h (suc c) u e) in let e = h 0 t refl in omega arith
none_sum f (inside ∷ ts) h = let ih = none_sum f ts (λ c u e. h (suc c) u e) in omega arith

pub lone_sum : (f : Cluster → ℕ) (ts : List Slot) (r : ℕ) (R : Cluster) → get_or ts r inside ≡ maximal R →
    ((c : ℕ) (t : Cluster) → get_or ts c inside ≡ maximal t → c ≢ r → f t ≡ 0) → over_maximal f ts ≡ f R
lone_sum f [] r R e h = let z : ◌≡◌ {A = ℕ} 0 1 = cc in absurd (omega arith)
lone_sum f (x ∷ ts) zero R e h =
    let z = none_sum f ts (λ c u k. h (suc c) u k (omega arith)) in
    let q = ap (on_maximal f) e in
    omega arith
lone_sum f (maximal t ∷ ts) (suc r) R e h =
    let ih = lone_sum f ts r R e (λ c u k ne. h (suc c) u k (omega arith)) in
    let z = h 0 t refl (omega arith) in
    omega arith
lone_sum f (inside ∷ ts) (suc r) R e h =
    let ih = lone_sum f ts r R e (λ c u k ne. h (suc c) u k (omega arith)) in
    omega arith

-- the parts of a cluster share no node
abbrev pub Apart : Cluster → Type 0
Apart (node o v) = Unit {0}
Apart (merged o c e l r) = (v : ℕ) → holds l v ≡ true → holds r v ≡ false

pub parts_apart : (t : Cluster) → ((v : ℕ) → stands v t ≤ 1) → Deep Apart t
parts_apart (node o v) h = tt
parts_apart (merged o c e l r) h = (here, parts_apart l (λ v. let a = h v in omega arith), parts_apart r (λ v. let a = h v in omega arith))
  where
    here : (v : ℕ) → holds l v ≡ true → holds r v ≡ false
    here v p = elim (cases_Bool (holds r v)) [
      | inr q ↦ q
      | inl q ↦ let a = held_stands l v p in let b = held_stands r v q in let m = h v in absurd (omega arith)
    ]

-- the moats around v in a cluster
abbrev pub dep : Cluster → ℕ → ℕ
dep t v = under (λ u. cond (holds u v) (moat u) 0) t

pub dep_none : (t : Cluster) (v : ℕ) → holds t v ≡ false → dep t v ≡ 0
dep_none (node o u) v h = cond-false (eqb u v) o.moat 0 h
dep_none (merged o c e l r) v h =
    let p = or_parts (holds l v) (holds r v) h in
    let a = dep_none l v p.0 in
    let b = dep_none r v p.1 in
    let k = cond-false (holds l v || holds r v) o.moat 0 h in
    omega arith

-- a node's depth comes from its maximal cluster alone
pub depth_in : (n : ℕ) (ts : List Slot) → Shared n ts → (c : ℕ) (t : Cluster) (v : ℕ) → get_or ts c inside ≡ maximal t → holds t v ≡ true → depth ts v ≡ dep t v
depth_in n ts h c t v p k = lone_sum (λ u. dep u v) ts c t p (λ d u q ne. dep_none u v (apart n ts h c d t u v p q (λ e. ne (sym e)) k))

-- the moats that an edge with ends a and b crosses in a cluster
abbrev pub cross : ℕ → ℕ → Cluster → ℕ
cross a b t = under (λ u. cond (splits u a b) (moat u) 0) t

pub cross_first : (a b : ℕ) (t : Cluster) → holds t b ≡ false → cross a b t ≡ dep t a
cross_first a b (node o u) h = ap (λ y. cond y o.moat 0) (differ_false (eqb u a) (eqb u b) h)
cross_first a b (merged o c e l r) h =
    let p = or_parts (holds l b) (holds r b) h in
    let x = cross_first a b l p.0 in
    let y = cross_first a b r p.1 in
    let k : cond (splits (merged o c e l r) a b) o.moat 0 ≡ cond (holds l a || holds r a) o.moat 0 = ap (λ z. cond z o.moat 0) (differ_false (holds l a || holds r a) (holds l b || holds r b) h) in
    omega arith

pub cross_second : (a b : ℕ) (t : Cluster) → holds t a ≡ false → cross a b t ≡ dep t b
cross_second a b (node o u) h = ap (λ x. cond (differ x (eqb u b)) o.moat 0) h
cross_second a b (merged o c e l r) h =
    let p = or_parts (holds l a) (holds r a) h in
    let x = cross_second a b l p.0 in
    let y = cross_second a b r p.1 in
    let k : cond (splits (merged o c e l r) a b) o.moat 0 ≡ cond (holds l b || holds r b) o.moat 0 = ap (λ x. cond (differ x (holds l b || holds r b)) o.moat 0) h in
    omega arith

-- the moats of the clusters that hold both
abbrev pub both : ℕ → ℕ → Cluster → ℕ
both a b t = under (λ u. cond (holds u a && holds u b) (moat u) 0) t

both_point : (p q : Bool) (x : ℕ) → cond (differ p q) x 0 + 2 * cond (p && q) x 0 ≡ cond p x 0 + cond q x 0
both_point true true x = omega arith
both_point true false x = omega arith
both_point false true x = omega arith
both_point false false x = omega arith

pub cross_both : (a b : ℕ) (t : Cluster) → cross a b t + 2 * both a b t ≡ dep t a + dep t b
cross_both a b (node o u) = both_point (eqb u a) (eqb u b) o.moat
cross_both a b (merged o c e l r) =
    let x = cross_both a b l in
    let y = cross_both a b r in
    let z = both_point (holds l a || holds r a) (holds l b || holds r b) o.moat in
    omega arith

pub load_both : (net : Net) (ts : List Slot) (s : ℕ) →
    load net ts s + 2 * over_maximal (both (first_end net s) (second_end net s)) ts ≡ depth ts (first_end net s) + depth ts (second_end net s)
load_both net [] s = refl
load_both net (maximal t ∷ ts) s = let ih = load_both net ts s in let x = cross_both (first_end net s) (second_end net s) t in omega arith
load_both net (inside ∷ ts) s = let ih = load_both net ts s in omega arith

both_none : (a b : ℕ) (t : Cluster) → (holds t a ≡ true → holds t b ≡ false) → both a b t ≡ 0
both_none a b (node o u) h = apart_cond (eqb u a) (eqb u b) o.moat h
  where
    apart_cond : (p q : Bool) (x : ℕ) → (p ≡ true → q ≡ false) → cond (p && q) x 0 ≡ 0
    apart_cond true q x f = cond-false q x 0 (f refl)
    apart_cond false q x f = refl
both_none a b (merged o c e l r) h =
    let x = both_none a b l (λ k. (or_parts (holds l b) (holds r b) (h (or_left (holds l a) _ k))).0) in
    let y = both_none a b r (λ k. (or_parts (holds l b) (holds r b) (h (or_right (holds l a) _ k))).1) in
    let z = apart_cond (holds l a || holds r a) (holds l b || holds r b) o.moat h in
    omega arith
  where
    apart_cond : (p q : Bool) (x : ℕ) → (p ≡ true → q ≡ false) → cond (p && q) x 0 ≡ 0
    apart_cond true q x f = cond-false q x 0 (f refl)
    apart_cond false q x f = refl

-- between two maximal clusters an edge carries the depths of both ends
pub load_between : (n : ℕ) (net : Net) (ts : List Slot) → Shared n ts → (s c d : ℕ) (t u : Cluster) → get_or ts c inside ≡ maximal t → get_or ts d inside ≡ maximal u → c ≢ d →
    holds t (first_end net s) ≡ true → holds u (second_end net s) ≡ true → load net ts s ≡ depth ts (first_end net s) + depth ts (second_end net s)
load_between n net ts h s c d t u p q ne x y = let e = load_both net ts s in let z = none_sum (both a b) ts apart_at in omega arith
  where
    a : ℕ
    a = first_end net s

    b : ℕ
    b = second_end net s

    apart_at : (k : ℕ) (w : Cluster) → get_or ts k inside ≡ maximal w → both a b w ≡ 0
    apart_at k w g = both_none a b w (λ i. elim (cases_eq k c) [
      | inl e ↦ apart n ts h d k u w b q g (λ f. ne (sym e ∙ sym f)) y
      | inr e ↦ absurd (both_ways (holds w a) (apart n ts h c k t w a p g (λ f. e (sym f)) x) i)
    ])
