-- The slots by number: a cluster becomes inactive, two merge, time passes. Assumes nothing.
use Rattle.std.proofs.Common.{◌≡◌, ℕ, zero, suc, ◌+◌, ◌*◌, ◌<◌, ◌≤◌, Bool, true, false, cond, ◌≢◌, ◌⊎◌, List, [], ◌∷◌, ◌++◌, length, get_or, set, sym, refl, ap, ◌∙◌, subst, inl, inr, arith}
use Rattle.std.specs.List.{AllByRecursion}
use Rattle.std.proofs.lemmas.Bool.{cases_eq, cases_lt}
use Rattle.std.proofs.lemmas.List.{length-set, length_push, length-map, get_or-set_other, get_or-set_same, get_or_append_left, get_or_push, get_or_past}
use Rattle.std.proofs.ByRecursion.{All-append, All-set, All-get_or}
use Rattle.theory.specs.Clusters.{Cluster, Slot, is_active, moat, cluster_active, holds, over, under, inner, on_maximal, OnMaximal, over_maximal, over_all}
use Rattle.theory.specs.Clusters.Cluster.{node, merged}
use Rattle.theory.specs.Clusters.Slot.{maximal, inside}
use Rattle.theory.specs.Growth.{widen, widen_slot, pass, inactivate, inactivate_slot, deactivate, taken, merge, fresh}
use Rattle.theory.proofs.Sums.{sum_of_append, sum_of_set, sum_of_at}

-- a maximal cluster's number is in range
pub maximal_below : (ts : List Slot) (c : ℕ) (t : Cluster) → get_or ts c inside ≡ maximal t → c < length ts
maximal_below [] c t e = let z : ◌≡◌ {A = ℕ} 0 1 = cc in absurd (omega arith)
maximal_below (x ∷ ts) zero t e = omega arith
maximal_below (x ∷ ts) (suc c) t e = let ih = maximal_below ts c t e in omega arith

pub same_maximal : (t u : Cluster) → maximal t ≡ maximal u → t ≡ u
same_maximal t u e = cc

pub not_maximal : (t : Cluster) → inside ≡ maximal t → ⊥
not_maximal t e = let z : ◌≡◌ {A = ℕ} 0 1 = cc in omega arith

pub maximal_at : (f : Cluster → ℕ) (ts : List Slot) (c : ℕ) (t : Cluster) → get_or ts c inside ≡ maximal t → f t ≤ over_maximal f ts
maximal_at f ts c t e = let a = sum_of_at (on_maximal f) ts c inside (maximal_below ts c t e) in let b = ap (on_maximal f) e in omega arith

pub maximal_all : (P : Cluster → Type 0) (ts : List Slot) (c : ℕ) (t : Cluster) → AllByRecursion (OnMaximal P) ts → get_or ts c inside ≡ maximal t → P t
maximal_all P ts c t a e = subst (OnMaximal P) e (All-get_or (OnMaximal P) ts c inside (maximal_below ts c t e) a)

-- one maximal cluster is replaced
pub set_sum : (f : Cluster → ℕ) (ts : List Slot) (c : ℕ) (t u : Cluster) → get_or ts c inside ≡ maximal t → over_maximal f (set ts c (maximal u)) + f t ≡ over_maximal f ts + f u
set_sum f ts c t u e = let a = sum_of_set (on_maximal f) ts c (maximal u) inside (maximal_below ts c t e) in let b = ap (on_maximal f) e in omega arith

pub deactivate_is : (ts : List Slot) (c : ℕ) (t : Cluster) → get_or ts c inside ≡ maximal t → deactivate ts c ≡ set ts c (maximal (inactivate t))
deactivate_is ts c t e = ap (λ x. set ts c (inactivate_slot x)) e

-- the slots of p and q are emptied and a new cluster is added
abbrev pub join : List Slot → ℕ → ℕ → Cluster → List Slot
join ts p q new = set (set ts p inside) q inside ++ (maximal new ∷ [])

pub merge_is : (ts : List Slot) (p q e : ℕ) (l r : Cluster) → get_or ts p inside ≡ maximal l → get_or ts q inside ≡ maximal r → merge ts p q e ≡ join ts p q (merged fresh (length ts) e l r)
merge_is ts p q e l r a b = ap (λ x. join ts p q (merged fresh (length ts) e (taken x) (taken (get_or ts q inside)))) a ∙ ap (λ x. join ts p q (merged fresh (length ts) e l (taken x))) b

module _ (ts : List Slot) (p q : ℕ) (l r new : Cluster) (pl : get_or ts p inside ≡ maximal l) (qr : get_or ts q inside ≡ maximal r) (d : p ≢ q) where
  pub join_sum : (f : Cluster → ℕ) → over_maximal f (join ts p q new) + (f l + f r) ≡ over_maximal f ts + f new
  join_sum f =
      let a = sum_of_set (on_maximal f) ts p inside inside (maximal_below ts p l pl) in
      let b = sum_of_set (on_maximal f) (set ts p inside) q inside inside (simp length-set (maximal_below ts q r qr)) in
      let c = ap (on_maximal f) (get_or-set_other ts p q inside inside (λ e. d (sym e)) ∙ qr) in
      let e = ap (on_maximal f) pl in
      let g = sum_of_append (on_maximal f) (set (set ts p inside) q inside) (maximal new ∷ []) in
      omega arith

  pub join_all : (P : Cluster → Type 0) → AllByRecursion (OnMaximal P) ts → P new → AllByRecursion (OnMaximal P) (join ts p q new)
  join_all P a n = All-append (OnMaximal P) (set (set ts p inside) q inside) (maximal new ∷ []) (All-set (OnMaximal P) (set ts p inside) q inside tt (All-set (OnMaximal P) ts p inside tt a)) (n, tt)

  pub join_length : length (join ts p q new) ≡ length ts + 1
  join_length = length_push (set (set ts p inside) q inside) (maximal new) ∙ simp length-set

  pub join_new : get_or (join ts p q new) (length ts) inside ≡ maximal new
  join_new = get_or_push (set (set ts p inside) q inside) (maximal new) inside (length ts) (simp length-set)

  front : (c : ℕ) → c < length ts → get_or (join ts p q new) c inside ≡ get_or (set (set ts p inside) q inside) c inside
  front c b = get_or_append_left (set (set ts p inside) q inside) (maximal new ∷ []) inside c (simp length-set b)

  pub join_right : get_or (join ts p q new) q inside ≡ inside
  join_right = front q (maximal_below ts q r qr) ∙ get_or-set_same (set ts p inside) q inside inside (simp length-set (maximal_below ts q r qr))

  pub join_left : get_or (join ts p q new) p inside ≡ inside
  join_left = front p (maximal_below ts p l pl) ∙ get_or-set_other (set ts p inside) q p inside inside d ∙ get_or-set_same ts p inside inside (maximal_below ts p l pl)

  pub join_other : (c : ℕ) → c < length ts → c ≢ p → c ≢ q → get_or (join ts p q new) c inside ≡ get_or ts c inside
  join_other c b x y = front c b ∙ get_or-set_other (set ts p inside) q c inside inside y ∙ get_or-set_other ts p c inside inside x

  -- the maximal clusters after it
  pub join_maximal : (c : ℕ) (t : Cluster) → get_or (join ts p q new) c inside ≡ maximal t → ((c ≡ length ts) × (t ≡ new)) ⊎ ((c ≢ p) × (c ≢ q) × (get_or ts c inside ≡ maximal t))
  join_maximal c t e = elim (cases_lt c (length ts)) [
    | inl b ↦ inr (old b)
    | inr b ↦ elim (cases_eq c (length ts)) [
      | inl k ↦ inl (k, same_maximal t new (sym e ∙ ap (λ i. get_or (join ts p q new) i inside) k ∙ join_new))
      | inr k ↦ absurd (not_maximal t (sym (get_or_past (join ts p q new) c inside (let n = join_length in omega arith)) ∙ e))
    ]
  ]
    where
      old : c < length ts → (c ≢ p) × (c ≢ q) × (get_or ts c inside ≡ maximal t)
      old b =
          let x : c ≢ p = λ k. not_maximal t (sym (ap (λ i. get_or (join ts p q new) i inside) k ∙ join_left) ∙ e) in
          let y : c ≢ q = λ k. not_maximal t (sym (ap (λ i. get_or (join ts p q new) i inside) k ∙ join_right) ∙ e) in
          (x, y, sym (join_other c b x y) ∙ e)

-- time passes
pub widen_holds : (d : ℕ) (t : Cluster) (v : ℕ) → holds (widen d t) v ≡ holds t v
widen_holds d (node o u) v = refl
widen_holds d (merged o c e l r) v = refl

pub widen_active : (d : ℕ) (t : Cluster) → cluster_active (widen d t) ≡ cluster_active t
widen_active d (node o u) = refl
widen_active d (merged o c e l r) = refl

pub widen_over : (d : ℕ) (f : ℕ → ℕ) (t : Cluster) → over f (widen d t) ≡ over f t
widen_over d f (node o u) = refl
widen_over d f (merged o c e l r) = refl

pub widen_under : (d : ℕ) (K : Cluster → ℕ) → ((t : Cluster) → K (widen d t) ≡ K t) → (t : Cluster) →
    under (λ u. moat u * K u) (widen d t) ≡ under (λ u. moat u * K u) t + d * cond (cluster_active t) (K t) 0
widen_under d K same (node o v) = by (is_active o.phase) o.moat d (K (widen d (node o v))) (K (node o v)) (same (node o v))
  where
    by : (b : Bool) (y d k k' : ℕ) → k ≡ k' → (y + cond b d 0) * k ≡ y * k' + d * cond b k' 0
    by true y d k k' e = rw e (omega arith)
    by false y d k k' e = rw e (omega arith)
widen_under d K same (merged o c e l r) =
    let x = by (is_active o.phase) o.moat d (K (widen d (merged o c e l r))) (K (merged o c e l r)) (same (merged o c e l r)) in omega arith
  where
    by : (b : Bool) (y d k k' : ℕ) → k ≡ k' → (y + cond b d 0) * k ≡ y * k' + d * cond b k' 0
    by true y d k k' e = rw e (omega arith)
    by false y d k k' e = rw e (omega arith)

-- a sum over all moats, each times something that time leaves: what grows is the active ones
pub pass_all : (d : ℕ) (K : Cluster → ℕ) → ((t : Cluster) → K (widen d t) ≡ K t) → (ts : List Slot) →
    over_all (λ u. moat u * K u) (pass d ts) ≡ over_all (λ u. moat u * K u) ts + d * over_maximal (λ t. cond (cluster_active t) (K t) 0) ts
pass_all d K same [] = omega arith
pass_all d K same (maximal t ∷ ts) = let ih = pass_all d K same ts in let a = widen_under d K same t in omega arith
pass_all d K same (inside ∷ ts) = let ih = pass_all d K same ts in omega arith

pub pass_over : (d : ℕ) (f : Cluster → ℕ) → ((t : Cluster) → f (widen d t) ≡ f t) → (ts : List Slot) → over_maximal f (pass d ts) ≡ over_maximal f ts
pass_over d f same [] = refl
pass_over d f same (maximal t ∷ ts) = let ih = pass_over d f same ts in let a = same t in omega arith
pass_over d f same (inside ∷ ts) = let ih = pass_over d f same ts in omega arith

pub pass_length : (d : ℕ) (ts : List Slot) → length (pass d ts) ≡ length ts
pass_length d ts = length-map ts (widen_slot d)

pub pass_at : (d : ℕ) (ts : List Slot) (c : ℕ) → get_or (pass d ts) c inside ≡ widen_slot d (get_or ts c inside)
pass_at d [] c = refl
pass_at d (x ∷ ts) zero = refl
pass_at d (x ∷ ts) (suc c) = pass_at d ts c

pub pass_maximal : (d : ℕ) (ts : List Slot) (c : ℕ) (t : Cluster) → get_or ts c inside ≡ maximal t → get_or (pass d ts) c inside ≡ maximal (widen d t)
pass_maximal d ts c t e = pass_at d ts c ∙ ap (widen_slot d) e

pub widen_inner : (d : ℕ) (t : Cluster) → inner (widen d t) ≡ inner t + cond (cluster_active t) d 0
widen_inner d (node o v) = refl
widen_inner d (merged o c e l r) = omega arith

-- what holds of each maximal cluster
pub all_maximal : (P : Cluster → Type 0) (ts : List Slot) → ((c : ℕ) (t : Cluster) → get_or ts c inside ≡ maximal t → P t) → AllByRecursion (OnMaximal P) ts
all_maximal P [] h = tt
all_maximal P (maximal t ∷ ts) h = (h 0 t refl, all_maximal P ts (λ c u e. h (suc c) u e))
all_maximal P (inside ∷ ts) h = (tt, all_maximal P ts (λ c u e. h (suc c) u e))

pub pass_by : (d : ℕ) (Q : Cluster → Type 0) (ts : List Slot) → ((c : ℕ) (t : Cluster) → get_or ts c inside ≡ maximal t → Q (widen d t)) → AllByRecursion (OnMaximal Q) (pass d ts)
pass_by d Q [] h = tt
pass_by d Q (maximal t ∷ ts) h = (h 0 t refl, pass_by d Q ts (λ c u e. h (suc c) u e))
pass_by d Q (inside ∷ ts) h = (tt, pass_by d Q ts (λ c u e. h (suc c) u e))
