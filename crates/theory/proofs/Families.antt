-- Sums over a cluster's parts and over the maximal clusters, and what holds of every cluster. Assumes nothing.
use Rattle.std.proofs.Common.{◌≡◌, ℕ, ◌+◌, ◌≤◌, List, [], ◌∷◌, sym, refl, ◌∙◌, arith}
use Rattle.std.specs.List.{AllByRecursion}
use Rattle.std.proofs.ByRecursion.{All-weaker}
use Rattle.theory.specs.Sums.{sum_to}
use Rattle.theory.specs.Clusters.{Cluster, Slot, under, Deep, OnMaximal, over_maximal, over_all, Every}
use Rattle.theory.specs.Clusters.Cluster.{node, merged}
use Rattle.theory.specs.Clusters.Slot.{maximal, inside}
use Rattle.theory.proofs.Sums.{sum_to_plus, sum_to_none}

-- sums over a cluster and, in turn, its parts
module _ (f g : Cluster → ℕ) where
  pub under_le : (t : Cluster) → Deep (λ u. f u ≤ g u) t → under f t ≤ under g t
  under_le (node o v) h = h
  under_le (merged o c e l r) h = let a = under_le l h.1 in let b = under_le r h.2 in omega (arith, h.0)

  pub under_same : (t : Cluster) → Deep (λ u. f u ≡ g u) t → under f t ≡ under g t
  under_same (node o v) h = h
  under_same (merged o c e l r) h = let a = under_same l h.1 in let b = under_same r h.2 in omega (arith, h.0)

  pub under_plus : (t : Cluster) → under (λ u. f u + g u) t ≡ under f t + under g t
  under_plus (node o v) = refl
  under_plus (merged o c e l r) = let a = under_plus l in let b = under_plus r in omega arith

pub under_sum_to : (n : ℕ) (F : ℕ → Cluster → ℕ) (t : Cluster) → under (λ u. sum_to n (λ s. F s u)) t ≡ sum_to n (λ s. under (F s) t)
under_sum_to n F (node o v) = refl
under_sum_to n F (merged o c e l r) =
    let a = under_sum_to n F l in
    let b = under_sum_to n F r in
    let x = sum_to_plus n (λ s. F s (merged o c e l r)) (λ s. under (F s) l + under (F s) r) in
    let y = sum_to_plus n (λ s. under (F s) l) (λ s. under (F s) r) in
    omega arith

-- what holds of every cluster
pub deep_weaker : (P Q : Cluster → Type 0) → ((u : Cluster) → P u → Q u) → (t : Cluster) → Deep P t → Deep Q t
deep_weaker P Q f (node o v) h = f (node o v) h
deep_weaker P Q f (merged o c e l r) h = (f (merged o c e l r) h.0, deep_weaker P Q f l h.1, deep_weaker P Q f r h.2)

pub deep_head : (P : Cluster → Type 0) (t : Cluster) → Deep P t → P t
deep_head P (node o v) h = h
deep_head P (merged o c e l r) h = h.0

pub deep_any : (P : Cluster → Type 0) → ((u : Cluster) → P u) → (t : Cluster) → Deep P t
deep_any P f (node o v) = f (node o v)
deep_any P f (merged o c e l r) = (f (merged o c e l r), deep_any P f l, deep_any P f r)

pub every_weaker : (P Q : Cluster → Type 0) → ((u : Cluster) → P u → Q u) → (ts : List Slot) → Every P ts → Every Q ts
every_weaker P Q f ts h = All-weaker (OnMaximal (Deep P)) (OnMaximal (Deep Q)) each ts h
  where
    each : (x : Slot) → OnMaximal (Deep P) x → OnMaximal (Deep Q) x
    each (maximal t) k = deep_weaker P Q f t k
    each inside k = tt

-- sums over the maximal clusters
pub maximal_le : (P : Cluster → Type 0) (f g : Cluster → ℕ) → ((t : Cluster) → P t → f t ≤ g t) → (ts : List Slot) → AllByRecursion (OnMaximal P) ts → over_maximal f ts ≤ over_maximal g ts
maximal_le P f g h [] k = omega arith
maximal_le P f g h (maximal t ∷ ts) k = let ih = maximal_le P f g h ts k.1 in let e = h t k.0 in omega arith
maximal_le P f g h (inside ∷ ts) k = let ih = maximal_le P f g h ts k.1 in omega arith

pub maximal_same : (f g : Cluster → ℕ) → ((t : Cluster) → f t ≡ g t) → (ts : List Slot) → over_maximal f ts ≡ over_maximal g ts
maximal_same f g h [] = refl
maximal_same f g h (maximal t ∷ ts) = let ih = maximal_same f g h ts in let e = h t in omega arith
maximal_same f g h (inside ∷ ts) = let ih = maximal_same f g h ts in omega arith

pub maximal_plus : (f g : Cluster → ℕ) (ts : List Slot) → over_maximal (λ t. f t + g t) ts ≡ over_maximal f ts + over_maximal g ts
maximal_plus f g [] = refl
maximal_plus f g (maximal t ∷ ts) = let ih = maximal_plus f g ts in omega arith
maximal_plus f g (inside ∷ ts) = let ih = maximal_plus f g ts in omega arith

pub maximal_sum_to : (n : ℕ) (F : ℕ → Cluster → ℕ) (ts : List Slot) → over_maximal (λ t. sum_to n (λ s. F s t)) ts ≡ sum_to n (λ s. over_maximal (F s) ts)
maximal_sum_to n F [] = sym (sum_to_none n (λ s. 0) (λ v l. refl))
maximal_sum_to n F (maximal t ∷ ts) = let ih = maximal_sum_to n F ts in let e = sum_to_plus n (λ s. F s t) (λ s. over_maximal (F s) ts) in omega arith
maximal_sum_to n F (inside ∷ ts) = let ih = maximal_sum_to n F ts in let e = sum_to_plus n (λ s. 0) (λ s. over_maximal (F s) ts) in let z = sum_to_none n (λ s. 0) (λ v l. refl) in omega arith

-- sums over all clusters
pub all_sum_to : (n : ℕ) (F : ℕ → Cluster → ℕ) (ts : List Slot) → over_all (λ u. sum_to n (λ s. F s u)) ts ≡ sum_to n (λ s. over_all (F s) ts)
all_sum_to n F ts = maximal_same (under (λ u. sum_to n (λ s. F s u))) (λ t. sum_to n (λ s. under (F s) t)) (under_sum_to n F) ts ∙ maximal_sum_to n (λ s. under (F s)) ts

pub all_same : (f g : Cluster → ℕ) → ((u : Cluster) → f u ≡ g u) → (ts : List Slot) → over_all f ts ≡ over_all g ts
all_same f g h ts = maximal_same (under f) (under g) (λ t. under_same f g t (deep_any (λ u. f u ≡ g u) h t)) ts

pub all_plus : (f g : Cluster → ℕ) (ts : List Slot) → over_all (λ u. f u + g u) ts ≡ over_all f ts + over_all g ts
all_plus f g ts = maximal_same (under (λ u. f u + g u)) (λ t. under f t + under g t) (under_plus f g) ts ∙ maximal_plus (under f) (under g) ts
