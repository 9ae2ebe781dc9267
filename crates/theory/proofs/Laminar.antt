-- Any two clusters are nested or share no node.
use Rattle.std.proofs.Common.{◌≡◌, ℕ, true, false, List, get_or, sym, ap, ◌∙◌, subst, inl, inr}
use Rattle.std.proofs.lemmas.Bool.{cases_eq, or_left, or_right, cases_Bool, both_ways}
use Rattle.theory.specs.Clusters.{Cluster, Slot, holds, Deep, Every, Shared}
use Rattle.theory.specs.Clusters.Cluster.{node, merged}
use Rattle.theory.specs.Clusters.Slot.{maximal, inside}
use Rattle.theory.specs.Laws.{Nested, Laminar}
use Rattle.theory.specs.Laws.Nested.{in_second, in_first, apart}
use Rattle.theory.proofs.Families.{deep_weaker}
use Rattle.theory.proofs.Slots.{all_maximal, same_maximal}
use Rattle.theory.proofs.Sharing.{Apart, parts_apart, once_in}
use Rattle.theory.proofs.Sharing as Sharing

-- every node of the one is in the other
abbrev pub Sub : Cluster → Cluster → Type 0
Sub t u = (v : ℕ) → holds u v ≡ true → holds t v ≡ true

pub deep_sub : (t : Cluster) → Deep (Sub t) t
deep_sub (node o v) = λ u h. h
deep_sub (merged o c e l r) = (
  (λ u h. h),
  deep_weaker (Sub l) (Sub (merged o c e l r)) (λ w s v h. or_left (holds l v) _ (s v h)) l (deep_sub l),
  deep_weaker (Sub r) (Sub (merged o c e l r)) (λ w s v h. or_right (holds l v) _ (s v h)) r (deep_sub r),
)

pub deep_both : (P Q : Cluster → Type 0) (t : Cluster) → Deep P t → Deep Q t → Deep (λ u. P u × Q u) t
deep_both P Q (node o v) p q = (p, q)
deep_both P Q (merged o c e l r) p q = ((p.0, q.0), deep_both P Q l p.1 q.1, deep_both P Q r p.2 q.2)

-- the nodes of two clusters that share none
abbrev Off : Cluster → Cluster → Type 0
Off t u = (v : ℕ) → holds t v ≡ true → holds u v ≡ false

off_turned : (t u : Cluster) → Off t u → Off u t
off_turned t u h v k = elim (cases_Bool (holds t v)) [ inr e ↦ e | inl e ↦ absurd (both_ways (holds u v) (h v e) k) ]

off_deep : (t u x : Cluster) → Off t u → Sub t x → Deep (λ w. Nested x w) u
off_deep t u x off s = deep_weaker (Sub u) (λ w. Nested x w) (λ w k. apart (λ v h. elim (cases_Bool (holds w v)) [ inr e ↦ e | inl e ↦ absurd (both_ways (holds u v) (off v (s v h)) (k v e)) ])) u (deep_sub u)

laminar_in : (t : Cluster) → Deep Apart t → Deep (λ u. Deep (Nested u) t) t
laminar_in (node o v) h = in_second (λ u k. k)
laminar_in (merged o c e l r) h = (
  deep_weaker (Sub t) (Nested t) (λ w s. in_first s) t (deep_sub t),
  deep_weaker (λ u. Deep (Nested u) l × Sub l u) (λ u. Deep (Nested u) t) (λ u k. (in_second (λ v i. or_left (holds l v) _ (k.1 v i)), k.0, off_deep l r u h.0 k.1)) l
      (deep_both (λ u. Deep (Nested u) l) (Sub l) l (laminar_in l h.1) (deep_sub l)),
  deep_weaker (λ u. Deep (Nested u) r × Sub r u) (λ u. Deep (Nested u) t) (λ u k. (in_second (λ v i. or_right (holds l v) _ (k.1 v i)), off_deep r l u (off_turned l r h.0) k.1, k.0)) r
      (deep_both (λ u. Deep (Nested u) r) (Sub r) r (laminar_in r h.2) (deep_sub r)),
)
  where
    t : Cluster
    t = merged o c e l r

pub laminar : (n : ℕ) (ts : List Slot) → Shared n ts → Laminar ts
laminar n ts shared = all_maximal (Deep (λ u. Every (Nested u) ts)) ts (λ c t e.
    deep_weaker (λ u. Deep (Nested u) t × Sub t u) (λ u. Every (Nested u) ts) (λ u k. all_maximal (Deep (Nested u)) ts (λ d w g. by c d t w u e g k.0 k.1)) t
    (deep_both (λ u. Deep (Nested u) t) (Sub t) t (laminar_in t (parts_apart t (λ v. once_in n ts shared c t v e))) (deep_sub t)))
  where
    by : (c d : ℕ) (t w u : Cluster) → get_or ts c inside ≡ maximal t → get_or ts d inside ≡ maximal w → Deep (Nested u) t → Sub t u → Deep (Nested u) w
    by c d t w u e g k s = elim (cases_eq c d) [
      | inl same ↦ subst (Deep (Nested u)) (same_maximal t w (sym e ∙ ap (λ i. get_or ts i inside) same ∙ g)) k
      | inr ne ↦ off_deep t w u (λ v h. Sharing.apart n ts shared c d t w v e g ne h) s
    ]
