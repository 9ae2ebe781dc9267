-- What a plan loses is paid for by the moats of clusters that it does not meet.
use Rattle.std.proofs.Common.{◌≡◌, ℕ, ◌≤◌, Bool, true, false, ◌||◌, ◌⊎◌, sym, refl, ap, ◌∙◌, subst, inl, inr, arith}
use Rattle.std.proofs.lemmas.Bool.{or_left, or_right, cases_Bool, both_ways, cond-true, eq-eqb}
use Rattle.network.specs.Nets.{Net}
use Rattle.theory.specs.Nets.{doubled_prize}
use Rattle.theory.specs.Clusters.{Cluster, cluster_active, holds, over, under, Deep}
use Rattle.theory.specs.Clusters.Cluster.{node, merged}
use Rattle.theory.proofs.Bools.{only}
use Rattle.theory.proofs.Families.{deep_head, deep_weaker}
use Rattle.theory.proofs.Sharing.{Apart}
use Rattle.theory.proofs.Lower.{left_out}
use Rattle.theory.proofs.Invariant.{Bridge, Made, Fresh, absent}
use Rattle.theory.proofs.Inside.{Inside, deep_inside, inside_sub, touches, touched, witness, idle, untouched_lost, untouched_idle}
use Rattle.theory.proofs.Inside.Inside.{here, in_left, in_right}

-- v is in no inactive cluster strictly inside t
abbrev Strict : ℕ → Cluster → Type 0
Strict v (node o u) = Unit {0}
Strict v (merged o c e l r) = Fresh v l × Fresh v r

strict_fresh : (v : ℕ) (t : Cluster) → cluster_active t ≡ true → Strict v t → Fresh v t
strict_fresh v (node o u) g s = λ h. g
strict_fresh v (merged o c e l r) g s = ((λ h. g), s.0, s.1)

-- every cluster has a node that is in no inactive cluster strictly inside it
fresh_in : (net : Net) (t : Cluster) → Deep (Bridge net) t → Deep Apart t → (v : ℕ) × (holds t v ≡ true) × Strict v t
fresh_in net (node o v) b a = (v, eq-eqb v v refl, tt)
fresh_in net (merged o c e l r) b a = go (cases_Bool (cluster_active l)) (fresh_in net l b.1 a.1) (fresh_in net r b.2 a.2)
  where
    not_l : (v : ℕ) → holds r v ≡ true → holds l v ≡ false
    not_l v k = only (holds l v) (λ i. both_ways (holds r v) (a.0 v i) k)

    go : (cluster_active l ≡ true) ⊎ (cluster_active l ≡ false) → (v : ℕ) × (holds l v ≡ true) × Strict v l → (v : ℕ) × (holds r v ≡ true) × Strict v r → (v : ℕ) × ((holds l v || holds r v) ≡ true) × (Fresh v l × Fresh v r)
    go (inl g) (v, i, s) y = (v, or_left (holds l v) _ i, (strict_fresh v l g s, absent v r (a.0 v i)))
    go (inr g) x (v, i, s) = (v, or_right (holds l v) _ i, (absent v l (not_l v i), strict_fresh v r (only_active g) s))
      where
        only_active : cluster_active l ≡ false → cluster_active r ≡ true
        only_active k = elim (cases_Bool (cluster_active r)) [ inl j ↦ j | inr j ↦ absurd (b.0.3 k j) ]

strict_here : (v : ℕ) {u t : Cluster} → Inside u t → Strict v t → holds u v ≡ true → cluster_active u ≡ false → cluster_active t ≡ false
strict_here v here s h dead = dead
strict_here v {u} (in_left i) s h dead = absurd (both_ways (cluster_active u) dead (deep_inside (λ w. holds w v ≡ true → cluster_active w ≡ true) i s.0 h))
strict_here v {u} (in_right i) s h dead = absurd (both_ways (cluster_active u) dead (deep_inside (λ w. holds w v ≡ true → cluster_active w ≡ true) i s.1 h))

-- the nodes of t outside N are in inactive clusters of it that N does not meet
abbrev Gone : (ℕ → Bool) → Cluster → Type 0
Gone N t = (v : ℕ) → holds t v ≡ true → N v ≡ false → (u : Cluster) × Inside u t × (cluster_active u ≡ false) × (holds u v ≡ true) × ((w : ℕ) → holds u w ≡ true → N w ≡ false)

-- a cluster that N does not meet is inactive and loses no more than its moats
untouched_le : (net : Net) (N : ℕ → Bool) (t : Cluster) → Deep (Made net) t → Deep Apart t → Gone N t → touches N t ≡ false → over (left_out N (doubled_prize net)) t ≤ under (idle N) t
untouched_le net N t m a g k =
    let v = fresh_in net t (deep_weaker (Made net) (Bridge net) (λ u x. x.2) t m) a in
    let u = g v.0 v.1 (only (N v.0) (λ n. both_ways (touches N t) k (touched N t v.0 v.1 n))) in
    let dead = strict_here v.0 u.1 v.2 u.3 u.2 in
    let p = (deep_head (Made net) t m).1 dead in
    let x = untouched_lost N (doubled_prize net) t k in
    let y = untouched_idle N t k in
    omega arith

-- what a cluster loses is paid by the moats that N does not meet
pub lost_in : (net : Net) (N : ℕ → Bool) (t : Cluster) → Deep (Made net) t → Deep Apart t → Gone N t → over (left_out N (doubled_prize net)) t ≤ under (idle N) t
lost_in net N (node o v) m a g = elim (cases_Bool (N v)) [
  | inl k ↦ let x = cond-true (N v) 0 (doubled_prize net v) k in omega arith
  | inr k ↦ untouched_le net N (node o v) m a g k
]
lost_in net N (merged o c e l r) m a g = go (cases_Bool (touches N l || touches N r)) (lost_in net N l m.1 a.1) (lost_in net N r m.2 a.2)
  where
    t : Cluster
    t = merged o c e l r

    Found : Cluster → ℕ → Type 0
    Found s v = (u : Cluster) × Inside u s × (cluster_active u ≡ false) × (holds u v ≡ true) × ((w : ℕ) → holds u w ≡ true → N w ≡ false)

    whole : (u : Cluster) → u ≡ t → ((w : ℕ) → holds u w ≡ true → N w ≡ false) → touches N t ≡ true → ⊥
    whole u e f k = let w = witness N t k in both_ways (N w.0) (f w.0 (ap (λ z. holds z w.0) e ∙ w.1)) w.2

    -- a cluster of the whole that holds a node of a part, and is not the whole, is of the part
    part_l : (v : ℕ) → holds l v ≡ true → (u s : Cluster) → Inside u s → s ≡ t → (cluster_active u ≡ false) → holds u v ≡ true → ((w : ℕ) → holds u w ≡ true → N w ≡ false) → touches N t ≡ true → Found l v
    part_l v h u s here e dead hu f k = absurd (whole u e f k)
    part_l v h u s (in_left {l = l'} i) e dead hu f k = let q : l' ≡ l = cc in (u, subst (Inside u) q i, dead, hu, f)
    part_l v h u s (in_right {r = r'} i) e dead hu f k = let q : r' ≡ r = cc in absurd (both_ways (holds r v) (a.0 v h) (ap (λ z. holds z v) (sym q) ∙ inside_sub i v hu))

    part_r : (v : ℕ) → holds r v ≡ true → (u s : Cluster) → Inside u s → s ≡ t → (cluster_active u ≡ false) → holds u v ≡ true → ((w : ℕ) → holds u w ≡ true → N w ≡ false) → touches N t ≡ true → Found r v
    part_r v h u s here e dead hu f k = absurd (whole u e f k)
    part_r v h u s (in_right {r = r'} i) e dead hu f k = let q : r' ≡ r = cc in (u, subst (Inside u) q i, dead, hu, f)
    part_r v h u s (in_left {l = l'} i) e dead hu f k = let q : l' ≡ l = cc in absurd (both_ways (holds r v) (a.0 v (ap (λ z. holds z v) (sym q) ∙ inside_sub i v hu)) h)

    go : ((touches N l || touches N r) ≡ true) ⊎ ((touches N l || touches N r) ≡ false) → (Gone N l → over (left_out N (doubled_prize net)) l ≤ under (idle N) l) → (Gone N r → over (left_out N (doubled_prize net)) r ≤ under (idle N) r) →
        over (left_out N (doubled_prize net)) t ≤ under (idle N) t
    go (inr k) f f' = untouched_le net N t m a g k
    go (inl k) f f' =
        let x = f (λ v h n. let z = g v (or_left (holds l v) _ h) n in part_l v h z.0 t z.1 refl z.2 z.3 z.4 k) in
        let y = f' (λ v h n. let z = g v (or_right (holds l v) _ h) n in part_r v h z.0 t z.1 refl z.2 z.3 z.4 k) in
        omega arith
