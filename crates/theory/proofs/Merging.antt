-- Two maximal clusters merge: what growth keeps is kept.
use Rattle.std.proofs.Common.{◌≡◌, ℕ, ◌+◌, ◌%◌, ◌<◌, ◌≤◌, true, false, ◌||◌, ◌≢◌, ◌⊎◌, List, length, get_or, sym, refl, subst, inl, inr, arith}
use Rattle.std.proofs.lemmas.Bool.{or_left, or_right, or_cases, cases_Bool}
use Rattle.network.specs.Nets.{Net}
use Rattle.theory.specs.Nets.{node_count, edge_count, first_end, second_end, doubled_cost}
use Rattle.theory.specs.Clusters.{Cluster, Slot, cluster_active, holds, over, splits, Deep}
use Rattle.theory.specs.Clusters.Cluster.{merged}
use Rattle.theory.specs.Clusters.Slot.{maximal, inside}
use Rattle.theory.specs.Growth.{fresh, merge}
use Rattle.theory.proofs.Bools.{zero_cond}
use Rattle.theory.proofs.Families.{deep_head}
use Rattle.theory.proofs.Slots.{maximal_all, merge_is, join_sum, join_all, join_length}
use Rattle.theory.proofs.Sharing.{apart, depth_in, dep, dep_none, cross, cross_first, cross_second, load_between}
use Rattle.theory.proofs.Invariant.{Made, Fresh, Sits, Inv, absent}

module _ (net : Net) (time : ℕ) (ts : List Slot) (p q e : ℕ) (l r : Cluster) (h : Inv net time ts)
    (pl : get_or ts p inside ≡ maximal l) (qr : get_or ts q inside ≡ maximal r) (ne : p ≢ q) (es : e < edge_count net)
    (la : holds l (first_end net e) ≡ true) (rb : holds r (second_end net e) ≡ true) (some-active : cluster_active l ≡ false → cluster_active r ≡ false → ⊥)
    (tight : doubled_cost net e ≤ dep l (first_end net e) + dep r (second_end net e)) where
  abbrev new : Cluster
  new = merged fresh (length ts) e l r

  not_r : (v : ℕ) → holds l v ≡ true → holds r v ≡ false
  not_r v k = apart (node_count net) ts h.shared p q l r v pl qr ne k

  not_l : (v : ℕ) → holds r v ≡ true → holds l v ≡ false
  not_l v k = apart (node_count net) ts h.shared q p r l v qr pl (λ x. ne (sym x)) k

  dep_l : (v : ℕ) → holds l v ≡ true → dep new v ≡ dep l v
  dep_l v k = let x = zero_cond (holds l v || holds r v) in let y = dep_none r v (not_r v k) in omega arith

  dep_r : (v : ℕ) → holds r v ≡ true → dep new v ≡ dep r v
  dep_r v k = let x = zero_cond (holds l v || holds r v) in let y = dep_none l v (not_l v k) in omega arith

  sl : Sits time l
  sl = maximal_all (Sits time) ts p l h.sits pl

  sr : Sits time r
  sr = maximal_all (Sits time) ts q r h.sits qr

  exact : dep l (first_end net e) + dep r (second_end net e) ≡ doubled_cost net e
  exact =
      let x = load_between (node_count net) net ts h.shared e p q l r pl qr ne la rb in
      let y = depth_in (node_count net) ts h.shared p l (first_end net e) pl la in
      let z = depth_in (node_count net) ts h.shared q r (second_end net e) qr rb in
      let k = h.loads e es in
      omega arith

  lr_even : (u v : ℕ) → holds l u ≡ true → holds r v ≡ true → (dep l u + dep r v) % 2 ≡ 0
  lr_even u v x y =
      let i = sl.even u (first_end net e) x la in
      let j = sr.even (second_end net e) v rb y in
      let k = exact in
      let z : (dep l u + dep r v) % 2 ≡ 0 = omega arith in z

  new_within : (v : ℕ) → holds new v ≡ true → dep new v ≤ time
  new_within v k = elim (or_cases (holds l v) (holds r v) k) [
    | inl x ↦ let i = dep_l v x in let j = sl.within v x in omega arith
    | inr x ↦ let i = dep_r v x in let j = sr.within v x in omega arith
  ]

  new_even : (u v : ℕ) → holds new u ≡ true → holds new v ≡ true → (dep new u + dep new v) % 2 ≡ 0
  new_even u v x y = go (or_cases (holds l u) (holds r u) x) (or_cases (holds l v) (holds r v) y)
    where
      go : (holds l u ≡ true) ⊎ (holds r u ≡ true) → (holds l v ≡ true) ⊎ (holds r v ≡ true) → (dep new u + dep new v) % 2 ≡ 0
      go (inl i) (inl k) = let m = dep_l u i in let n = dep_l v k in let w = sl.even u v i k in let z : (dep new u + dep new v) % 2 ≡ 0 = omega arith in z
      go (inl i) (inr k) = let m = dep_l u i in let n = dep_r v k in let w = lr_even u v i k in let z : (dep new u + dep new v) % 2 ≡ 0 = omega arith in z
      go (inr i) (inl k) = let m = dep_r u i in let n = dep_l v k in let w = lr_even v u k i in let z : (dep new u + dep new v) % 2 ≡ 0 = omega arith in z
      go (inr i) (inr k) = let m = dep_r u i in let n = dep_r v k in let w = sr.even u v i k in let z : (dep new u + dep new v) % 2 ≡ 0 = omega arith in z

  new_deepest : (v : ℕ) × (holds new v ≡ true) × (dep new v ≡ time) × Fresh v new
  new_deepest = elim (cases_Bool (cluster_active l)) [
    | inl x ↦ by_l (sl.deepest x)
    | inr x ↦ elim (cases_Bool (cluster_active r)) [
      | inl y ↦ by_r (sr.deepest y)
      | inr y ↦ absurd (some-active x y)
    ]
  ]
    where
      by_l : (v : ℕ) × (holds l v ≡ true) × (dep l v ≡ time) × Fresh v l → (v : ℕ) × (holds new v ≡ true) × (dep new v ≡ time) × Fresh v new
      by_l (v, i, j, k) = (v, or_left (holds l v) _ i, (let x = dep_l v i in omega arith), ((λ x. refl), k, absent v r (not_r v i)))

      by_r : (v : ℕ) × (holds r v ≡ true) × (dep r v ≡ time) × Fresh v r → (v : ℕ) × (holds new v ≡ true) × (dep new v ≡ time) × Fresh v new
      by_r (v, i, j, k) = (v, or_right (holds l v) _ i, (let x = dep_r v i in omega arith), ((λ x. refl), absent v l (not_l v i), k))

  new_made : Deep (Made net) new
  new_made =
      let ml = maximal_all (Deep (Made net)) ts p l h.made pl in
      let mr = maximal_all (Deep (Made net)) ts q r h.made qr in
      let ol = deep_head (Made net) l ml in
      let or' = deep_head (Made net) r mr in
      let cl = cross_first (first_end net e) (second_end net e) l (not_l (second_end net e) rb) in
      let cr = cross_second (first_end net e) (second_end net e) r (not_r (first_end net e) la) in
      (((let x = ol.0 in let y = or'.0 in omega arith), (λ k. let z : ◌≡◌ {A = ℕ} 0 1 = cc in absurd (omega arith)), (es, la, rb, some-active, omega arith)), ml, mr)

  pub inv_merge : Inv net time (merge ts p q e)
  inv_merge = subst (Inv net time) (sym (merge_is ts p q e l r pl qr)) (record {
    shared = λ f. let x = join_sum ts p q l r new pl qr ne (over f) in let k = h.shared f in omega arith;
    loads = λ s b. let x = join_sum ts p q l r new pl qr ne (cross (first_end net s) (second_end net s)) in let y = zero_cond (splits new (first_end net s) (second_end net s)) in let k = h.loads s b in omega arith;
    made = join_all ts p q l r new pl qr ne (Deep (Made net)) h.made new_made;
    sits = join_all ts p q l r new pl qr ne (Sits time) h.sits (record { within = new_within; even = new_even; deepest = λ k. new_deepest });
    sized = let x = join_sum ts p q l r new pl qr ne (λ t. 1) in let y = join_length ts p q l r new pl qr ne in let k = h.sized in omega arith;
  })
