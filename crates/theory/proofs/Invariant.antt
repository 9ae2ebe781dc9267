-- What growth keeps: limits, depths, parities, and a node of each active maximal cluster whose depth is the time.
use Rattle.std.proofs.Common.{◌≡◌, ℕ, zero, suc, ◌+◌, ◌*◌, ◌%◌, ◌<◌, ◌≤◌, true, false, cond, ◌||◌, eqb, List, [], ◌∷◌, map, length, get_or, sym, refl, ap, ◌∙◌, subst, inl, inr, arith}
use Rattle.std.specs.List.{AllByRecursion, range_with_len}
use Rattle.std.proofs.lemmas.Bool.{eq-eqb, or_parts, cases_Bool, both_ways, cond-true, cond-false}
use Rattle.std.proofs.lemmas.List.{length-set, length-map}
use Rattle.std.proofs.lemmas.List.FromFn.{length-range_with_len}
use Rattle.std.proofs.ByRecursion.{All-set}
use Rattle.network.specs.Nets.{Net}
use Rattle.theory.specs.Sums.{sum_of, sum_to, one}
use Rattle.theory.specs.Nets.{node_count, edge_count, first_end, second_end, doubled_prize, doubled_cost}
use Rattle.theory.specs.Clusters.{Cluster, Slot, is_active, moat, cluster_active, holds, over, inner, splits, Deep, OnMaximal, over_maximal, Every, load, Shared}
use Rattle.theory.specs.Clusters.Cluster.{node, merged}
use Rattle.theory.specs.Clusters.Slot.{maximal, inside}
use Rattle.theory.specs.Growth.{fresh, lone, start, widen, pass, inactivate, deactivate}
use Rattle.theory.specs.Laws.{EdgeLoads}
use Rattle.theory.proofs.Bools.{zero_cond, cond_most, flip}
use Rattle.theory.proofs.Sums.{sum_to_same}
use Rattle.theory.proofs.Families.{all_same}
use Rattle.theory.proofs.Slots.{maximal_all, set_sum, deactivate_is, widen_holds, widen_active, widen_over, widen_inner, pass_all, pass_over, pass_by, pass_length}
use Rattle.theory.proofs.Sharing.{dep, cross}

-- how a cluster was made: by an edge from the first part to the second, not both inactive, that the moats of the parts pay for
abbrev pub Bridge : Net → Cluster → Type 0
Bridge net (node o v) = Unit {0}
Bridge net (merged o c e l r) =
    (e < edge_count net) × (holds l (first_end net e) ≡ true) × (holds r (second_end net e) ≡ true) × (cluster_active l ≡ false → cluster_active r ≡ false → ⊥)
    × (doubled_cost net e ≤ cross (first_end net e) (second_end net e) l + cross (first_end net e) (second_end net e) r)

-- its inner moats are within its prizes, and are all of them once it is inactive
abbrev pub Made : Net → Cluster → Type 0
Made net u = (inner u ≤ over (doubled_prize net) u) × (cluster_active u ≡ false → over (doubled_prize net) u ≤ inner u) × Bridge net u

-- v is in no inactive cluster of this one
abbrev pub Fresh : ℕ → Cluster → Type 0
Fresh v t = Deep (λ u. holds u v ≡ true → cluster_active u ≡ true) t

-- how a maximal cluster sits in time: no depth passes it, all depths are even or all odd, and while active some fresh node's depth is the time
pub record Sits (time : ℕ) (t : Cluster) : Type 0 where
  pub within : (v : ℕ) → holds t v ≡ true → dep t v ≤ time
  pub even : (u v : ℕ) → holds t u ≡ true → holds t v ≡ true → (dep t u + dep t v) % 2 ≡ 0
  pub deepest : cluster_active t ≡ true → (v : ℕ) × (holds t v ≡ true) × (dep t v ≡ time) × Fresh v t

pub record Inv (net : Net) (time : ℕ) (ts : List Slot) : Type 0 where
  pub shared : Shared (node_count net) ts
  pub loads : EdgeLoads net ts
  pub made : Every (Made net) ts
  pub sits : AllByRecursion (OnMaximal (Sits time)) ts
  pub sized : length ts + over_maximal (λ t. 1) ts ≡ 2 * node_count net

-- the start
counted : (f : ℕ → ℕ) (a n : ℕ) → sum_of f (range_with_len a n) ≡ sum_to n (λ v. f (a + v))
counted f a zero = refl
counted f a (suc n) =
    let ih = counted f (a + 1) n in
    let x = front n (λ v. f (a + v)) in
    let y = sum_to_same n (λ v. f (a + 1 + v)) (λ v. f (a + suc v)) (λ v l. ap f (omega arith)) in
    let z : f (a + 0) ≡ f a = ap f (omega arith) in
    omega arith
  where
    front : (k : ℕ) (g : ℕ → ℕ) → sum_to (suc k) g ≡ g 0 + sum_to k (λ v. g (suc v))
    front zero g = omega arith
    front (suc k) g = let ih = front k g in omega arith

pub all_lone : (P : Cluster → Type 0) → ((v : ℕ) → P (node fresh v)) → (vs : List ℕ) → AllByRecursion (OnMaximal P) (map lone vs)
all_lone P f [] = tt
all_lone P f (v ∷ vs) = (f v, all_lone P f vs)

pub lone_over : (f : Cluster → ℕ) (vs : List ℕ) → over_maximal f (map lone vs) ≡ sum_of (λ v. f (node fresh v)) vs
lone_over f [] = refl
lone_over f (v ∷ vs) = let ih = lone_over f vs in omega arith

pub sum_of_none : (f : ℕ → ℕ) → ((v : ℕ) → f v ≡ 0) → (vs : List ℕ) → sum_of f vs ≡ 0
sum_of_none f h [] = refl
sum_of_none f h (v ∷ vs) = let ih = sum_of_none f h vs in let e = h v in omega arith

pub sum_of_const : (c : ℕ) (vs : List ℕ) → sum_of (λ v. c) vs ≡ c * length vs
sum_of_const c [] = omega arith
sum_of_const c (v ∷ vs) = let ih = sum_of_const c vs in omega arith

pub inv_start : (net : Net) → Inv net 0 (start net).slots
inv_start net = record {
  shared = λ f. lone_over (over f) vs ∙ counted f 0 n ∙ sum_to_same n (λ v. f (0 + v)) f (λ v l. ap f (omega arith));
  loads = λ s l. let a = lone_over (cross (first_end net s) (second_end net s)) vs in
      let b = sum_of_none (λ v. cross (first_end net s) (second_end net s) (node fresh v)) (λ v. zero_cond (splits (node fresh v) (first_end net s) (second_end net s))) vs in omega arith;
  made = all_lone (Deep (Made net)) (λ v. (omega arith, (λ e. let z : ◌≡◌ {A = ℕ} 0 1 = cc in absurd (omega arith)), tt)) vs;
  sits = all_lone (Sits 0) (λ v. record {
    within = λ u h. let a = zero_cond (eqb v u) in omega arith;
    even = λ u w h k. let a = zero_cond (eqb v u) in let b = zero_cond (eqb v w) in let z : (dep (node fresh v) u + dep (node fresh v) w) % 2 ≡ 0 = omega arith in z;
    deepest = λ h. (v, eq-eqb v v refl, zero_cond (eqb v v), λ k. refl);
  }) vs;
  sized = let a = lone_over (λ t. 1) vs in let b = length-map vs lone in let c = length-range_with_len 0 n in let d = sum_of_const 1 vs in omega arith;
}
  where
    n : ℕ
    n = node_count net

    vs : List ℕ
    vs = range_with_len 0 n

-- time passes
pub widen_dep : (d : ℕ) (t : Cluster) (v : ℕ) → holds t v ≡ true → dep (widen d t) v ≡ dep t v + cond (cluster_active t) d 0
widen_dep d (node o u) v h =
    let a = cond-true (eqb u v) (o.moat + cond (is_active o.phase) d 0) 0 h in
    let b = cond-true (eqb u v) o.moat 0 h in
    omega arith
widen_dep d (merged o c e l r) v h =
    let a = cond-true (holds l v || holds r v) (o.moat + cond (is_active o.phase) d 0) 0 h in
    let b = cond-true (holds l v || holds r v) o.moat 0 h in
    omega arith

widen_fresh : (d v : ℕ) (t : Cluster) → Fresh v t → Fresh v (widen d t)
widen_fresh d v (node o u) h = h
widen_fresh d v (merged o c e l r) h = h

-- how much more an edge carries after d
abbrev pub load_rate : Net → List Slot → ℕ → ℕ
load_rate net ts s = over_maximal (λ t. cond (cluster_active t) (one (splits t (first_end net s) (second_end net s))) 0) ts

widen_splits : (d a b : ℕ) (t : Cluster) → splits (widen d t) a b ≡ splits t a b
widen_splits d a b (node o u) = refl
widen_splits d a b (merged o c e l r) = refl

pub pass_load : (net : Net) (d : ℕ) (ts : List Slot) (s : ℕ) → load net (pass d ts) s ≡ load net ts s + d * load_rate net ts s
pass_load net d ts s =
    let a = first_end net s in
    let b = second_end net s in
    let K : Cluster → ℕ = λ u. one (splits u a b) in
    let x = all_same (λ u. cond (splits u a b) (moat u) 0) (λ u. moat u * K u) (λ u. flip (splits u a b) (moat u)) in
    let y = pass_all d K (λ t. ap one (widen_splits d a b t)) ts in
    let x₁ = x ts in
    let x₂ = x (pass d ts) in
    omega arith

widen_made : (net : Net) (d : ℕ) (t : Cluster) → (cluster_active t ≡ true → inner t + d ≤ over (doubled_prize net) t) → Deep (Made net) t → Deep (Made net) (widen d t)
widen_made net d t ok h = by t ok h (owned t ok (head t h)) (paid t (head t h))
  where
    P : ℕ → ℕ
    P = doubled_prize net

    head : (u : Cluster) → Deep (Made net) u → Made net u
    head (node o v) k = k
    head (merged o c e l r) k = k.0

    owned : (u : Cluster) → (cluster_active u ≡ true → inner u + d ≤ over P u) → Made net u → inner (widen d u) ≤ over P (widen d u)
    owned u f m =
        let a = widen_inner d u in
        let b = widen_over d P u in
        elim (cases_Bool (cluster_active u)) [
          | inl e ↦ let k = f e in let z = cond-true (cluster_active u) d 0 e in omega arith
          | inr e ↦ let z = cond-false (cluster_active u) d 0 e in let k = m.0 in omega arith
        ]

    paid : (u : Cluster) → Made net u → cluster_active (widen d u) ≡ false → over P (widen d u) ≤ inner (widen d u)
    paid u m e = let a = widen_inner d u in let b = widen_over d P u in let k = m.1 (sym (widen_active d u) ∙ e) in omega arith

    by : (u : Cluster) → (cluster_active u ≡ true → inner u + d ≤ over P u) → Deep (Made net) u → inner (widen d u) ≤ over P (widen d u) → (cluster_active (widen d u) ≡ false → over P (widen d u) ≤ inner (widen d u)) →
        Deep (Made net) (widen d u)
    by (node o v) f k x y = (x, y, tt)
    by (merged o c e l r) f k x y = ((x, y, k.0.2), k.1, k.2)

widen_sits : (time d : ℕ) (t : Cluster) → Sits time t → Sits (time + d) (widen d t)
widen_sits time d t h = record {
  within = λ v k. let a = widen_dep d t v (same v k) in let b = h.within v (same v k) in let c = cond_most (cluster_active t) d in omega arith;
  even = λ u v k j. let a = widen_dep d t u (same u k) in let b = widen_dep d t v (same v j) in let c = h.even u v (same u k) (same v j) in
      let z : (dep (widen d t) u + dep (widen d t) v) % 2 ≡ 0 = omega arith in z;
  deepest = λ k. fresh' (sym (widen_active d t) ∙ k) (h.deepest (sym (widen_active d t) ∙ k));
}
  where
    same : (v : ℕ) → holds (widen d t) v ≡ true → holds t v ≡ true
    same v k = sym (widen_holds d t v) ∙ k

    fresh' : cluster_active t ≡ true → (v : ℕ) × (holds t v ≡ true) × (dep t v ≡ time) × Fresh v t → (v : ℕ) × (holds (widen d t) v ≡ true) × (dep (widen d t) v ≡ time + d) × Fresh v (widen d t)
    fresh' e (v, a, b, c) = (v, widen_holds d t v ∙ a, (let x = widen_dep d t v a in let y = cond-true (cluster_active t) d 0 e in omega arith), widen_fresh d v t c)

-- d may pass: no edge and no active cluster goes beyond its limit
pub record May (net : Net) (d : ℕ) (ts : List Slot) : Type 0 where
  pub edges : (s : ℕ) → s < edge_count net → load net ts s + d * load_rate net ts s ≤ doubled_cost net s
  pub clusters : (c : ℕ) (t : Cluster) → get_or ts c inside ≡ maximal t → cluster_active t ≡ true → inner t + d ≤ over (doubled_prize net) t

pub inv_pass : (net : Net) (time d : ℕ) (ts : List Slot) → Inv net time ts → May net d ts → Inv net (time + d) (pass d ts)
inv_pass net time d ts h m = record {
  shared = λ f. pass_over d (over f) (widen_over d f) ts ∙ h.shared f;
  loads = λ s l. let a = pass_load net d ts s in let b = m.edges s l in omega arith;
  made = pass_by d (Deep (Made net)) ts (λ c t e. widen_made net d t (m.clusters c t e) (maximal_all (Deep (Made net)) ts c t h.made e));
  sits = pass_by d (Sits (time + d)) ts (λ c t e. widen_sits time d t (maximal_all (Sits time) ts c t h.sits e));
  sized = let a = pass_length d ts in let b = pass_over d (λ t. 1) (λ t. refl) ts in let k = h.sized in omega arith;
}

-- a maximal cluster becomes inactive
inactivate_over : (f : ℕ → ℕ) (t : Cluster) → over f (inactivate t) ≡ over f t
inactivate_over f (node o v) = refl
inactivate_over f (merged o c e l r) = refl

inactivate_cross : (a b : ℕ) (t : Cluster) → cross a b (inactivate t) ≡ cross a b t
inactivate_cross a b (node o v) = refl
inactivate_cross a b (merged o c e l r) = refl

inactivate_dep : (t : Cluster) (v : ℕ) → dep (inactivate t) v ≡ dep t v
inactivate_dep (node o u) v = refl
inactivate_dep (merged o c e l r) v = refl

pub inactivate_active : (t : Cluster) → cluster_active (inactivate t) ≡ false
inactivate_active (node o u) = refl
inactivate_active (merged o c e l r) = refl

pub inactivate_holds : (t : Cluster) (v : ℕ) → holds (inactivate t) v ≡ holds t v
inactivate_holds (node o u) v = refl
inactivate_holds (merged o c e l r) v = refl

inactivate_made : (net : Net) (t : Cluster) → over (doubled_prize net) t ≤ inner t → Deep (Made net) t → Deep (Made net) (inactivate t)
inactivate_made net (node o v) p h = (h.0, (λ e. p), tt)
inactivate_made net (merged o c e l r) p h = ((h.0.0, (λ k. p), h.0.2), h.1, h.2)

inactivate_sits : (time : ℕ) (t : Cluster) → Sits time t → Sits time (inactivate t)
inactivate_sits time t h = record {
  within = λ v k. let a = inactivate_dep t v in let b = h.within v (sym (inactivate_holds t v) ∙ k) in omega arith;
  even = λ u v k j. let a = inactivate_dep t u in let b = inactivate_dep t v in let c = h.even u v (sym (inactivate_holds t u) ∙ k) (sym (inactivate_holds t v) ∙ j) in
      let z : (dep (inactivate t) u + dep (inactivate t) v) % 2 ≡ 0 = omega arith in z;
  deepest = λ k. absurd (both_ways (cluster_active (inactivate t)) (inactivate_active t) k);
}

pub inv_deactivate : (net : Net) (time : ℕ) (ts : List Slot) (c : ℕ) (t : Cluster) → Inv net time ts → get_or ts c inside ≡ maximal t → over (doubled_prize net) t ≤ inner t → Inv net time (deactivate ts c)
inv_deactivate net time ts c t h e p = subst (Inv net time) (sym (deactivate_is ts c t e)) (record {
  shared = λ f. let a = set_sum (over f) ts c t (inactivate t) e in let b = inactivate_over f t in let k = h.shared f in omega arith;
  loads = λ s l. let a = set_sum (cross (first_end net s) (second_end net s)) ts c t (inactivate t) e in let b = inactivate_cross (first_end net s) (second_end net s) t in let k = h.loads s l in omega arith;
  made = All-set (OnMaximal (Deep (Made net))) ts c (maximal (inactivate t)) (inactivate_made net t p (maximal_all (Deep (Made net)) ts c t h.made e)) h.made;
  sits = All-set (OnMaximal (Sits time)) ts c (maximal (inactivate t)) (inactivate_sits time t (maximal_all (Sits time) ts c t h.sits e)) h.sits;
  sized = let a = set_sum (λ t. 1) ts c t (inactivate t) e in let b = length-set ts c (maximal (inactivate t)) in let k = h.sized in omega arith;
})

-- a node that a cluster does not hold is in none of its parts
pub absent : (v : ℕ) (t : Cluster) → holds t v ≡ false → Fresh v t
absent v (node o u) k = λ x. absurd (both_ways (eqb u v) k x)
absent v (merged o c i x y) k = ((λ z. absurd (both_ways (holds x v || holds y v) k z)), absent v x (or_parts (holds x v) (holds y v) k).0, absent v y (or_parts (holds x v) (holds y v) k).1)
