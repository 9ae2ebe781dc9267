-- A cluster inside another, by its parts; the nodes of N that a cluster holds; the edges that made it. Assumes nothing.
use Rattle.std.proofs.Common.{◌≡◌, ℕ, zero, suc, ◌<◌, ◌≤◌, Bool, true, false, cond, ◌||◌, eqb, ◌⊎◌, List, [], ◌∷◌, get_or, refl, ap, ◌∙◌, subst, inl, inr, arith}
use Rattle.std.proofs.lemmas.Bool.{eqb-true, eq-eqb, or_left, or_right, or_cases, or_parts, cases_Bool, both_ways, cond-false}
use Rattle.network.specs.Nets.{Net}
use Rattle.theory.specs.Nets.{edge_count, first_end, second_end, doubled_cost}
use Rattle.theory.specs.Clusters.{Standing, Cluster, Slot, moat, holds, over, under, inner, Deep, any_maximal}
use Rattle.theory.specs.Clusters.Cluster.{node, merged}
use Rattle.theory.specs.Clusters.Slot.{maximal, inside}
use Rattle.theory.specs.Prune.{uses}
use Rattle.theory.proofs.Families.{deep_head}
use Rattle.theory.proofs.Lower.{left_out}
use Rattle.theory.proofs.Sharing.{cross}
use Rattle.theory.proofs.Invariant.{Bridge}

pub data Inside (u : Cluster) : Cluster → Type 0 where
  here : Inside u u
  in_left : {o : Standing} {c e : ℕ} {l r : Cluster} → Inside u l → Inside u (merged o c e l r)
  in_right : {o : Standing} {c e : ℕ} {l r : Cluster} → Inside u r → Inside u (merged o c e l r)

pub deep_inside : (P : Cluster → Type 0) {u t : Cluster} → Inside u t → Deep P t → P u
deep_inside P {u} here h = deep_head P u h
deep_inside P (in_left i) h = deep_inside P i h.1
deep_inside P (in_right i) h = deep_inside P i h.2

pub inside_sub : {u t : Cluster} → Inside u t → (v : ℕ) → holds u v ≡ true → holds t v ≡ true
inside_sub here v h = h
inside_sub (in_left {l = l} i) v h = or_left (holds l v) _ (inside_sub i v h)
inside_sub (in_right {l = l} i) v h = or_right (holds l v) _ (inside_sub i v h)

-- the cluster has a node of N
abbrev pub touches : (ℕ → Bool) → Cluster → Bool
touches N (node o v) = N v
touches N (merged o c e l r) = touches N l || touches N r

pub touched : (N : ℕ → Bool) (t : Cluster) (v : ℕ) → holds t v ≡ true → N v ≡ true → touches N t ≡ true
touched N (node o u) v h n = ap N (eqb-true u v h) ∙ n
touched N (merged o c e l r) v h n = elim (or_cases (holds l v) (holds r v) h) [
  | inl k ↦ or_left (touches N l) (touches N r) (touched N l v k n)
  | inr k ↦ or_right (touches N l) (touches N r) (touched N r v k n)
]

pub witness : (N : ℕ → Bool) (t : Cluster) → touches N t ≡ true → (v : ℕ) × (holds t v ≡ true) × (N v ≡ true)
witness N (node o u) h = (u, eq-eqb u u refl, h)
witness N (merged o c e l r) h = go (or_cases (touches N l) (touches N r) h) (witness N l) (witness N r)
  where
    go : (touches N l ≡ true) ⊎ (touches N r ≡ true) → (touches N l ≡ true → (v : ℕ) × (holds l v ≡ true) × (N v ≡ true)) →
        (touches N r ≡ true → (v : ℕ) × (holds r v ≡ true) × (N v ≡ true)) → (v : ℕ) × ((holds l v || holds r v) ≡ true) × (N v ≡ true)
    go (inl k) f g = let w = f k in (w.0, or_left (holds l w.0) (holds r w.0) w.1, w.2)
    go (inr k) f g = let w = g k in (w.0, or_right (holds l w.0) (holds r w.0) w.1, w.2)

pub untouched : (N : ℕ → Bool) (t : Cluster) → ((v : ℕ) → holds t v ≡ true → N v ≡ false) → touches N t ≡ false
untouched N t h = elim (cases_Bool (touches N t)) [
  | inr k ↦ k
  | inl k ↦ let w = witness N t k in absurd (both_ways (N w.0) (h w.0 w.1) w.2)
]

-- the moats of clusters that N does not touch
abbrev pub idle : (ℕ → Bool) → Cluster → ℕ
idle N u = cond (touches N u) 0 (moat u)

pub untouched_lost : (N : ℕ → Bool) (P : ℕ → ℕ) (t : Cluster) → touches N t ≡ false → over (left_out N P) t ≡ over P t
untouched_lost N P (node o v) h = cond-false (N v) 0 (P v) h
untouched_lost N P (merged o c e l r) h =
    let p = or_parts (touches N l) (touches N r) h in
    let a = untouched_lost N P l p.0 in
    let b = untouched_lost N P r p.1 in
    omega arith

pub untouched_idle : (N : ℕ → Bool) (t : Cluster) → touches N t ≡ false → under (idle N) t ≡ inner t
untouched_idle N (node o v) h = cond-false (N v) 0 o.moat h
untouched_idle N (merged o c e l r) h =
    let p = or_parts (touches N l) (touches N r) h in
    let a = untouched_idle N l p.0 in
    let b = untouched_idle N r p.1 in
    let k = cond-false (touches N l || touches N r) 0 o.moat h in
    omega arith

-- an edge that made a cluster has both ends in it, and is paid for by the moats inside it
pub used_ends : (net : Net) (s : ℕ) (t : Cluster) → Deep (Bridge net) t → uses t s ≡ true → (s < edge_count net) × (holds t (first_end net s) ≡ true) × (holds t (second_end net s) ≡ true)
used_ends net s (node o v) b h = let z : ◌≡◌ {A = ℕ} 0 1 = cc in absurd (omega arith)
used_ends net s (merged o c e l r) b h = elim (or_cases (eqb e s) (uses l s || uses r s) h) [
  | inl k ↦ subst (λ x. (x < edge_count net) × (holds (merged o c e l r) (first_end net x) ≡ true) × (holds (merged o c e l r) (second_end net x) ≡ true)) (eqb-true e s k)
      (b.0.0, or_left (holds l (first_end net e)) _ b.0.1, or_right (holds l (second_end net e)) _ b.0.2)
  | inr k ↦ elim (or_cases (uses l s) (uses r s) k) [
    | inl i ↦ let x = used_ends net s l b.1 i in (x.0, or_left (holds l (first_end net s)) _ x.1, or_left (holds l (second_end net s)) _ x.2)
    | inr i ↦ let x = used_ends net s r b.2 i in (x.0, or_right (holds l (first_end net s)) _ x.1, or_right (holds l (second_end net s)) _ x.2)
  ]
]

pub used_paid : (net : Net) (s : ℕ) (t : Cluster) → Deep (Bridge net) t → uses t s ≡ true → doubled_cost net s ≤ cross (first_end net s) (second_end net s) t
used_paid net s (node o v) b h = let z : ◌≡◌ {A = ℕ} 0 1 = cc in absurd (omega arith)
used_paid net s (merged o c e l r) b h = elim (or_cases (eqb e s) (uses l s || uses r s) h) [
  | inl k ↦ subst (λ x. doubled_cost net x ≤ cross (first_end net x) (second_end net x) (merged o c e l r)) (eqb-true e s k) (let z = b.0.4 in omega arith)
  | inr k ↦ elim (or_cases (uses l s) (uses r s) k) [
    | inl i ↦ let x = used_paid net s l b.1 i in omega arith
    | inr i ↦ let x = used_paid net s r b.2 i in omega arith
  ]
]

-- some maximal cluster passes a test
pub any_at : (p : Cluster → Bool) (ts : List Slot) (c : ℕ) (t : Cluster) → get_or ts c inside ≡ maximal t → p t ≡ true → any_maximal p ts ≡ true
any_at p [] c t e h = let z : ◌≡◌ {A = ℕ} 0 1 = cc in absurd (omega arith)
any_at p (maximal u ∷ ts) zero t e h = or_left (p u) _ (let k : u ≡ t = cc in ap p k ∙ h)
any_at p (inside ∷ ts) zero t e h = let z : ◌≡◌ {A = ℕ} 0 1 = cc in absurd (omega arith)
any_at p (maximal u ∷ ts) (suc c) t e h = or_right (p u) _ (any_at p ts c t e h)
any_at p (inside ∷ ts) (suc c) t e h = any_at p ts c t e h

pub any_found : (p : Cluster → Bool) (ts : List Slot) → any_maximal p ts ≡ true → (c : ℕ) × (t : Cluster) × (get_or ts c inside ≡ maximal t) × (p t ≡ true)
any_found p [] h = let z : ◌≡◌ {A = ℕ} 0 1 = cc in absurd (omega arith)
any_found p (inside ∷ ts) h = let i = any_found p ts h in (suc i.0, i.1, i.2, i.3)
any_found p (maximal u ∷ ts) h = go (or_cases (p u) (any_maximal p ts) h) (any_found p ts)
  where
    go : (p u ≡ true) ⊎ (any_maximal p ts ≡ true) → (any_maximal p ts ≡ true → (c : ℕ) × (t : Cluster) × (get_or ts c inside ≡ maximal t) × (p t ≡ true)) →
        (c : ℕ) × (t : Cluster) × (get_or (maximal u ∷ ts) c inside ≡ maximal t) × (p t ≡ true)
    go (inl k) f = (0, u, refl, k)
    go (inr k) f = let i = f k in (suc i.0, i.1, i.2, i.3)
