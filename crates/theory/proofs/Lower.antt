-- Every tree costs at least the lower bound of any family that respects both limits.
use Rattle.std.proofs.Common.{◌≡◌, ℕ, ◌+◌, ◌≤◌, Bool, true, cond, ◌&&◌, ◌⊎◌, List, [], ◌∷◌, refl, ap, inl, inr, arith}
use Rattle.std.proofs.lemmas.Bool.{eq-eqb, or_left, or_right, and_from, cases_Bool, cond-true, cond-false}
use Rattle.network.specs.Nets.{Net}
use Rattle.theory.specs.Sums.{sum_to}
use Rattle.theory.specs.Nets.{node_count, edge_count, prize, first_end, second_end, cost, doubled_prize, doubled_cost}
use Rattle.theory.specs.Clusters.{Cluster, Slot, moat, holds, over, under, inner, splits, Deep, over_all, load}
use Rattle.theory.specs.Clusters.Cluster.{node, merged}
use Rattle.theory.specs.Trees.{Tree}
use Rattle.theory.specs.Laws.{LowerBoundAny}
use Rattle.theory.proofs.Sums.{sum_to_at, sum_to_le, sum_to_double, sum_to_double_not}
use Rattle.theory.proofs.Families.{all_same, all_sum_to, maximal_le, maximal_plus}
use Rattle.theory.proofs.Walks.{crossing}

-- a prize that the nodes N leave
abbrev pub left_out : (ℕ → Bool) → (ℕ → ℕ) → ℕ → ℕ
left_out N P v = cond (N v) 0 (P v)

-- a node of N that the cluster holds
abbrev pub Meets : (ℕ → Bool) → Cluster → Type 0
Meets N t = (w : ℕ) × (holds t w ≡ true) × (N w ≡ true)

-- either a cluster has a node of N, or it loses all its prizes
pub meets : (N : ℕ → Bool) (P : ℕ → ℕ) (t : Cluster) → Meets N t ⊎ (over (left_out N P) t ≡ over P t)
meets N P (node o u) = elim (cases_Bool (N u)) [
  | inl e ↦ inl (u, eq-eqb u u refl, e)
  | inr e ↦ inr (cond-false (N u) 0 (P u) e)
]
meets N P (merged o c e l r) = go (meets N P l) (meets N P r)
  where
    go : Meets N l ⊎ (over (left_out N P) l ≡ over P l) → Meets N r ⊎ (over (left_out N P) r ≡ over P r) →
        Meets N (merged o c e l r) ⊎ (over (left_out N P) (merged o c e l r) ≡ over P (merged o c e l r))
    go (inl m) b = inl (m.0, or_left (holds l m.0) (holds r m.0) m.1, m.2)
    go (inr e) (inl m) = inl (m.0, or_right (holds l m.0) (holds r m.0) m.1, m.2)
    go (inr e) (inr k) = inr (omega arith)

module _ (net : Net) (N E : ℕ → Bool) (tree : Tree net N E) (v : ℕ) (nv : N v ≡ true) where
  abbrev P : ℕ → ℕ
  P = doubled_prize net

  -- the moat of a cluster that the edge s of E crosses
  abbrev at_edge : ℕ → Cluster → ℕ
  at_edge s u = cond (E s && splits u (first_end net s) (second_end net s)) (moat u) 0

  abbrev crossed : Cluster → ℕ
  crossed u = sum_to (edge_count net) (λ s. at_edge s u)

  abbrev around : Cluster → ℕ
  around u = cond (holds u v) (moat u) 0

  own : (u : Cluster) → Meets N u → moat u ≤ crossed u + around u
  own u (w, h, n) = elim (cases_Bool (holds u v)) [
    | inl e ↦ omega (arith, cond-true (holds u v) (moat u) 0 e)
    | inr e ↦ by (crossing net E (holds u) (tree.joined w v n nv) h e)
  ]
    where
      by : (s : ℕ) × (E s ≡ true) × (splits u (first_end net s) (second_end net s) ≡ true) → moat u ≤ crossed u + around u
      by (s, i, x) =
          let a = sum_to_at (edge_count net) (λ k. at_edge k u) s (tree.edges s i).0 in
          let b = cond-true (E s && splits u (first_end net s) (second_end net s)) (moat u) 0 (and_from (E s) _ i x) in
          omega arith

  core : (t : Cluster) → Deep (λ u. inner u ≤ over P u) t → inner t ≤ under crossed t + (over (left_out N P) t + under around t)
  core (node o u) h = elim (meets N P (node o u)) [
    | inl m ↦ let k = own (node o u) m in omega arith
    | inr e ↦ omega arith
  ]
  core (merged o c e l r) h =
      let a = core l h.1 in
      let b = core r h.2 in
      elim (meets N P (merged o c e l r)) [
        | inl m ↦ let k = own (merged o c e l r) m in omega arith
        | inr k ↦ omega (arith, h.0)
      ]

  -- what the moats crossed by one edge of E come to
  edge_le : (ts : List Slot) (s : ℕ) → load net ts s ≤ doubled_cost net s → over_all (at_edge s) ts ≤ cond (E s) (doubled_cost net s) 0
  edge_le ts s h = elim (cases_Bool (E s)) [
    | inl e ↦
        let a = all_same (at_edge s) (λ u. cond (splits u (first_end net s) (second_end net s)) (moat u) 0) (λ u. ap (λ b. cond (b && splits u (first_end net s) (second_end net s)) (moat u) 0) e) ts in
        let b = cond-true (E s) (doubled_cost net s) 0 e in
        omega arith
    | inr e ↦
        let a = all_same (at_edge s) (λ u. 0) (λ u. ap (λ b. cond (b && splits u (first_end net s) (second_end net s)) (moat u) 0) e) ts in
        let b = nothing ts in
        omega arith
  ]
    where
      none' : (t : Cluster) → under (λ u. 0) t ≡ 0
      none' (node o w) = refl
      none' (merged o c e l r) = let a = none' l in let b = none' r in omega arith

      nothing : (us : List Slot) → over_all (λ u. 0) us ≡ 0
      nothing [] = refl
      nothing (Slot.maximal t ∷ us) = let ih = nothing us in let a = none' t in omega arith
      nothing (Slot.inside ∷ us) = let ih = nothing us in omega arith

pub lower_any : LowerBoundAny
lower_any net ts shared loads owned N E tree v t nv dep =
    let m = edge_count net in
    let A : ℕ → Cluster → ℕ = at_edge net N E tree v nv in
    let X : Cluster → ℕ = crossed net N E tree v nv in
    let R : Cluster → ℕ = around net N E tree v nv in
    let L : ℕ → ℕ = left_out N (doubled_prize net) in
    let a = maximal_le (Deep (λ u. inner u ≤ over (doubled_prize net) u)) inner (λ u. under X u + (over L u + under R u)) (core net N E tree v nv) ts owned in
    let b = maximal_plus (under X) (λ u. over L u + under R u) ts in
    let c = maximal_plus (over L) (under R) ts in
    let d = shared L in
    let e = all_sum_to m A ts in
    let f = sum_to_le m (λ s. over_all (A s) ts) (λ s. cond (E s) (doubled_cost net s) 0) (λ s l. edge_le net N E tree v nv ts s (loads s l)) in
    let g = sum_to_double m E (cost net) in
    let h = sum_to_double_not (node_count net) N (prize net) in
    omega arith
