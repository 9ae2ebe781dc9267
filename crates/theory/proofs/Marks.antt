-- Marks: a list of 1 and 0 stands for a set, and a plan's answers are those of its marks.
use Rattle.std.proofs.Common.{◌≡◌, ℕ, ◌<◌, Bool, true, false, cond, eqb, sym, refl, ap, ◌∙◌, subst, inl, inr, arith}
use mathlib.Core.Path.{fun_ext}
use Rattle.std.proofs.lemmas.Bool.{cases_lt}
use Rattle.std.proofs.lemmas.List.{get_or_past}
use Rattle.std.proofs.lemmas.List.FromFn.{length-map-range_with_len, get_or-map-range_with_len}
use Rattle.network.specs.Nets.{Net}
use Rattle.theory.specs.Sums.{one}
use Rattle.theory.specs.Nets.{node_count, edge_count, prize, cost}
use Rattle.theory.specs.Trees.{Tree}
use Rattle.theory.specs.Prune.{marks, marked, plan_of}
use Rattle.theory.specs.Laws.{Answers, PlanTree}
use Rattle.theory.proofs.Bools.{only}
use Rattle.theory.proofs.Sums.{sum_to_same}

mark : (b : Bool) → eqb (one b) 1 ≡ b
mark true = refl
mark false = refl

pub marked_below : (n : ℕ) (p : ℕ → Bool) (v : ℕ) → v < n → marked (marks n p) v ≡ p v
marked_below n p v l = ap (λ x. eqb x 1) (get_or-map-range_with_len (λ v. one (p v)) 0 n v v 0 l (omega arith)) ∙ mark (p v)

-- the set comes back, if nothing of it lies beyond
pub marked_is : (n : ℕ) (p : ℕ → Bool) → ((v : ℕ) → p v ≡ true → v < n) → marked (marks n p) ≡ p
marked_is n p h = fun_ext (λ v. elim (cases_lt v n) [
  | inl l ↦ marked_below n p v l
  | inr l ↦ ap (λ x. eqb x 1) (get_or_past (marks n p) v 0 (let a = length-map-range_with_len (λ v. one (p v)) 0 n in omega arith)) ∙ sym (only (p v) (λ e. let b = h v e in omega arith))
])

pub answers : (net : Net) (N E : ℕ → Bool) → Answers net (plan_of net N E)
answers net N E = record {
  cost_is = sum_to_same (edge_count net) (λ s. cond (E s) (cost net s) 0) (λ s. cond (marked (marks (edge_count net) E) s) (cost net s) 0) (λ s l. ap (λ b. cond b (cost net s) 0) (sym (marked_below (edge_count net) E s l)));
  lost_is = sum_to_same (node_count net) (λ v. cond (N v) 0 (prize net v)) (λ v. cond (marked (marks (node_count net) N) v) 0 (prize net v)) (λ v l. ap (λ b. cond b 0 (prize net v)) (sym (marked_below (node_count net) N v l)));
  nodes_marked = length-map-range_with_len (λ v. one (N v)) 0 (node_count net);
  edges_marked = length-map-range_with_len (λ s. one (E s)) 0 (edge_count net);
}

pub plan_tree : (net : Net) (N E : ℕ → Bool) → Tree net N E → PlanTree net (plan_of net N E)
plan_tree net N E t = (
  subst (λ M. Tree net M (marked (marks (edge_count net) E))) (sym (marked_is (node_count net) N t.nodes))
      (subst (λ F. Tree net N F) (sym (marked_is (edge_count net) E (λ s h. (t.edges s h).0))) t),
  answers net N E,
)
