-- Writing marks one by one, and what a plan asks for. Assumes nothing.
use Rattle.std.proofs.Common.{◌≡◌, ℕ, ◌+◌, ◌<◌, Bool, cond, ◌&&◌, eqb, List, [], ◌∷◌, ◌++◌, length, get_or, drop, set, sym, ap, ◌∙◌, append_assoc, arith}
use Rattle.std.proofs.lemmas.List.{drop_more, set_at, get_or_append_left}
use Rattle.std.proofs.lemmas.List.FromFn.{length-map-range_with_len, get_or-map-range_with_len, map-range_with_len_more, fill_by_all}
use Rattle.network.specs.Nets.{Net}
use Rattle.theory.specs.Sums.{one}
use Rattle.theory.specs.Nets.{node_count, edge_count, prize, first_end, second_end, cost}
use Rattle.theory.specs.Prune.{coverage, marks, marked, plan_of}
use Rattle.theory.proofs.Sums.{sum_to_same}
use Rattle.theory.proofs.Marks.{marked_below}
use Rattle.theory.proofs.Valid.{Fine}
use Rattle.pruning.specs.Answers.{answer_of}
use Rattle.pruning.specs.Written.{edges_among}

pub marks_more : (p : ℕ → Bool) (i : ℕ) (was out : List ℕ) → i < length was → out ≡ marks i p ++ drop i was → set out i (one (p i)) ≡ marks (i + 1) p ++ drop (i + 1) was
marks_more p i was out l e =
    ap (λ o. set o i (one (p i))) (e ∙ ap (λ r. marks i p ++ r) (drop_more was i 0 l))
    ∙ set_at (marks i p) (get_or was i 0) (drop (i + 1) was) (one (p i)) i (length-map-range_with_len (λ v. one (p v)) 0 i)
    ∙ sym (append_assoc (marks i p) (one (p i) ∷ []) (drop (i + 1) was))
    ∙ ap (λ ms. ms ++ drop (i + 1) was) (sym (map-range_with_len_more (λ v. one (p v)) 0 i i (omega arith)))

-- the marks at the front of a list
pub marked_front : (n : ℕ) (p : ℕ → Bool) (rest : List ℕ) (v : ℕ) → v < n → marked (marks n p ++ rest) v ≡ p v
marked_front n p rest v l =
    ap (λ x. eqb x 1) (get_or_append_left (marks n p) rest 0 v (let k = length-map-range_with_len (λ v. one (p v)) 0 n in omega arith)) ∙ marked_below n p v l

-- the same marks
marks_same : (n : ℕ) (N M : ℕ → Bool) → ((v : ℕ) → v < n → N v ≡ M v) → marks n N ≡ marks n M
marks_same n N M h = fill_by_all (λ v. one (M v)) (marks n N) n 0 (length-map-range_with_len (λ v. one (N v)) 0 n) (λ v l. get_or-map-range_with_len (λ v. one (N v)) 0 n v v 0 l (omega arith) ∙ ap one (h v l))

-- a plan asks for the network's nodes and edges only
pub plan_same : (net : Net) (N M E F : ℕ → Bool) → ((v : ℕ) → v < node_count net → N v ≡ M v) → ((s : ℕ) → s < edge_count net → E s ≡ F s) → plan_of net N E ≡ plan_of net M F
plan_same net N M E F n e =
    let costs = sum_to_same (edge_count net) (λ s. cond (E s) (cost net s) 0) (λ s. cond (F s) (cost net s) 0) (λ s l. ap (λ b. cond b (cost net s) 0) (e s l)) in
    let lost = sum_to_same (node_count net) (λ v. cond (N v) 0 (prize net v)) (λ v. cond (M v) 0 (prize net v)) (λ v l. ap (λ b. cond b 0 (prize net v)) (n v l)) in
    let left = sum_to_same (node_count net) (λ v. one (N v)) (λ v. one (M v)) (λ v l. ap one (n v l)) in
    let nodes = marks_same (node_count net) N M n in
    let edges = marks_same (edge_count net) E F e in
    λ k. record { node_marks = nodes k; edge_marks = edges k; plan_cost = costs k; plan_lost = lost k; status = coverage (lost k) (left k) }

-- and so do a plan's answers
pub answer_same : (net : Net) (N M E F : ℕ → Bool) → ((v : ℕ) → v < node_count net → N v ≡ M v) → ((s : ℕ) → s < edge_count net → E s ≡ F s) → answer_of (plan_of net N E) ≡ answer_of (plan_of net M F)
answer_same net N M E F n e = ap answer_of (plan_same net N M E F n e)

-- the edges among some nodes ask for the network's nodes only
pub among_same : (net : Net) → Fine net → (E N M : ℕ → Bool) → ((v : ℕ) → v < node_count net → N v ≡ M v) → (s : ℕ) → s < edge_count net → edges_among net E N s ≡ edges_among net E M s
among_same net f E N M h s l = λ k. E s && (h (first_end net s) (f.firsts s l) k && h (second_end net s) (f.seconds s l) k)
