-- The strong plan in a tree: the nodes N and the edges E, as marks give them.
use Rattle.std.specs.Prelude.{ℕ, Bool, cond, List, [], Ok, Err, Result}
use Rattle.refusal.specs.declared.Refusal.{Refusal}
use Rattle.refusal.specs.declared.Refusal.TheVariants.{ListTooShort}
use Rattle.network.specs.Nets.{Net}
use Rattle.pruning.specs.Answers.{answer_of}
use Rattle.pruning.specs.Written.{edges_among, too_short}
use Rattle.pruning.specs.declared.answer.Answer.{Answer}
use Rattle.theory.specs.Nets.{node_count, prize}
use Rattle.theory.specs.Prune.{Plan, plan_of}
use Rattle.theory.specs.Strong.{Branch, lowest_below, or_zero, hang_from, worths, greatest, kept}

-- the lowest-numbered node of the tree
abbrev pub root_in : Net → (ℕ → Bool) → ℕ
root_in net N = or_zero (lowest_below (node_count net) N)

-- the tree as branches
abbrev pub branches_in : Net → (ℕ → Bool) → (ℕ → Bool) → List Branch
branches_in net N E = hang_from (node_count net) net E (root_in net N) []

-- the net worth of a node
abbrev pub worths_in : Net → (ℕ → Bool) → (ℕ → Bool) → ℕ → ℕ
worths_in net N E = worths net (branches_in net N E) (prize net)

-- the node of greatest net worth, the lowest-numbered among equals
abbrev pub best_in : Net → (ℕ → Bool) → (ℕ → Bool) → ℕ
best_in net N E = greatest (node_count net) N (worths_in net N E) (root_in net N)

-- the nodes that are kept below the best node
abbrev pub nodes_in : Net → (ℕ → Bool) → (ℕ → Bool) → ℕ → Bool
nodes_in net N E = kept net (worths_in net N E) (root_in net N) (best_in net N E) (branches_in net N E)

abbrev pub strong_plan_in : Net → (ℕ → Bool) → (ℕ → Bool) → Plan
strong_plan_in net N E = plan_of net (nodes_in net N E) (edges_among net E (nodes_in net N E))

abbrev pub strong_answer : Net → (ℕ → Bool) → (ℕ → Bool) → List ℕ → List ℕ → Result Answer Refusal
strong_answer net N E nodes edges = cond (too_short net nodes edges) (Err ListTooShort) (Ok (answer_of (strong_plan_in net N E)))
