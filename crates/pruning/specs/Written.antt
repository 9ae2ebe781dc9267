-- What is written to the lists of a caller: the plan of some nodes with the edges among them.
use Rattle.std.specs.Prelude.{ℕ, Bool, cond, ◌&&◌, ◌||◌, List, ◌++◌, length, drop, nat_lt}
use Rattle.network.specs.Nets.{Net}
use Rattle.theory.specs.Nets.{node_count, edge_count, first_end, second_end}
use Rattle.theory.specs.Prune.{Plan, plan_of}

-- the edges of E with both ends among K
abbrev pub edges_among : Net → (ℕ → Bool) → (ℕ → Bool) → ℕ → Bool
edges_among net E K s = E s && (K (first_end net s) && K (second_end net s))

-- the plan of the nodes K and the edges of E among them
abbrev pub plan_among : Net → (ℕ → Bool) → (ℕ → Bool) → Plan
plan_among net E K = plan_of net K (edges_among net E K)

-- a list is shorter than the nodes or the edges that it must hold
abbrev pub too_short : Net → List ℕ → List ℕ → Bool
too_short net nodes edges = nat_lt (length nodes) (node_count net) || nat_lt (length edges) (edge_count net)

-- the marks at the front of the list, and what was behind them; all as it was where a list is short
abbrev pub unless_short : Bool → List ℕ → ℕ → List ℕ → List ℕ
unless_short short marks n out = cond short out (marks ++ drop n out)
