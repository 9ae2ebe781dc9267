-- The code's lists of branches and of numbers as those of the theory.
use Rattle.std.specs.Prelude.{ℕ, Bool, List, map, reverse, nat_lt, slice_index}
use Rattle.network.specs.Nets.{Net}
use Rattle.theory.specs.Nets.{edge_count}
use Rattle.theory.specs.Strong as theory
use Rattle.pruning.specs.declared.branch.Branch.{Branch}

abbrev pub branch_of : Branch → theory.Branch
branch_of b = record { child = b.child; parent = b.parent; edge = b.edge }

-- the branches of a list, the last one first
abbrev pub newest_first : List Branch → List theory.Branch
newest_first bs = map branch_of (reverse bs)

-- the number that a list has for each node, 0 beyond it
abbrev pub by_node : List ℕ → ℕ → ℕ
by_node xs v = slice_index xs v

-- the edge is one of the network's
abbrev pub entered : Net → ℕ → Bool
entered net s = nat_lt s (edge_count net)

-- the branches hang from a root over edges of the network
abbrev pub Rooted : Net → List theory.Branch → Type 0
Rooted net bs = (root : ℕ) × theory.Hang net (entered net) root bs
