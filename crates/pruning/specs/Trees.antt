-- A tree as the code lends it: some nodes of a network, with the marked edges among them.
use Rattle.std.specs.Prelude.{ℕ, Bool}
use Rattle.network.specs.Nets.{Net}
use Rattle.network.specs.Networks.{net_of}
use Rattle.theory.specs.Prune.{marked, Plan}
use Rattle.pruning.specs.Written.{edges_among, plan_among}
use Rattle.pruning.specs.declared.tree.Tree.{Tree}

abbrev pub net_under : Tree → Net
net_under t = net_of t.network.now

-- the edges of the tree
abbrev pub edges_in : Tree → ℕ → Bool
edges_in t = edges_among (net_under t) (marked t.edges.now) (marked t.nodes.now)

-- the tree as a plan
abbrev pub plan_under : Tree → Plan
plan_under t = plan_among (net_under t) (marked t.edges.now) (marked t.nodes.now)
