use Rattle.std.proofs.Common.{◌≡◌, ◌-◌, length}
use Rattle.network.specs.Networks.{net_of}
use Rattle.theory.specs.Prune.{marked}
use Rattle.pruning.specs.Branches.{newest_first}
use Rattle.pruning.proofs.Hung.{Hanging}
use Rattle.pruning.proofs.hanging.hang.Given as goal

-- the nodes placed are those hung so far, and going on from here hangs the whole tree
abbrev pub invariant-loop : goal.invariant-loop
invariant-loop l = (length l.branches.items ≡ l.counter) × Hanging (net_of l.network) (marked l.edges) l.root (l.end - l.counter) l.placed (newest_first l.branches.items)
