use Rattle.std.proofs.Common.{◌≡◌, take}
use Rattle.network.specs.Networks.{net_of}
use Rattle.theory.specs.Prune.{marked}
use Rattle.theory.specs.Strong.{kept}
use Rattle.pruning.specs.Branches.{newest_first, by_node}
use Rattle.pruning.proofs.keeping.keep.Given as goal

-- the marks are right for the branches so far
abbrev pub invariant-loop-next : goal.invariant-loop-next
invariant-loop-next l = marked l.above ≡ kept (net_of l.network) (by_node l.table) l.root l.best (newest_first (take l.next-index l.branches))
