use Rattle.std.proofs.Common.{◌≡◌, ◌<◌, length}
use Rattle.theory.specs.Prune.{marked}
use Rattle.theory.specs.Strong.{greatest}
use Rattle.pruning.specs.Branches.{by_node}
use Rattle.pruning.proofs.keeping.best_node.Given as goal

abbrev pub invariant-loop-v : goal.invariant-loop-v
invariant-loop-v l = (l.best < length l.table) × (l.best ≡ greatest l.v (marked l.nodes) (by_node l.table) l.root)
