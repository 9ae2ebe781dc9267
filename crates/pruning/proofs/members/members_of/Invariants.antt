use Rattle.std.proofs.Common.{◌≡◌, ℕ, ◌<◌, ◌||◌}
use Rattle.theory.specs.Prune.{marked}
use Rattle.pruning.specs.Pruned.{member, held_below}
use Rattle.pruning.proofs.members.members_of.Given as goal

-- the nodes of the cluster are marked, or held by a cluster inside that is still to be opened
abbrev pub invariant-loop-d : goal.invariant-loop-d
invariant-loop-d l = (v : ℕ) → v < 256 → (marked l.nodes v || held_below l.shapes l.d (marked l.inside) v) ≡ member l.shapes l.c v
