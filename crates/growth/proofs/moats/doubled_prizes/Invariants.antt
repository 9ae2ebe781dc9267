use Rattle.std.proofs.Common.{◌≡◌, ◌*◌, ◌≤◌}
use Rattle.growth.specs.Sums.{prizes_in}
use Rattle.growth.proofs.moats.doubled_prizes.Given as goal

abbrev pub invariant-loop-v : goal.invariant-loop-v
invariant-loop-v l = (l.sum ≡ prizes_in l.prizes l.nodes l.c l.v) × (l.sum ≤ 2000000000 * l.v)
