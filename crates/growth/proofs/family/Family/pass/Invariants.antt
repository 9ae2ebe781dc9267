use Rattle.std.proofs.Common.{◌≡◌, ◌++◌, map, take, drop}
use Rattle.growth.specs.Records.{widened}
use Rattle.growth.proofs.family.Family.pass.Given as goal

abbrev pub invariant-loop-cluster : goal.invariant-loop-cluster
invariant-loop-cluster l = l.cluster-items ≡ map (widened l.by) (take l.cluster-index l.initial.cluster-items) ++ drop l.cluster-index l.initial.cluster-items
