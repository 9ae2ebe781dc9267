use Rattle.std.proofs.Common.{◌≡◌, ◌+◌}
use Rattle.theory.specs.Growth.{grow}
use Rattle.growth.specs.Grown.{network_of, steps_of, state_of}
use Rattle.growth.proofs.engine.Growth.grow.Given as goal

abbrev pub invariant-loop : goal.invariant-loop
invariant-loop g l =
    (network_of l.self ≡ network_of l.initial.self)
    × (state_of l.self ≡ grow (network_of l.initial.self) (steps_of l.initial.self + l.counter))
