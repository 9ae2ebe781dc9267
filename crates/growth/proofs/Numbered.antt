-- The events under the queue's numbers, told apart.
use Rattle.std.proofs.Common.{◌≡◌, ℕ, ◌-◌, ◌<◌, ◌≤◌, arith}
use Rattle.std.proofs.lemmas.Bool.Decides.{nat_tests}
use Rattle.growth.specs.Numbers.{event_of}
use Rattle.growth.specs.declared.event.Event.TheVariants.{Deactivated, Merged}

pub of_cluster : (number c : ℕ) → Deactivated c ≡ event_of number → (number < 511) × (c ≡ number)
of_cluster number c is = (grind (arith, nat_tests), grind (arith, nat_tests))

pub of_edge : (number s : ℕ) → Merged s ≡ event_of number → (511 ≤ number) × (s ≡ number - 511)
of_edge number s is = (grind (arith, nat_tests), grind (arith, nat_tests))
