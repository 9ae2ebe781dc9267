-- The table of worked networks, by computing.
use Rattle.std.proofs.Common.{refl}
use Rattle.theory.specs.Worked.{WorkedNetworks}
use Rattle.theory.specs.Due.{due_times}

pub worked_networks : WorkedNetworks
unfolding due_times
worked_networks = refl
