-- What a snapshot shows: its network, the state of growth, and the due times.
use Rattle.std.specs.Prelude.{ℕ, List, Option}
use Rattle.network.specs.Nets.{Net}
use Rattle.network.specs.Networks.{net_of}
use Rattle.theory.specs.Growth.{State, grow}
use Rattle.growth.specs.Refreshed.{dues_shown}
use Rattle.growth.specs.declared.snapshot.Snapshot.{Snapshot}

abbrev pub net_in : Snapshot → Net
net_in s = net_of s.network.now

abbrev pub state_in : Snapshot → State
state_in s = grow (net_in s) s.tables.now.steps

abbrev pub dues_in : Snapshot → List (Option ℕ)
dues_in s = dues_shown (net_in s) s.tables.now
