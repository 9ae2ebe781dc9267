use Rattle.std.proofs.Common.{◌≡◌, ◌+◌, ◌≤◌, map, drop}
use Rattle.network.specs.Lists.{given, entered, taken_count}
use Rattle.network.specs.Networks.{net_of}
use Rattle.network.proofs.network.Network.enter_all.Given as goal

-- the entries that are left give the rest of the answer
abbrev pub invariant-loop-entry : goal.invariant-loop-entry
invariant-loop-entry l =
    (l.taken + taken_count (map given (drop l.entry-index l.entries)) (net_of l.self) ≡ taken_count (map given l.entries) (net_of l.initial.self))
    × (entered (map given (drop l.entry-index l.entries)) (net_of l.self) ≡ entered (map given l.entries) (net_of l.initial.self))
    × (l.taken ≤ l.entry-index)
