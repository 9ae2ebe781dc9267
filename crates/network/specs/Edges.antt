-- How the code's edges stand for those of a network as entered.
use Rattle.std.specs.Prelude.{ℕ, List, map, take}
use Rattle.network.specs.Nets.{Link, Net}
use Rattle.network.specs.declared.code.Code.{Code}
use Rattle.network.specs.declared.edge.Edge.{Edge}

-- a code's text
abbrev pub text_of : Code → List ℕ
text_of c = take c.len c.bytes

abbrev pub link_of : Edge → Link
link_of e = record { first = e.first; second = e.second; cost = e.cost; code = text_of e.code }

abbrev pub net_from : List ℕ → List Edge → Net
net_from prizes edges = record { prizes = prizes; edges = map link_of edges }
