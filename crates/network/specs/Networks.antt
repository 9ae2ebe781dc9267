-- The network that a value of the type `Network` holds.
use Rattle.std.specs.Prelude.{vec_items}
use Rattle.network.specs.Nets.{Net}
use Rattle.network.specs.Edges.{net_from}
use Rattle.network.specs.declared.network.Network.{Network}

abbrev pub net_of : Network → Net
net_of n = net_from (vec_items n.prizes) (vec_items n.edges)
