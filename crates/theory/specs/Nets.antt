-- A network's numbers: how many nodes and edges, the prize of a node, the ends and the cost of an edge.
use Rattle.std.specs.Prelude.{ℕ, ◌*◌, [], length, slice_index, slice_index_or}
use Rattle.network.specs.Nets.{Net, Link}

-- the number of nodes
abbrev pub node_count : Net → ℕ
node_count net = length net.prizes

-- the number of edges
abbrev pub edge_count : Net → ℕ
edge_count net = length net.edges

-- stands for an edge that is not entered: its ends are equal
abbrev pub no_link : Link
no_link = record { first = 0; second = 0; cost = 0; code = [] }

-- the prize of node v; 0 for one that is not entered
abbrev pub prize : Net → ℕ → ℕ
prize net v = slice_index net.prizes v

-- the first end of edge s, its second end, and its cost
abbrev pub first_end : Net → ℕ → ℕ
first_end net s = (slice_index_or net.edges s no_link).first

abbrev pub second_end : Net → ℕ → ℕ
second_end net s = (slice_index_or net.edges s no_link).second

abbrev pub cost : Net → ℕ → ℕ
cost net s = (slice_index_or net.edges s no_link).cost

-- a prize and a cost in half units
abbrev pub doubled_prize : Net → ℕ → ℕ
doubled_prize net v = 2 * prize net v

abbrev pub doubled_cost : Net → ℕ → ℕ
doubled_cost net s = 2 * cost net s
