-- Lists of entries: each is entered in turn, and a refused one changes nothing.
use Rattle.std.specs.Prelude.{ℕ, ◌+◌, cond, List, [], ◌∷◌, is_ok, Result}
use Rattle.refusal.specs.declared.Refusal.{Refusal}
use Rattle.network.specs.Nets.{Net, Link, link}
use Rattle.network.specs.Entries.{add_node_answer, add_node, add_edge_answer, add_edge}
use Rattle.network.specs.declared.entry.Entry.{Entry}
use Rattle.network.specs.declared.entry.Entry.TheVariants.{Node, Edge}

-- what an entry gives: a node's prize, or an edge
pub data Given : Type 0 where
  node : ℕ → Given
  edge : Link → Given

-- of an entry as the code has it
abbrev pub given : Entry → Given
given (Node prize) = node prize
given (Edge first second cost code) = edge (link first second cost code.now)

-- what entering it answers
abbrev pub enter_answer : Net → Given → Result ℕ Refusal
enter_answer net (node prize) = add_node_answer net prize
enter_answer net (edge e) = add_edge_answer net e

-- the network after it
abbrev pub entered_one : Net → Given → Net
entered_one net (node prize) = add_node net prize
entered_one net (edge e) = add_edge net e

-- the network after each of a list in turn
abbrev pub entered : List Given → Net → Net
entered [] net = net
entered (e ∷ es) net = entered es (entered_one net e)

-- how many of a list are taken
abbrev pub taken_count : List Given → Net → ℕ
taken_count [] net = 0
taken_count (e ∷ es) net = cond (is_ok (enter_answer net e)) 1 0 + taken_count es (entered_one net e)
