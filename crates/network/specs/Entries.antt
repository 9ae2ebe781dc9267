-- What entering a node or an edge does: the first refusal that applies, in the order of the numbers, or one entry more.
use Rattle.std.specs.Prelude.{ℕ, Bool, cond, ◌||◌, List, [], ◌∷◌, ◌++◌, length, Some, None, Ok, Err, Option, Result, ◌==◌, nat_le, nat_lt}
use Rattle.refusal.specs.declared.Refusal.{Refusal}
use Rattle.refusal.specs.declared.Refusal.TheVariants.{NodesFull, EdgesFull, AmountTooLarge, UnknownNode, EqualEnds, BadCode}
use Rattle.network.specs.Codes.{is_code}
use Rattle.network.specs.Nets.{Net, Link, most_nodes, most_edges, most_amount}

-- a refusal that applies goes before the later ones
abbrev pub refused_if : Bool → Refusal → Option Refusal → Option Refusal
refused_if applies why later = cond applies (Some why) later

abbrev pub node_refusal : Net → ℕ → Option Refusal
node_refusal net prize = refused_if (nat_le most_nodes (length net.prizes)) NodesFull (refused_if (nat_lt most_amount prize) AmountTooLarge None)

-- the refusals of an edge that do not ask for its code
abbrev pub before_code_refusal : Net → ℕ → ℕ → ℕ → Option Refusal
before_code_refusal net first second cost =
    refused_if (nat_le most_edges (length net.edges)) EdgesFull
    (refused_if (nat_lt most_amount cost) AmountTooLarge
    (refused_if (nat_le (length net.prizes) first || nat_le (length net.prizes) second) UnknownNode
    (refused_if (first == second) EqualEnds None)))

-- the refusals of a code
abbrev pub code_refusal : List ℕ → Option Refusal
code_refusal code = cond (is_code code) None (Some BadCode)

-- the first of two
abbrev pub or_else : Option Refusal → Option Refusal → Option Refusal
or_else None later = later
or_else (Some why) later = Some why

abbrev pub edge_refusal : Net → Link → Option Refusal
edge_refusal net e = or_else (before_code_refusal net e.first e.second e.cost) (code_refusal e.code)

-- the answer: what was asked for, or the refusal
abbrev pub answer_of : {X : Type 0} → Option Refusal → X → Result X Refusal
answer_of None x = Ok x
answer_of (Some why) x = Err why

-- a refusal leaves what was there
abbrev pub unless_refused : Option Refusal → Net → Net → Net
unless_refused None before after = after
unless_refused (Some why) before after = before

abbrev pub with_node : Net → ℕ → Net
with_node net prize = record { prizes = net.prizes ++ prize ∷ []; edges = net.edges }

abbrev pub with_edge : Net → Link → Net
with_edge net e = record { prizes = net.prizes; edges = net.edges ++ e ∷ [] }

abbrev pub add_node_answer : Net → ℕ → Result ℕ Refusal
add_node_answer net prize = answer_of (node_refusal net prize) (length net.prizes)

abbrev pub add_node : Net → ℕ → Net
add_node net prize = unless_refused (node_refusal net prize) net (with_node net prize)

abbrev pub add_edge_answer : Net → Link → Result ℕ Refusal
add_edge_answer net e = answer_of (edge_refusal net e) (length net.edges)

abbrev pub add_edge : Net → Link → Net
add_edge net e = unless_refused (edge_refusal net e) net (with_edge net e)
