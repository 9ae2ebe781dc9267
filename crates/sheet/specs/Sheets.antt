-- A sheet: its lines are entered one by one into an empty network, and the first that is refused decides.
use Rattle.std.specs.Prelude.{◌≡◌, ℕ, zero, suc, ◌+◌, List, [], ◌∷◌, length, Some, None, Ok, Err, Option, Result}
use Rattle.refusal.specs.declared.Refusal.{Refusal}
use Rattle.refusal.specs.declared.Refusal.TheVariants.{LineForm, LineEntry}
use Rattle.network.specs.Nets.{Net, empty_net}
use Rattle.network.specs.Entries.{node_refusal, edge_refusal, with_node, with_edge}
use Rattle.sheet.specs.Lines.{Line, Entry, node, edge, first_line, entry_from}

abbrev pub entry_refusal : Net → Entry → Option Refusal
entry_refusal net (node prize) = node_refusal net prize
entry_refusal net (edge e) = edge_refusal net e

abbrev pub with_entry : Net → Entry → Net
with_entry net (node prize) = with_node net prize
with_entry net (edge e) = with_edge net e

-- an entry of a line: a refusal of the network is the line's
abbrev pub unless_line_refused : ℕ → Option Refusal → Net → Result Net Refusal
unless_line_refused line None net = Ok net
unless_line_refused line (Some why) net = Err (LineEntry line)

abbrev pub enter_record : ℕ → Net → Entry → Result Net Refusal
enter_record line net e = unless_line_refused line (entry_refusal net e) (with_entry net e)

abbrev pub enter_fields : ℕ → Net → Option Entry → Result Net Refusal
enter_fields line net None = Err (LineForm line)
enter_fields line net (Some e) = enter_record line net e

-- goes on with what was entered
abbrev pub then_enter : Result Net Refusal → (Net → Result Net Refusal) → Result Net Refusal
then_enter (Ok net) next = next net
then_enter (Err why) next = Err why

-- a line, and then what comes behind it
abbrev pub enter_line : ℕ → Net → Option Line → (Net → List ℕ → Result Net Refusal) → Result Net Refusal
enter_line line net None next = Err (LineForm line)
enter_line line net (Some l) next = then_enter (enter_fields line net (entry_from l.fields)) (λ n. next n l.rest)

-- the lines of some bytes, the first of them with this number; `most` is no less than there are bytes
abbrev pub enter_lines : ℕ → ℕ → Net → List ℕ → Result Net Refusal
enter_lines zero line net bytes = Ok net
enter_lines (suc most) line net [] = Ok net
enter_lines (suc most) line net (b ∷ bs) = enter_line line net (first_line (b ∷ bs)) (enter_lines most (line + 1))

-- all lines of a sheet, into a network that may have entries
abbrev pub enter_from : Net → List ℕ → Result Net Refusal
enter_from net bytes = enter_lines (length bytes) 1 net bytes

-- the network that a sheet says, or the refusal of its first bad line
abbrev pub read_sheet : List ℕ → Result Net Refusal
read_sheet bytes = enter_from empty_net bytes

-- what a reading answers, and what it leaves of the network before
abbrev pub read_answer : Result Net Refusal → Result (Unit {0}) Refusal
read_answer (Ok net) = Ok tt
read_answer (Err why) = Err why

abbrev pub read_leaves : Net → Result Net Refusal → Net
read_leaves before (Ok net) = net
read_leaves before (Err why) = before

-- an answer, with the network then: entered as said, or refused as said, the network open
abbrev pub Entered : Result (Unit {0}) Refusal → Net → Result Net Refusal → Type 0
Entered (Ok done) net said = said ≡ Ok net
Entered (Err why) net said = said ≡ Err why
