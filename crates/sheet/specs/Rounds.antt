-- Writing and reading back: the two laws.
use Rattle.std.specs.Prelude.{◌≡◌, ℕ, zero, suc, Bool, true, false, List, [], ◌∷◌, ◌++◌, length, Some, None, Ok, Option}
use Rattle.std.specs.Option.{option_to_list}
use Rattle.network.specs.Codes.{all}
use Rattle.network.specs.Nets.{Net}
use Rattle.sheet.specs.Lines.{Line, Entry, node, edge, first_line, entry_from}
use Rattle.sheet.specs.Sheets.{read_sheet}
use Rattle.sheet.specs.Writing.{sheet_of}

-- what a written network says is that network
abbrev pub ReadAfterWrite : Net → Type 0
ReadAfterWrite net = read_sheet (sheet_of net) ≡ Ok net

-- the entry of a first line, and then those behind it
abbrev pub line_entries : Option Line → (List ℕ → List Entry) → List Entry
line_entries None next = []
line_entries (Some l) next = option_to_list (entry_from l.fields) ++ next l.rest

-- the entries of the lines of some bytes; `most` is no less than there are bytes
abbrev pub entries_within : ℕ → List ℕ → List Entry
entries_within zero bytes = []
entries_within (suc most) [] = []
entries_within (suc most) (b ∷ bs) = line_entries (first_line (b ∷ bs)) (entries_within most)

abbrev pub entries_of : List ℕ → List Entry
entries_of bytes = entries_within (length bytes) bytes

abbrev pub is_edge : Entry → Bool
is_edge (node prize) = false
is_edge (edge e) = true

-- no node comes behind an edge
abbrev pub nodes_first : List Entry → Bool
nodes_first [] = true
nodes_first (node prize ∷ es) = nodes_first es
nodes_first (edge e ∷ es) = all is_edge es

-- an accepted sheet is written back byte for byte exactly when all its node lines come before its edge lines
abbrev pub WriteAfterRead : List ℕ → Type 0
WriteAfterRead bytes = (net : Net) → read_sheet bytes ≡ Ok net → (nodes_first (entries_of bytes) ≡ true → sheet_of net ≡ bytes) × (sheet_of net ≡ bytes → nodes_first (entries_of bytes) ≡ true)
