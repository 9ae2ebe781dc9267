-- What the reader's parts stand for: the bytes ahead, the field at their front, and a line's entry.
use Rattle.std.specs.Prelude.{◌≡◌, ℕ, Bool, true, false, cond, ◌&&◌, ◌||◌, List, [], ◌∷◌, ◌++◌, length, drop, Some, None, Ok, Err, Option, Result, ◌==◌, MatchOption}
use Rattle.std.specs.Option.{option_map}
use Rattle.refusal.specs.declared.Refusal.{Refusal}
use Rattle.refusal.specs.declared.Refusal.TheVariants.{LineForm}
use Rattle.network.specs.Nets.{link}
use Rattle.network.specs.declared.entry.Entry.{Entry as NetworkEntry}
use Rattle.network.specs.declared.entry.Entry.TheVariants.{Node, Edge}
use Rattle.sheet.specs.Numbers.{is_number, value_of}
use Rattle.sheet.specs.Lines.{Line, Entry, node, edge, first_line, entry_from}
use Rattle.sheet.specs.declared.reader.Reader.{Reader}
use Rattle.sheet.specs.declared.field.Field.{Field}
use Rattle.sheet.specs.declared.field.Field.TheVariants.{Letter, Number, Code}

-- the bytes not yet read
abbrev pub ahead : Reader → List ℕ
ahead r = drop r.at r.sheet.now

abbrev pub is_empty : List ℕ → Bool
is_empty [] = true
is_empty (b ∷ bs) = false

-- a tab or a line feed
abbrev pub is_stop : ℕ → Bool
is_stop b = b == 9 || b == 10

-- the bytes before the first tab or line feed, and the bytes from it on
abbrev pub field_of : List ℕ → List ℕ
field_of [] = []
field_of (b ∷ bs) = cond (is_stop b) [] (b ∷ field_of bs)

abbrev pub behind_field : List ℕ → List ℕ
behind_field [] = []
behind_field (b ∷ bs) = cond (is_stop b) (b ∷ bs) (behind_field bs)

-- whether this byte comes next
abbrev pub next_is : ℕ → List ℕ → Bool
next_is end [] = false
next_is end (b ∷ bs) = b == end

-- a field of a kind, closed by a byte, comes next
abbrev pub closed_field : (List ℕ → Bool) → ℕ → List ℕ → Bool
closed_field kind end bytes = kind (field_of bytes) && next_is end (behind_field bytes)

abbrev pub any_letter : List ℕ → Bool
any_letter field = length field == 1

abbrev pub any_bytes : List ℕ → Bool
any_bytes field = true

-- the field is of this kind, and shows these bytes of the sheet at this place
abbrev pub LetterAt : Field → List ℕ → ℕ → Type 0
LetterAt (Letter bytes at) field place = (bytes.now ≡ field) × (at ≡ place) × (length field ≡ 1)
LetterAt (Number bytes at value) field place = ⊥
LetterAt (Code bytes at) field place = ⊥

abbrev pub NumberAt : Field → List ℕ → ℕ → Type 0
NumberAt (Letter bytes at) field place = ⊥
NumberAt (Number bytes at value) field place = (bytes.now ≡ field) × (at ≡ place) × (is_number field ≡ true) × (value ≡ value_of field)
NumberAt (Code bytes at) field place = ⊥

abbrev pub CodeAt : Field → List ℕ → ℕ → Type 0
CodeAt (Letter bytes at) field place = ⊥
CodeAt (Number bytes at value) field place = ⊥
CodeAt (Code bytes at) field place = (bytes.now ≡ field) × (at ≡ place)

-- what taking a field answers: one of the kind, shown as said, and the bytes behind its end are ahead then; or none, where no such field comes next
abbrev pub TakesField : (List ℕ → Bool) → (Field → List ℕ → ℕ → Type 0) → ℕ → Reader → Option Field → Reader → Type 0
TakesField kind ShownAt end before answer after = MatchOption answer (closed_field kind end (ahead before) ≡ false) (λ f. ShownAt f (field_of (ahead before)) before.at × (behind_field (ahead before) ≡ end ∷ ahead after))

-- what a record enters, as the code has it
abbrev pub entry_in : NetworkEntry → Entry
entry_in (Node prize) = node prize
entry_in (Edge first second cost code) = edge (link first second cost code.now)

-- a line's entry, and the bytes behind the line
pub record Parsed : Type 0 where
  pub entry : Entry
  pub rest : List ℕ

abbrev pub parsed : Entry → List ℕ → Parsed
parsed e rest = record { entry = e; rest = rest }

abbrev pub then_line : List (List ℕ) → Option Line → Option Parsed
then_line read None = None
then_line read (Some l) = option_map (λ e. parsed e l.rest) (entry_from (read ++ l.fields))

-- the entry of a line of which some fields are read and these bytes are ahead; none where its form is wrong
abbrev pub parsed_behind : List (List ℕ) → List ℕ → Option Parsed
parsed_behind read bytes = then_line read (first_line bytes)

-- what taking the record of a line answers: its entry, and the bytes behind the line are ahead then; or the line has another form
abbrev pub TakesRecord : List (List ℕ) → ℕ → List ℕ → Result NetworkEntry Refusal → List ℕ → Type 0
TakesRecord read line before (Ok r) after = parsed_behind read before ≡ Some (parsed (entry_in r) after)
TakesRecord read line before (Err why) after = (why ≡ LineForm line) × (parsed_behind read before ≡ None)
