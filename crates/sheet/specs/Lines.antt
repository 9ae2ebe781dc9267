-- A line: its fields, parted by tabs, up to its line feed, and what it enters.
use Rattle.std.specs.Prelude.{ℕ, Bool, cond, ◌&&◌, List, [], ◌∷◌, length, Some, None, Option, ◌==◌, slice_index, slice_index_or}
use Rattle.std.specs.Option.{option_map}
use Rattle.network.specs.Nets.{Link, link}
use Rattle.sheet.specs.Numbers.{is_number, value_of}

-- a line's fields, and the bytes behind its line feed
pub record Line : Type 0 where
  pub fields : List (List ℕ)
  pub rest : List ℕ

-- one field more in front
abbrev pub field_before : List ℕ → Line → Line
field_before field l = record { fields = field ∷ l.fields; rest = l.rest }

-- one byte more in front of the first field
abbrev pub byte_into : ℕ → List (List ℕ) → List (List ℕ)
byte_into b [] = (b ∷ []) ∷ []
byte_into b (f ∷ fs) = (b ∷ f) ∷ fs

abbrev pub byte_before : ℕ → Line → Line
byte_before b l = record { fields = byte_into b l.fields; rest = l.rest }

-- the first line of some bytes; none where no line feed closes it
abbrev pub first_line : List ℕ → Option Line
first_line [] = None
first_line (b ∷ bs) = cond (b == 10) (Some record { fields = [] ∷ []; rest = bs }) (option_map (cond (b == 9) (field_before []) (byte_before b)) (first_line bs))

-- what a line enters: a node's prize, or an edge
pub data Entry : Type 0 where
  node : ℕ → Entry
  edge : Link → Entry

abbrev pub field_at : List (List ℕ) → ℕ → List ℕ
field_at fields k = slice_index_or fields k []

abbrev pub is_letter : ℕ → List ℕ → Bool
is_letter c field = length field == 1 && slice_index field 0 == c

-- `N` and a prize
abbrev pub node_form : List (List ℕ) → Bool
node_form fields = length fields == 2 && (is_letter 78 (field_at fields 0) && is_number (field_at fields 1))

-- `S`, both ends, a cost and a code of any bytes
abbrev pub edge_form : List (List ℕ) → Bool
edge_form fields = length fields == 5 && (is_letter 83 (field_at fields 0) && (is_number (field_at fields 1) && (is_number (field_at fields 2) && is_number (field_at fields 3))))

abbrev pub link_in : List (List ℕ) → Link
link_in fields = link (value_of (field_at fields 1)) (value_of (field_at fields 2)) (value_of (field_at fields 3)) (field_at fields 4)

-- none where the fields have neither form
abbrev pub entry_from : List (List ℕ) → Option Entry
entry_from fields = cond (node_form fields) (Some (node (value_of (field_at fields 1)))) (cond (edge_form fields) (Some (edge (link_in fields))) None)
