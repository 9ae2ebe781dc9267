-- What an event queue means: a table from the numbers 0 to 1,534 to a time or to nothing.
use Rattle.std.specs.Prelude.{◌≡◌, ℕ, ◌+◌, ◌<◌, ◌≤◌, cond, List, [], ◌∷◌, length, get_or, replicate, Some, None, Ok, Err, Option, Result, ◌≢◌, nat_lt, slice_index_or, slice_set}
use Rattle.refusal.specs.declared.Refusal.{Refusal}
use Rattle.refusal.specs.declared.Refusal.TheVariants.{EventOutOfRange}

-- the table that gives every number nothing
abbrev pub no_entries : List (Option ℕ)
no_entries = replicate 1535 None

-- what setting and removing answer: only a number above 1,534 is refused
abbrev pub write_answer : ℕ → Result Unit Refusal
write_answer number = cond (nat_lt number 1535) (Ok tt) (Err EventOutOfRange)

-- the table with one number's entry replaced; a number that it does not have leaves it as it was
abbrev pub with_entry : List (Option ℕ) → ℕ → Option ℕ → List (Option ℕ)
with_entry t number entry = slice_set t number entry

-- a write in words: the number has the entry, and each other number what it had
pub record Written (t u : List (Option ℕ)) (number : ℕ) (entry : Option ℕ) : Type 0 where
  pub there : get_or u number None ≡ entry
  pub others : (k : ℕ) → (k ≢ number) → slice_index_or u k None ≡ slice_index_or t k None

-- what the answer to a write says: taken, it writes that one entry; refused, its number is above 1,534, and the table stays
abbrev pub WriteOutcome : List (Option ℕ) → ℕ → Option ℕ → Result Unit Refusal → Type 0
WriteOutcome t number entry (Ok _) = Written t (with_entry t number entry) number entry
WriteOutcome t number entry (Err e) = (1534 < number) × (e ≡ EventOutOfRange) × (with_entry t number entry ≡ t)

abbrev pub WritesStand : Type 0
WritesStand = (t : List (Option ℕ)) (number : ℕ) (entry : Option ℕ) → length t ≡ 1535 → WriteOutcome t number entry (write_answer number)

-- the earlier of what was found so far and the entry at i, as pairs of time and number; an equal time keeps what was found
abbrev pub sooner : Option (ℕ × ℕ) → ℕ → Option ℕ → Option (ℕ × ℕ)
sooner found i None = found
sooner None i (Some time) = Some (time, i)
sooner (Some e) i (Some time) = cond (nat_lt time e.0) (Some (time, i)) (Some e)

-- a look through the entries from number i on
abbrev pub scan : Option (ℕ × ℕ) → ℕ → List (Option ℕ) → Option (ℕ × ℕ)
scan found i [] = found
scan found i (x ∷ xs) = scan (sooner found i x) (i + 1) xs

-- the first entry of a table, as a pair of time and number
abbrev pub first_entry : List (Option ℕ) → Option (ℕ × ℕ)
first_entry t = scan None 0 t

-- e is the first entry: it is in the table, no entry is earlier, and none of its time has a lower number
pub record ComesFirst (t : List (Option ℕ)) (e : ℕ × ℕ) : Type 0 where
  pub entered : get_or t e.1 None ≡ Some e.0
  pub earliest : (number time : ℕ) → slice_index_or t number None ≡ Some time → e.0 ≤ time
  pub lowest : (number : ℕ) → slice_index_or t number None ≡ Some e.0 → e.1 ≤ number

-- what an answer has to say of a table: its first entry, or that it has none
abbrev pub RightAnswer : List (Option ℕ) → Option (ℕ × ℕ) → Type 0
RightAnswer t None = (number : ℕ) → slice_index_or t number None ≡ None
RightAnswer t (Some e) = ComesFirst t e

-- `first_entry` is such an answer for every table, and there is no other
abbrev pub FirstEntryStands : Type 0
FirstEntryStands = (t : List (Option ℕ)) → RightAnswer t (first_entry t) × ((answer : Option (ℕ × ℕ)) → RightAnswer t answer → answer ≡ first_entry t)
