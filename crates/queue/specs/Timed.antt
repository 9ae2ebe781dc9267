-- The keys of time and number that the heap queue keeps in its heap.
use Rattle.std.specs.Prelude.{◌≡◌, ℕ, Bool, false, cond, ◌&&◌, List, [], ◌∷◌, length, is_some, Some, None, Ok, Err, count_by, Option, Result, ◌==◌, nat_le, nat_lt, slice_index_or}
use Rattle.refusal.specs.declared.Refusal.{Refusal}
use Rattle.refusal.specs.declared.Refusal.TheVariants.{ListTooShort}
use Rattle.queue.specs.declared.timed.TimedKey.{TimedKey}

-- the order of keys: by time, and by number among equal times
abbrev pub timed_leq : TimedKey → TimedKey → Bool
timed_leq a b = cond (a.time == b.time) (nat_le a.number b.number) (nat_lt a.time b.time)

-- the key of a number's entry, if it has one
abbrev pub key_of : ℕ → Option ℕ → List TimedKey
key_of number None = []
key_of number (Some time) = record { time = time; number = number } ∷ []

-- whether two keys are the same
abbrev pub same_key : TimedKey → TimedKey → Bool
same_key a b = a.time == b.time && a.number == b.number

-- how often a key stands in a list
abbrev pub how_often : TimedKey → List TimedKey → ℕ
how_often k ks = count_by (same_key k) ks

-- whether an entry has this time
abbrev pub has_time : Option ℕ → ℕ → Bool
has_time None time = false
has_time (Some s) time = s == time

-- 1 where the table gives the key's number the key's time, else 0
abbrev pub entered : TimedKey → List (Option ℕ) → ℕ
entered k t = cond (has_time (slice_index_or t k.number None) k.time) 1 0

-- how many entries a table has
abbrev pub entries : List (Option ℕ) → ℕ
entries t = count_by is_some t

-- the keys are those of the table's entries, each once
abbrev pub KeysOf : List (Option ℕ) → List TimedKey → Type 0
KeysOf t ks = (length ks ≡ entries t) × ((k : TimedKey) → how_often k ks ≡ entered k t)

-- what the test of a list of keys answers: fewer than 1,535 are too few
abbrev pub room_answer : ℕ → Result Unit Refusal
room_answer n = cond (nat_lt n 1535) (Err ListTooShort) (Ok tt)
