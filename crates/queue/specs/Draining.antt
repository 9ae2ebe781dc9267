-- The entries of a table in the order in which a queue gives them.
use Rattle.std.specs.Prelude.{ℕ, zero, suc, List, [], ◌++◌, Some, None, Option}
use Rattle.std.specs.Option.{option_to_list}
use Rattle.queue.specs.Tables.{with_entry, first_entry}

-- the table without this entry
abbrev pub without_entry : List (Option ℕ) → Option (ℕ × ℕ) → List (Option ℕ)
without_entry t None = t
without_entry t (Some e) = with_entry t e.1 None

-- the table without its first entry
abbrev pub without_first : List (Option ℕ) → List (Option ℕ)
without_first t = without_entry t (first_entry t)

-- the first n entries of a table, in order; fewer where it has fewer
abbrev pub in_order : ℕ → List (Option ℕ) → List (ℕ × ℕ)
in_order zero t = []
in_order (suc n) t = option_to_list (first_entry t) ++ in_order n (without_first t)

-- the table without its first n entries
abbrev pub without : ℕ → List (Option ℕ) → List (Option ℕ)
without zero t = t
without (suc n) t = without n (without_first t)
