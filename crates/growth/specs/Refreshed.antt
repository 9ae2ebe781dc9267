-- The queue's table against the due times.
use Rattle.std.specs.Prelude.{◌≡◌, ℕ, ◌+◌, ◌-◌, ◌<◌, Bool, true, cond, ◌||◌, List, [], ◌∷◌, length, Some, None, Option, ◌==◌, nat_lt, slice_index_or}
use Rattle.network.specs.Nets.{Net}
use Rattle.theory.specs.Nets.{edge_count, first_end, second_end}
use Rattle.theory.specs.Due.{due_times, among}
use Rattle.theory.specs.Growth.{grow}
use Rattle.growth.specs.Moats.{parts_at}
use Rattle.growth.specs.declared.tables.Tables.{Tables}
use Rattle.growth.specs.NodeTables.{cluster_at}

-- the due times after k steps
abbrev pub dues_after : Net → ℕ → List (Option ℕ)
dues_after net k = due_times net (grow net k).time (grow net k).slots

-- the due times of the state that the tables show
abbrev pub dues_shown : Net → Tables → List (Option ℕ)
dues_shown net t = dues_after net t.steps

-- the table has the due time of this number
abbrev pub Right : List (Option ℕ) → List (Option ℕ) → ℕ → Type 0
Right dues table j = slice_index_or table j None ≡ slice_index_or dues j None

-- from one table to the next no entry that was right is lost
pub record CaughtUp (dues t u : List (Option ℕ)) : Type 0 where
  pub same_length : length u ≡ length t
  pub keeps : (j : ℕ) → Right dues t j → Right dues u j

-- an end of the edge is in this cluster
abbrev pub is_at : Net → Tables → ℕ → ℕ → Bool
is_at net t c s = cluster_at t.nodes.list (first_end net s) == c || cluster_at t.nodes.list (second_end net s) == c

-- the cluster that was formed last
abbrev pub newest : Tables → ℕ
newest t = t.family.formed - 1

abbrev pub parts_list : Option (ℕ × ℕ) → List ℕ
parts_list None = []
parts_list (Some p) = p.0 ∷ p.1 ∷ []

-- the clusters at which the event under this number changed something, as the tables show them after it
abbrev pub touched : Tables → ℕ → List ℕ
touched t number = cond (nat_lt number 511) (number ∷ []) (newest t ∷ parts_list (parts_at t.family.clusters (newest t)))

-- the one of them that is maximal
abbrev pub changed : Tables → ℕ → ℕ
changed t number = cond (nat_lt number 511) number (newest t)

-- after the event under this number: its clusters' entries and those of the edges at them are right
pub record Refreshed (net : Net) (t : Tables) (number : ℕ) (dues before after : List (Option ℕ)) : Type 0 where
  pub sized : length after ≡ 1535
  pub keeps : (j : ℕ) → Right dues before j → Right dues after j
  pub clusters : (c : ℕ) → among c (touched t number) ≡ true → Right dues after c
  pub edges : (s : ℕ) → s < edge_count net → is_at net t (changed t number) s ≡ true → Right dues after (511 + s)
