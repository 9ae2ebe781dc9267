-- A cluster's inner moats, from the table of records.
use Rattle.std.specs.Prelude.{ℕ, zero, suc, ◌+◌, ◌≤◌, max, List, Some, None, Option, slice_index_or}
use Rattle.growth.specs.Records.{vacant}
use Rattle.growth.specs.declared.cluster.Cluster.{Cluster}

abbrev pub parts_at : List Cluster → ℕ → Option (ℕ × ℕ)
parts_at cs c = (slice_index_or cs c vacant).parts

abbrev pub moat_at : List Cluster → ℕ → ℕ
moat_at cs c = (slice_index_or cs c vacant).moat

-- one more than the greater of the parts' numbers, and 0 where there are none
abbrev pub reach : Option (ℕ × ℕ) → ℕ
reach None = 0
reach (Some p) = max p.0 p.1 + 1

-- both parts of a cluster have lower numbers
abbrev pub Falls : List Cluster → Type 0
Falls cs = (c : ℕ) → reach (parts_at cs c) ≤ c

-- a cluster's own moat, and what f says of its two parts
abbrev pub with_parts : (ℕ → ℕ) → Option (ℕ × ℕ) → ℕ → ℕ
with_parts f None moat = moat
with_parts f (Some p) moat = moat + f p.0 + f p.1

-- as many levels down as `levels`
unfoldable pub moats_within : List Cluster → ℕ → ℕ → ℕ
moats_within cs zero c = 0
moats_within cs (suc levels) c = with_parts (moats_within cs levels) (parts_at cs c) (moat_at cs c)

-- numbers fall, so c + 1 levels are all that there are
abbrev pub inner_moats : List Cluster → ℕ → ℕ
inner_moats cs c = moats_within cs (suc c) c
