-- A cluster's record, and what growth does to it.
use Rattle.std.specs.Prelude.{ℕ, ◌+◌, Bool, true, false, cond, ◌&&◌, List, Some, None, slice_index_or, slice_set}
use Rattle.growth.specs.declared.cluster.Phase.{Phase}
use Rattle.growth.specs.declared.cluster.Phase.TheVariants.{Active, Inactive}
use Rattle.growth.specs.declared.cluster.Cluster.{Cluster}

-- stands where no cluster is formed yet
abbrev pub vacant : Cluster
vacant = record { phase = Active; moat = 0; parts = None; maximal = false }

-- a node alone, active, with moat 0
abbrev pub lone_record : Cluster
lone_record = record { phase = Active; moat = 0; parts = None; maximal = true }

-- the union of two clusters
abbrev pub joined_record : ℕ → ℕ → Cluster
joined_record p q = record { phase = Active; moat = 0; parts = Some (p, q); maximal = true }

abbrev pub inactivated : Cluster → Cluster
inactivated c = record { phase = Inactive; moat = c.moat; parts = c.parts; maximal = c.maximal }

abbrev pub enclosed : Cluster → Cluster
enclosed c = record { phase = c.phase; moat = c.moat; parts = c.parts; maximal = false }

abbrev pub phase_active : Phase → Bool
phase_active Active = true
phase_active Inactive = false

-- active and maximal
abbrev pub is_growing : Cluster → Bool
is_growing c = phase_active c.phase && c.maximal

abbrev pub widened : ℕ → Cluster → Cluster
widened by c = record { phase = c.phase; moat = c.moat + cond (is_growing c) by 0; parts = c.parts; maximal = c.maximal }

-- one record replaced by what f makes of it
abbrev pub at_record : (Cluster → Cluster) → List Cluster → ℕ → List Cluster
at_record f cs c = slice_set cs c (f (slice_index_or cs c vacant))

-- p and q are inside the new cluster of this number
abbrev pub merged_records : List Cluster → ℕ → ℕ → ℕ → List Cluster
merged_records cs number p q = slice_set (at_record enclosed (at_record enclosed cs p) q) number (joined_record p q)
