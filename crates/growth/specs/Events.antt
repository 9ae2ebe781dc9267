-- What time and an event do to the tables.
use Rattle.std.specs.Prelude.{◌≡◌, ℕ, ◌+◌, ◌-◌, ◌*◌, ◌<◌, List, map, length, slice_index_or}
use Rattle.theory.specs.Sums.{sum_to, one}
use Rattle.growth.specs.Records.{vacant, is_growing, widened}
use Rattle.growth.specs.NodeTables.{deeper, cluster_at, depth_at}
use Rattle.growth.specs.declared.cluster.Cluster.{Cluster}
use Rattle.growth.specs.declared.tables.Tables.{Tables}

-- how many clusters grow
abbrev pub growing : List Cluster → ℕ
growing cs = sum_to (length cs) (λ c. one (is_growing (slice_index_or cs c vacant)))

-- time moves on to a moment, with n nodes: growing clusters' moats and their nodes' depths grow
pub record Passed (n to : ℕ) (t u : Tables) : Type 0 where
  pub clusters : u.family.clusters ≡ map (widened (to - t.time)) t.family.clusters
  pub formed : u.family.formed ≡ t.family.formed
  pub memberships : (v : ℕ) → cluster_at u.nodes.list v ≡ cluster_at t.nodes.list v
  pub depths : (v : ℕ) → v < n → depth_at u.nodes.list v ≡ deeper t.family.clusters (to - t.time) (cluster_at t.nodes.list v) (depth_at t.nodes.list v)
  pub edges : u.chosen.marks ≡ t.chosen.marks
  pub time : u.time ≡ to
  pub steps : u.steps ≡ t.steps + 1
  pub total : u.total ≡ t.total + (to - t.time) * growing t.family.clusters
