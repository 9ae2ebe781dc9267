-- How the code's tables show a state of growth.
use Rattle.std.specs.Prelude.{◌≡◌, ℕ, ◌<◌, ◌≤◌, List, length, slice_index, slice_index_or}
use Rattle.theory.specs.Clusters.{Slot, depth}
use Rattle.theory.specs.Clusters as theory
use Rattle.theory.specs.Clusters.Phase.{active, inactive}
use Rattle.theory.specs.Due.{maximal_of}
use Rattle.theory.specs.Numbers.{parts_of, phase_of, moat_of, is_maximal}
use Rattle.growth.specs.Records.{vacant}
use Rattle.growth.specs.declared.cluster.Phase.{Phase}
use Rattle.growth.specs.declared.cluster.Phase.TheVariants.{Active, Inactive}
use Rattle.growth.specs.declared.cluster.Cluster.{Cluster}
use Rattle.growth.specs.declared.tables.Tables.{Tables}
use Rattle.network.specs.Nets.{Net}
use Rattle.theory.specs.Sums.{one}
use Rattle.theory.specs.Nets.{node_count, edge_count}
use Rattle.theory.specs.Growth.{State, grow, total}
use Rattle.theory.specs.Prune.{chosen}
use Rattle.growth.specs.NodeTables.{cluster_at, depth_at}

-- a cluster's state, as the code has it
abbrev pub phase_shown : theory.Phase → Phase
phase_shown active = Active
phase_shown inactive = Inactive

-- the record of the cluster of this number
abbrev pub record_shown : List Slot → ℕ → Cluster
record_shown ts c = record { phase = phase_shown (phase_of ts c); moat = moat_of ts c; parts = parts_of ts c; maximal = is_maximal ts c }

-- the tables show a state of growth
pub record Shows (net : Net) (t : Tables) (st : State) : Type 0 where
  pub count : t.family.formed ≡ length st.slots
  pub records : (c : ℕ) → c < length st.slots → slice_index_or t.family.clusters c vacant ≡ record_shown st.slots c
  pub memberships : (v : ℕ) → v < node_count net → cluster_at t.nodes.list v ≡ maximal_of st.slots v
  pub deep : (v : ℕ) → v < node_count net → depth_at t.nodes.list v ≡ depth st.slots v
  pub edges : (s : ℕ) → s < edge_count net → slice_index t.chosen.marks s ≡ one (chosen st.slots s)
  pub time : t.time ≡ st.time
  pub steps : t.steps ≡ st.steps
  pub moats : t.total ≡ total st

-- they show it, and what stands behind the clusters and the edges is vacant and not chosen
pub record ShowsAll (net : Net) (t : Tables) (st : State) : Type 0 where
  pub shown : Shows net t st
  pub vacants : (c : ℕ) → length st.slots ≤ c → slice_index_or t.family.clusters c vacant ≡ vacant
  pub all_edges : (s : ℕ) → slice_index t.chosen.marks s ≡ one (chosen st.slots s)

-- they show the state that as many steps give as they count
abbrev pub Shown : Net → Tables → Type 0
Shown net t = ShowsAll net t (grow net t.steps)
