-- Growth by number: how the start and a step read in a table of clusters by number, with a maximal cluster and a depth for each node.
use Rattle.std.specs.Prelude.{◌≡◌, ℕ, ◌+◌, ◌-◌, ◌*◌, ◌<◌, ◌≤◌, true, false, cond, not, ◌&&◌, ◌||◌, List, [], ◌∷◌, length, Some, None, Option, ◌==◌, nat_lt, slice_index_or}
use Rattle.network.specs.Nets.{Net}
use Rattle.theory.specs.Nets.{node_count, first_end, second_end}
use Rattle.theory.specs.Sums.{sum_to}
use Rattle.theory.specs.Clusters.{Cluster, Slot, is_active, over, depth}
use Rattle.theory.specs.Clusters.Phase.{active, inactive}
use Rattle.theory.specs.Clusters.Slot.{maximal, inside}
use Rattle.theory.specs.Due.{earliest, maximal_of, active_at, due_times, among}
use Rattle.theory.specs.Growth.{State, start, active_count, ended, step, grow, total}
use Rattle.theory.specs.Numbers.{cluster_of, parts_of, phase_of, moat_of, inner_of, holds_at, is_maximal}
use Rattle.theory.specs.Prune.{chosen, grown_node}
use Rattle.theory.specs.Laws.{Always}

-- a node alone has the node's number; any other cluster has two parts of lower numbers, which share out its nodes and its inner moats
abbrev pub Parted : List Slot → ℕ → ℕ → Option (ℕ × ℕ) → Type 0
Parted ts n c None = (c < n) × (inner_of ts c ≡ moat_of ts c) × ((v : ℕ) → holds_at ts c v ≡ (c == v))
Parted ts n c (Some (p, q)) =
    (p < c) × (q < c) × (inner_of ts c ≡ moat_of ts c + (inner_of ts p + inner_of ts q)) × ((v : ℕ) → holds_at ts c v ≡ (holds_at ts p v || holds_at ts q v))

-- every number below the next stands for a cluster; a maximal one's nodes are those whose maximal cluster has its number
pub record Formed (n : ℕ) (ts : List Slot) : Type 0 where
  pub clusters : (c : ℕ) → c < length ts → (u : Cluster) × (cluster_of ts c ≡ Some u)
  pub parted : (c : ℕ) → c < length ts → Parted ts n c (parts_of ts c)
  pub shown : (c : ℕ) (t : Cluster) → slice_index_or ts c inside ≡ maximal t → cluster_of ts c ≡ Some t
  pub activity : (c : ℕ) → c < length ts → active_at ts c ≡ (is_maximal ts c && is_active (phase_of ts c))
  pub memberships : (v : ℕ) → v < n → (is_maximal ts (maximal_of ts v) ≡ true) × (maximal_of ts v < length ts) × (holds_at ts (maximal_of ts v) v ≡ true)
  pub sums : (c : ℕ) (t : Cluster) → slice_index_or ts c inside ≡ maximal t → (f : ℕ → ℕ) → over f t ≡ sum_to n (λ v. cond (maximal_of ts v == c) (f v) 0)
  pub in_grown : (v : ℕ) → v < n → grown_node ts v ≡ active_at ts (maximal_of ts v)

-- the start: each node alone, active, with moat 0
pub record Started (net : Net) (st : State) : Type 0 where
  pub count : length st.slots ≡ node_count net
  pub parts : (c : ℕ) → c < node_count net → parts_of st.slots c ≡ None
  pub phases : (c : ℕ) → c < node_count net → phase_of st.slots c ≡ active
  pub moats : (c : ℕ) → c < node_count net → moat_of st.slots c ≡ 0
  pub maximals : (c : ℕ) → c < node_count net → is_maximal st.slots c ≡ true
  pub memberships : (v : ℕ) → v < node_count net → maximal_of st.slots v ≡ v
  pub depths : (v : ℕ) → depth st.slots v ≡ 0
  pub none_chosen : (s : ℕ) → chosen st.slots s ≡ false
  pub no_moats : total st ≡ 0

-- the two clusters that the entry under a number merges; none where the entry is a cluster's
abbrev pub merging : Net → List Slot → ℕ → List ℕ
merging net ts k = cond (nat_lt k 511) [] (maximal_of ts (first_end net (k - 511)) ∷ maximal_of ts (second_end net (k - 511)) ∷ [])

-- a step from st to st' at the entry of number k, due at t
pub record Stepped (net : Net) (st st' : State) (t k : ℕ) : Type 0 where
  pub later : st.time ≤ t
  pub time : st'.time ≡ t
  pub steps : st'.steps ≡ st.steps + 1
  pub count : length st'.slots ≡ length st.slots + cond (nat_lt k 511) 0 1
  pub parts : (c : ℕ) → c < length st.slots → parts_of st'.slots c ≡ parts_of st.slots c
  pub phases : (c : ℕ) → c < length st.slots → phase_of st'.slots c ≡ cond (c == k) inactive (phase_of st.slots c)
  pub moats : (c : ℕ) → c < length st.slots → moat_of st'.slots c ≡ moat_of st.slots c + cond (active_at st.slots c) (t - st.time) 0
  pub maximals : (c : ℕ) → c < length st.slots → is_maximal st'.slots c ≡ (is_maximal st.slots c && not (among c (merging net st.slots k)))
  pub new_parts : 511 ≤ k → parts_of st'.slots (length st.slots) ≡ Some (maximal_of st.slots (first_end net (k - 511)), maximal_of st.slots (second_end net (k - 511)))
  pub new_phase : 511 ≤ k → phase_of st'.slots (length st.slots) ≡ active
  pub new_moat : 511 ≤ k → moat_of st'.slots (length st.slots) ≡ 0
  pub new_maximal : 511 ≤ k → is_maximal st'.slots (length st.slots) ≡ true
  pub memberships : (v : ℕ) → v < node_count net → maximal_of st'.slots v ≡ cond (among (maximal_of st.slots v) (merging net st.slots k)) (length st.slots) (maximal_of st.slots v)
  pub depths : (v : ℕ) → v < node_count net → depth st'.slots v ≡ depth st.slots v + cond (active_at st.slots (maximal_of st.slots v)) (t - st.time) 0
  pub edges : (s : ℕ) → chosen st'.slots s ≡ (chosen st.slots s || (not (nat_lt k 511) && k - 511 == s))
  pub moats_total : total st' ≡ total st + (t - st.time) * active_count st

-- each of these holds of every valid network
abbrev pub StartByNumber : Type 0
StartByNumber = (net : Net) → Started net (start net)

abbrev pub FormedByNumber : Type 0
FormedByNumber = Always (λ net k. Formed (node_count net) (grow net k).slots)

abbrev pub StepByNumber : Type 0
StepByNumber = Always (λ net k. (t number : ℕ) → ended (grow net k) ≡ false →
    earliest (due_times net (grow net k).time (grow net k).slots) ≡ Some (t, number) → Stepped net (grow net k) (step net (grow net k)) t number)
