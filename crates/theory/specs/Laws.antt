-- The laws of growth.
use Rattle.std.specs.Prelude.{◌≡◌, ℕ, suc, ◌+◌, ◌-◌, ◌*◌, ◌%◌, ◌<◌, ◌≤◌, Bool, true, false, cond, ◌&&◌, ◌||◌, ◌≢◌, List, length, Some, None, ◌==◌, nat_lt, slice_index_or}
use Rattle.std.specs.List.{AllByRecursion}
use Rattle.network.specs.Nets.{Net, valid}
use Rattle.theory.specs.Nets.{node_count, edge_count, prize, cost, first_end, second_end, doubled_prize, doubled_cost}
use Rattle.theory.specs.Clusters.{Cluster, Slot, moat, holds, over, inner, over_all, Every, depth, load, Shared}
use Rattle.theory.specs.Clusters.Slot.{maximal, inside}
use Rattle.theory.specs.Trees.{Tree, Cut, tree_cost, lost}
use Rattle.theory.specs.Sums.{sum_of}
use Rattle.theory.specs.Due.{earliest, maximal_of, active_at, slack, due_times, among, event_clusters}
use Rattle.theory.specs.Prune.{grown_node, edges_within, grown_edge, prunable, pruned, Plan, marked, plan}
use Rattle.theory.specs.Strong.{hung, lists, Hang, root_of, branches, net_worth, best_node, strong_nodes, strong_plan}
use Rattle.theory.specs.Growth.{State, active_count, ended, step, grow, total, lower_bound}

-- no edge carries more than its doubled cost
abbrev pub EdgeLoads : Net → List Slot → Type 0
EdgeLoads net ts = (s : ℕ) → s < edge_count net → load net ts s ≤ doubled_cost net s

-- no cluster's inner moats exceed its doubled prizes
abbrev pub InnerMoats : Net → List Slot → Type 0
InnerMoats net ts = Every (λ u. inner u ≤ over (doubled_prize net) u) ts

-- two clusters are nested or share no node
pub data Nested (u w : Cluster) : Type 0 where
  in_second : ((v : ℕ) → holds u v ≡ true → holds w v ≡ true) → Nested u w
  in_first : ((v : ℕ) → holds w v ≡ true → holds u v ≡ true) → Nested u w
  apart : ((v : ℕ) → holds u v ≡ true → holds w v ≡ false) → Nested u w

-- any two clusters of a family
abbrev pub Laminar : List Slot → Type 0
Laminar ts = Every (λ u. Every (Nested u) ts) ts

-- a step is accepted exactly while two or more maximal clusters are active, and changes nothing otherwise
abbrev pub AcceptedExactly : Net → ℕ → Type 0
AcceptedExactly net k =
    (2 ≤ active_count (grow net k) → (grow net (suc k)).steps ≡ (grow net k).steps + 1)
    × (active_count (grow net k) < 2 → grow net (suc k) ≡ grow net k)

-- with n nodes, n at least 1: no more than 2n - 2 steps are accepted; growth has ended after so many, and after so many were asked for
abbrev pub EndsInTime : Net → ℕ → Type 0
EndsInTime net k = 1 ≤ node_count net →
    ((grow net k).steps ≤ 2 * node_count net - 2)
    × (2 * node_count net - 2 ≤ (grow net k).steps → ended (grow net k) ≡ true)
    × (2 * node_count net - 2 ≤ k → ended (grow net k) ≡ true)

-- of any family that respects both limits, and any bound on the depth of a node of a tree: the tree's cost and lost prizes, doubled, with that bound, are no less than all the moats
abbrev pub LowerBoundAny : Type 0
LowerBoundAny = (net : Net) (ts : List Slot) → Shared (node_count net) ts → EdgeLoads net ts → InnerMoats net ts →
    (N E : ℕ → Bool) → Tree net N E → (v t : ℕ) → N v ≡ true → depth ts v ≤ t →
    over_all moat ts ≤ 2 * (tree_cost net E + lost net N) + t

-- the lower bound of growth: every tree's cost and lost prizes, doubled, are no less
abbrev pub EveryTreeAtLeast : Net → ℕ → Type 0
EveryTreeAtLeast net k = (N E : ℕ → Bool) → Tree net N E → lower_bound (grow net k) ≤ 2 * (tree_cost net E + lost net N)

-- a plan's answers are those of its marks
pub record Answers (net : Net) (p : Plan) : Type 0 where
  pub cost_is : p.plan_cost ≡ tree_cost net (marked p.edge_marks)
  pub lost_is : p.plan_lost ≡ lost net (marked p.node_marks)
  pub nodes_marked : length p.node_marks ≡ node_count net
  pub edges_marked : length p.edge_marks ≡ edge_count net

-- a plan's marks make a tree, and its answers are theirs
abbrev pub PlanTree : Net → Plan → Type 0
PlanTree net p = Tree net (marked p.node_marks) (marked p.edge_marks) × Answers net p

-- pruning has gone on to the end: no cluster is prunable any more
abbrev pub PrunedOut : Net → State → Type 0
PrunedOut net st = Every (λ u. prunable net (edges_within net st.slots (pruned net st.slots)) u ≡ false) st.slots

-- the plan's cost with twice its lost prizes is within the lower bound in half units: within twice the bound
abbrev pub WithinTwice : Net → State → Type 0
WithinTwice net st = (plan net st).plan_cost + 2 * (plan net st).plan_lost ≤ lower_bound st

-- so it is within twice the cost with lost prizes of every tree
abbrev pub TwiceEveryTree : Net → State → Type 0
TwiceEveryTree net st = (N E : ℕ → Bool) → Tree net N E → (plan net st).plan_cost + 2 * (plan net st).plan_lost ≤ 2 * (tree_cost net E + lost net N)

-- the grown tree hung from its lowest-numbered node, with the equation of net worths; the node of greatest net worth, the lowest-numbered among equals; and what stays below it
pub record HungTree (net : Net) (ts : List Slot) : Type 0 where
  pub root_in : grown_node ts (root_of net ts) ≡ true
  pub root_lowest : (v : ℕ) → grown_node ts v ≡ true → root_of net ts ≤ v
  pub hangs : Hang net (grown_edge net ts) (root_of net ts) (branches net ts)
  pub nodes : (v : ℕ) → hung (root_of net ts) (branches net ts) v ≡ grown_node ts v
  pub edges : (s : ℕ) → lists (branches net ts) s ≡ grown_edge net ts s
  pub worth : (v : ℕ) → net_worth net ts v ≡ prize net v + sum_of (λ b. cond (v == b.parent) (net_worth net ts b.child - cost net b.edge) 0) (branches net ts)
  pub best_in : grown_node ts (best_node net ts) ≡ true
  pub best : (v : ℕ) → grown_node ts v ≡ true → net_worth net ts v ≤ net_worth net ts (best_node net ts)
  pub best_lowest : (v : ℕ) → grown_node ts v ≡ true → net_worth net ts v ≡ net_worth net ts (best_node net ts) → best_node net ts ≤ v
  pub best_kept : strong_nodes net ts (best_node net ts) ≡ true
  pub branches_kept : AllByRecursion (λ b. strong_nodes net ts b.child ≡ (b.child == best_node net ts || (strong_nodes net ts b.parent && nat_lt (cost net b.edge) (net_worth net ts b.child)))) (branches net ts)

-- the strong plan is a tree cut from the grown tree
abbrev pub StrongTree : Net → State → Type 0
StrongTree net st =
    PlanTree net (strong_plan net st)
    × Cut (marked (strong_plan net st).node_marks) (marked (strong_plan net st).edge_marks) (grown_node st.slots) (grown_edge net st.slots)

-- and no tree cut from the grown tree has a smaller cost with lost prizes
abbrev pub StrongBest : Net → State → Type 0
StrongBest net st = (N E : ℕ → Bool) → Tree net N E → Cut N E (grown_node st.slots) (grown_edge net st.slots) →
    (strong_plan net st).plan_cost + (strong_plan net st).plan_lost ≤ tree_cost net E + lost net N

-- the slack of an edge between two active maximal clusters is even
abbrev pub EvenSlack : Net → State → Type 0
EvenSlack net st = (s : ℕ) → s < edge_count net → maximal_of st.slots (first_end net s) ≢ maximal_of st.slots (second_end net s) →
    active_at st.slots (maximal_of st.slots (first_end net s)) ≡ true → active_at st.slots (maximal_of st.slots (second_end net s)) ≡ true → slack net st.slots s % 2 ≡ 0

-- the greatest sum of doubled prizes: 256 times 2,000,000,000
abbrev pub most_prizes : ℕ
most_prizes = 512000000000

-- the latest due time: that with the greatest doubled cost
abbrev pub most_due : ℕ
most_due = 514000000000

-- how large numbers get, all far below 2^63, and that no difference is cut off at 0
pub record Small (net : Net) (st : State) : Type 0 where
  pub clusters : length st.slots ≤ 511
  pub time : st.time ≤ most_prizes
  pub depths : (v : ℕ) → depth st.slots v ≤ st.time
  pub inners : Every (λ u. (moat u ≤ inner u) × (inner u ≤ over (doubled_prize net) u) × (over (doubled_prize net) u ≤ most_prizes)) st.slots
  pub surpluses : (c : ℕ) (t : Cluster) → slice_index_or st.slots c inside ≡ maximal t → inner t ≤ over (doubled_prize net) t
  pub slacks : (s : ℕ) → s < edge_count net → maximal_of st.slots (first_end net s) ≢ maximal_of st.slots (second_end net s) →
      depth st.slots (first_end net s) + depth st.slots (second_end net s) ≤ doubled_cost net s
  pub moats : total st ≤ most_prizes
  pub ahead : st.time ≤ total st
  pub table : length (due_times net st.time st.slots) ≡ 1535
  pub dues : (j t : ℕ) → slice_index_or (due_times net st.time st.slots) j None ≡ Some t → (st.time ≤ t) × (t ≤ most_due)

-- an accepted step at the earliest entry changes only the due times of the event's clusters and of the edges at them
pub record DueKept (net : Net) (st : State) (k : ℕ) : Type 0 where
  pub clusters : (c : ℕ) → c < 511 → among c (event_clusters net st.slots k) ≡ false →
      slice_index_or (due_times net (step net st).time (step net st).slots) c None ≡ slice_index_or (due_times net st.time st.slots) c None
  pub edges : (s : ℕ) → s < 1024 → among (maximal_of st.slots (first_end net s)) (event_clusters net st.slots k) ≡ false → among (maximal_of st.slots (second_end net s)) (event_clusters net st.slots k) ≡ false →
      slice_index_or (due_times net (step net st).time (step net st).slots) (511 + s) None ≡ slice_index_or (due_times net st.time st.slots) (511 + s) None

-- of every valid network and every number of steps
abbrev pub Always : (Net → ℕ → Type 0) → Type 0
Always P = (net : Net) → valid net ≡ true → (k : ℕ) → P net k

-- of growth that has ended, with a node at least
abbrev pub AtEnd : (Net → State → Type 0) → Net → ℕ → Type 0
AtEnd P net k = 1 ≤ node_count net → ended (grow net k) ≡ true → P net (grow net k)

-- the laws of a network after k steps
pub record Laws (net : Net) (k : ℕ) : Type 0 where
  pub laminar : Laminar (grow net k).slots
  pub edge_loads : EdgeLoads net (grow net k).slots
  pub inner_moats : InnerMoats net (grow net k).slots
  pub accepted_exactly : AcceptedExactly net k
  pub ends_in_time : EndsInTime net k
  pub even_slack : EvenSlack net (grow net k)
  pub small_numbers : Small net (grow net k)
  pub every_tree_at_least : EveryTreeAtLeast net k
  pub plan_is_a_tree : AtEnd (λ n st. PlanTree n (plan n st)) net k
  pub plan_within_twice : AtEnd WithinTwice net k
  pub strong_plan_is_a_tree : AtEnd StrongTree net k
  pub strong_plan_best : AtEnd StrongBest net k
  pub net_worths : AtEnd (λ n st. HungTree n st.slots) net k

-- each law by itself, of every valid network and every number of steps
abbrev pub LaminarHolds : Type 0
LaminarHolds = Always (λ net k. Laminar (grow net k).slots)

-- a family as the lower bound asks for
abbrev pub NodesShared : Type 0
NodesShared = Always (λ net k. Shared (node_count net) (grow net k).slots)

abbrev pub EdgeLoadsHold : Type 0
EdgeLoadsHold = Always (λ net k. EdgeLoads net (grow net k).slots)

abbrev pub InnerMoatsHold : Type 0
InnerMoatsHold = Always (λ net k. InnerMoats net (grow net k).slots)

abbrev pub AcceptedExactlyHolds : Type 0
AcceptedExactlyHolds = Always AcceptedExactly

abbrev pub EndsInTimeHolds : Type 0
EndsInTimeHolds = Always EndsInTime

abbrev pub SlackIsEven : Type 0
SlackIsEven = Always (λ net k. EvenSlack net (grow net k))

abbrev pub NumbersStaySmall : Type 0
NumbersStaySmall = Always (λ net k. Small net (grow net k))

abbrev pub LowerBoundHolds : Type 0
LowerBoundHolds = Always EveryTreeAtLeast

abbrev pub PlanIsATree : Type 0
PlanIsATree = Always (AtEnd (λ net st. PlanTree net (plan net st)))

abbrev pub PruningEnds : Type 0
PruningEnds = Always (AtEnd PrunedOut)

abbrev pub PlanWithinTwice : Type 0
PlanWithinTwice = Always (AtEnd WithinTwice)

abbrev pub PlanAgainstEveryTree : Type 0
PlanAgainstEveryTree = Always (AtEnd TwiceEveryTree)

abbrev pub GrownTreeHangs : Type 0
GrownTreeHangs = Always (AtEnd (λ net st. HungTree net st.slots))

abbrev pub StrongPlanIsATree : Type 0
StrongPlanIsATree = Always (AtEnd StrongTree)

abbrev pub StrongPlanBest : Type 0
StrongPlanBest = Always (AtEnd StrongBest)

abbrev pub DueTimesKept : Type 0
DueTimesKept = Always (λ net k. (time number : ℕ) → ended (grow net k) ≡ false →
    earliest (due_times net (grow net k).time (grow net k).slots) ≡ Some (time, number) → DueKept net (grow net k) number)

-- all of them together
abbrev pub LawsHold : Type 0
LawsHold = Always Laws
