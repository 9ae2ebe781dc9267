-- The laws, for every valid network and every number of steps.
use Rattle.std.proofs.Common.{◌≤◌, arith}
use Rattle.theory.specs.Nets.{doubled_prize, node_count}
use Rattle.theory.specs.Clusters.{over, inner}
use Rattle.theory.specs.Growth.{grow}
use Rattle.theory.specs.Laws.{PruningEnds, PlanAgainstEveryTree, LaminarHolds, NodesShared, EdgeLoadsHold, InnerMoatsHold, AcceptedExactlyHolds, EndsInTimeHolds, SlackIsEven, NumbersStaySmall, DueTimesKept, LowerBoundAny, LowerBoundHolds, PlanIsATree, PlanWithinTwice, GrownTreeHangs, StrongPlanIsATree, StrongPlanBest, LawsHold}
use Rattle.theory.specs.ByNumber.{StartByNumber, FormedByNumber, StepByNumber}
use Rattle.theory.proofs.Families.{every_weaker}
use Rattle.theory.proofs.Invariant.{Made}
use Rattle.theory.proofs.Valid.{fine}
use Rattle.theory.proofs.Runs as Runs
use Rattle.theory.proofs.Runs.{kept}
use Rattle.theory.proofs.Laminar.{laminar}
use Rattle.theory.proofs.Bounds.{small, even, tree_at_least}
use Rattle.theory.proofs.Lower.{lower_any}
use Rattle.theory.proofs.Unchanged as Unchanged
use Rattle.theory.proofs.Numbers.{numbered}
use Rattle.theory.proofs.Formed as Formed
use Rattle.theory.proofs.Formed.{ordered}
use Rattle.theory.proofs.Stepping.{stepped}
use Rattle.theory.proofs.Plan as Plan
use Rattle.theory.proofs.Strong as Strong

pub laminar_holds : LaminarHolds
laminar_holds net v k = laminar (node_count net) (grow net k).slots (kept net (fine net v) k).shared

pub nodes_shared : NodesShared
nodes_shared net v k = (kept net (fine net v) k).shared

pub edge_loads_hold : EdgeLoadsHold
edge_loads_hold net v k = (kept net (fine net v) k).loads

pub inner_moats_hold : InnerMoatsHold
inner_moats_hold net v k = every_weaker (Made net) (λ u. inner u ≤ over (doubled_prize net) u) (λ u m. m.0) (grow net k).slots (kept net (fine net v) k).made

pub accepted_exactly_holds : AcceptedExactlyHolds
accepted_exactly_holds net v k = Runs.accepted_exactly net (fine net v) k

pub ends_in_time_holds : EndsInTimeHolds
ends_in_time_holds net v k = Runs.ends_in_time net (fine net v) k

pub slack_is_even : SlackIsEven
slack_is_even net v k = even net (fine net v) k

pub numbers_stay_small : NumbersStaySmall
numbers_stay_small net v k = small net (fine net v) k

pub due_times_kept : DueTimesKept
due_times_kept net v k = Unchanged.due_times_kept net (fine net v) k

pub lower_bound_any : LowerBoundAny
lower_bound_any = lower_any

pub lower_bound_holds : LowerBoundHolds
lower_bound_holds net v k = tree_at_least net (fine net v) k

pub plan_is_a_tree : PlanIsATree
plan_is_a_tree net v k = Plan.plan_is_a_tree net (fine net v) k

pub pruning_ends : PruningEnds
pruning_ends net v k = Plan.pruning_ends net (fine net v) k

pub plan_within_twice : PlanWithinTwice
plan_within_twice net v k = Plan.plan_within_twice net (fine net v) k

pub plan_against_every_tree : PlanAgainstEveryTree
plan_against_every_tree net v k some over' N E tree =
    let a = plan_within_twice net v k some over' in
    let b = lower_bound_holds net v k N E tree in
    omega arith

pub grown_tree_hangs : GrownTreeHangs
grown_tree_hangs net v k = Strong.grown_hung net (fine net v) k

pub strong_plan_is_a_tree : StrongPlanIsATree
strong_plan_is_a_tree net v k = Strong.strong_plan_is_a_tree net (fine net v) k

pub strong_plan_best : StrongPlanBest
strong_plan_best net v k = Strong.strong_plan_best net (fine net v) k

pub start_by_number : StartByNumber
start_by_number = Formed.start_by_number

pub formed_by_number : FormedByNumber
formed_by_number net v k = Formed.formed (node_count net) (grow net k).slots (kept net (fine net v) k).shared (numbered net (fine net v) k) (ordered net (fine net v) k)

pub step_by_number : StepByNumber
step_by_number net v k = stepped net (fine net v) k

pub laws_hold : LawsHold
laws_hold net v k = record {
  laminar = laminar_holds net v k;
  edge_loads = edge_loads_hold net v k;
  inner_moats = inner_moats_hold net v k;
  accepted_exactly = accepted_exactly_holds net v k;
  ends_in_time = ends_in_time_holds net v k;
  even_slack = slack_is_even net v k;
  small_numbers = numbers_stay_small net v k;
  every_tree_at_least = lower_bound_holds net v k;
  plan_is_a_tree = plan_is_a_tree net v k;
  plan_within_twice = plan_within_twice net v k;
  strong_plan_is_a_tree = strong_plan_is_a_tree net v k;
  strong_plan_best = strong_plan_best net v k;
  net_worths = grown_tree_hangs net v k;
}
