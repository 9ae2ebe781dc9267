-- The laws' hypotheses are met: the chain of the worked networks, before its first step and at its end.
use Rattle.std.specs.Prelude.{◌≡◌, ◌+◌, ◌*◌, true, false, Some, None, slice_index_or}
use Rattle.network.specs.Nets.{Net, valid}
use Rattle.theory.specs.Nets.{first_end, second_end}
use Rattle.theory.specs.Trees.{Tree}
use Rattle.theory.specs.Due.{earliest, maximal_of, active_at, slack, due_times, among, event_clusters}
use Rattle.theory.specs.Growth.{start, ended, grow, lower_bound}
use Rattle.theory.specs.Prune.{marked, plan}
use Rattle.theory.specs.Worked.{chain}

-- the chain
abbrev pub net : Net
net = chain.network

-- before the first step the earliest entry is cluster 0's at 2, edge 0 has an even slack between two active clusters, and cluster 3 is due away from the event
pub record AtStart : Type 0 where
  pub entered : valid net ≡ true
  pub going_on : ended (start net) ≡ false
  pub first_event : earliest (due_times net 0 (start net).slots) ≡ Some (2, 0)
  pub two_active : (active_at (start net).slots 0 ≡ true) × (active_at (start net).slots 1 ≡ true)
  pub between : (maximal_of (start net).slots (first_end net 0) ≡ 0) × (maximal_of (start net).slots (second_end net 0) ≡ 1)
  pub even_slack : slack net (start net).slots 0 ≡ 12
  pub away : (among 3 (event_clusters net (start net).slots 0) ≡ false) × (slice_index_or (due_times net 0 (start net).slots) 3 None ≡ Some 200)

-- after six steps growth has ended; the plan is one of the trees that the lower bound speaks of, and meets the bound of twice exactly
pub record AtFinish : Type 0 where
  pub over : ended (grow net 6) ≡ true
  pub bound : lower_bound (grow net 6) ≡ 100
  pub a_tree : Tree net (marked (plan net (grow net 6)).node_marks) (marked (plan net (grow net 6)).edge_marks)
  pub exactly : (plan net (grow net 6)).plan_cost + 2 * (plan net (grow net 6)).plan_lost ≡ lower_bound (grow net 6)

-- both moments of the chain
abbrev pub LawsNotEmpty : Type 0
LawsNotEmpty = AtStart × AtFinish
