-- Worked networks: small networks with their events, moats, lower bound and both plans, as one table.
use Rattle.std.specs.Prelude.{◌≡◌, ℕ, zero, suc, ◌*◌, true, false, List, [], ◌∷◌, map, replicate, Some, None, Option}
use Rattle.network.specs.Nets.{Net, link}
use Rattle.worklist.specs.WorkLists.{work_list}
use Rattle.theory.specs.Nets.{node_count, edge_count}
use Rattle.theory.specs.Due.{earliest, due_times}
use Rattle.theory.specs.Growth.{State, start, ended, step, total, lower_bound}
use Rattle.theory.specs.Prune.{Plan, plan}
use Rattle.theory.specs.Prune.Coverage.{whole, alone, part}
use Rattle.theory.specs.Strong.{strong_plan}

-- what growth to the end gives: the events, each as time and number, the accepted steps, the total of moats, the lower bound, both plans; and the work list of all edges
pub record Outcome : Type 0 where
  pub events : List (ℕ × ℕ)
  pub steps : ℕ
  pub moats : ℕ
  pub bound : ℕ
  pub pruned : Plan
  pub strong : Plan
  pub all_listed : List ℕ

-- one event more
abbrev pub event : Option (ℕ × ℕ) → List (ℕ × ℕ) → List (ℕ × ℕ)
event None es = es
event (Some e) es = e ∷ es

-- the outcome of a state, after the events es
abbrev pub outcome_at : List (ℕ × ℕ) → Net → State → Outcome
outcome_at es net st = record { events = es; steps = st.steps; moats = total st; bound = lower_bound st; pruned = plan net st; strong = strong_plan net st; all_listed = work_list net (replicate (edge_count net) 1) }

-- grows on from a state, at most k steps, after the events es, the last first
abbrev pub outcome_from : ℕ → List (ℕ × ℕ) → Net → State → Outcome
outcome_from zero es net st = outcome_at es net st
outcome_from (suc k) es net st = elim (ended st) [
  | true ↦ outcome_at es net st
  | false ↦ outcome_from k (event (earliest (due_times net st.time st.slots)) es) net (step net st)
]

-- growth to the end; the last event stands first
abbrev pub outcome : Net → Outcome
outcome net = outcome_from (2 * node_count net) [] net (start net)

-- a network and what comes out
pub record Row : Type 0 where
  pub network : Net
  pub comes_out : Outcome

-- the codes A1, A2, A10 and B1
abbrev A1 : List ℕ
A1 = 65 ∷ 49 ∷ []

abbrev A2 : List ℕ
A2 = 65 ∷ 50 ∷ []

abbrev A10 : List ℕ
A10 = 65 ∷ 49 ∷ 48 ∷ []

abbrev B1 : List ℕ
B1 = 66 ∷ 49 ∷ []

-- one node: no step
abbrev pub one_node : Row
one_node = record {
  network = record { prizes = 7 ∷ []; edges = [] };
  comes_out = record {
    events = [];
    steps = 0;
    moats = 0;
    bound = 0;
    pruned = record { node_marks = 1 ∷ []; edge_marks = []; plan_cost = 0; plan_lost = 0; status = whole };
    strong = record { node_marks = 1 ∷ []; edge_marks = []; plan_cost = 0; plan_lost = 0; status = whole };
    all_listed = [];
  };
}

-- two nodes and no edge
abbrev pub two_apart : Row
two_apart = record {
  network = record { prizes = 5 ∷ 8 ∷ []; edges = [] };
  comes_out = record {
    events = (10, 0) ∷ [];
    steps = 1;
    moats = 20;
    bound = 10;
    pruned = record { node_marks = 0 ∷ 1 ∷ []; edge_marks = []; plan_cost = 0; plan_lost = 5; status = alone };
    strong = record { node_marks = 0 ∷ 1 ∷ []; edge_marks = []; plan_cost = 0; plan_lost = 5; status = alone };
    all_listed = [];
  };
}

-- two nodes and an edge of cost c
abbrev pub pair_of : ℕ → ℕ → ℕ → Net
pair_of p q c = record { prizes = p ∷ q ∷ []; edges = link 0 1 c A1 ∷ [] }

-- the edge merges them at 5: in whole units that would be two and a half
abbrev pub merged_pair : Row
merged_pair = record {
  network = pair_of 10 3 5;
  comes_out = record {
    events = (5, 511) ∷ [];
    steps = 1;
    moats = 10;
    bound = 5;
    pruned = record { node_marks = 1 ∷ 1 ∷ []; edge_marks = 1 ∷ []; plan_cost = 5; plan_lost = 0; status = whole };
    strong = record { node_marks = 1 ∷ 0 ∷ []; edge_marks = 0 ∷ []; plan_cost = 0; plan_lost = 3; status = alone };
    all_listed = 0 ∷ [];
  };
}

-- at a cost of 6 node 1 becomes inactive first
abbrev pub dearer_pair : Row
dearer_pair = record {
  network = pair_of 10 3 6;
  comes_out = record {
    events = (6, 1) ∷ [];
    steps = 1;
    moats = 12;
    bound = 6;
    pruned = record { node_marks = 1 ∷ 0 ∷ []; edge_marks = 0 ∷ []; plan_cost = 0; plan_lost = 3; status = alone };
    strong = record { node_marks = 1 ∷ 0 ∷ []; edge_marks = 0 ∷ []; plan_cost = 0; plan_lost = 3; status = alone };
    all_listed = 0 ∷ [];
  };
}

-- equal times: the cluster goes before the edge
abbrev pub free_pair : Row
free_pair = record {
  network = pair_of 0 4 0;
  comes_out = record {
    events = (0, 0) ∷ [];
    steps = 1;
    moats = 0;
    bound = 0;
    pruned = record { node_marks = 0 ∷ 1 ∷ []; edge_marks = 0 ∷ []; plan_cost = 0; plan_lost = 0; status = whole };
    strong = record { node_marks = 0 ∷ 1 ∷ []; edge_marks = 0 ∷ []; plan_cost = 0; plan_lost = 0; status = whole };
    all_listed = 0 ∷ [];
  };
}

-- a chain of five nodes: pruning from the last cluster to the first, once, would keep nodes 1 and 2
abbrev pub chain : Row
chain = record {
  network = record { prizes = 1 ∷ 2 ∷ 2 ∷ 100 ∷ 100 ∷ []; edges = link 0 1 6 A1 ∷ link 1 2 2 A2 ∷ link 2 3 10 B1 ∷ link 3 4 90 A10 ∷ [] };
  comes_out = record {
    events = (90, 514) ∷ (18, 511) ∷ (14, 513) ∷ (6, 5) ∷ (2, 512) ∷ (2, 0) ∷ [];
    steps = 6;
    moats = 190;
    bound = 100;
    pruned = record { node_marks = 0 ∷ 0 ∷ 0 ∷ 1 ∷ 1 ∷ []; edge_marks = 0 ∷ 0 ∷ 0 ∷ 1 ∷ []; plan_cost = 90; plan_lost = 5; status = part };
    strong = record { node_marks = 0 ∷ 0 ∷ 0 ∷ 1 ∷ 1 ∷ []; edge_marks = 0 ∷ 0 ∷ 0 ∷ 1 ∷ []; plan_cost = 90; plan_lost = 5; status = part };
    all_listed = 0 ∷ 3 ∷ 1 ∷ 2 ∷ [];
  };
}

-- three edges of a ring and a hub of prize 0
abbrev pub ring_and_hub : Row
ring_and_hub = record {
  network = record {
    prizes = 15 ∷ 15 ∷ 15 ∷ 15 ∷ 0 ∷ [];
    edges = link 0 1 20 A1 ∷ link 1 2 20 A1 ∷ link 2 3 20 A1 ∷ link 4 0 11 A1 ∷ link 4 1 11 A1 ∷ link 4 2 11 A1 ∷ link 4 3 11 A1 ∷ [];
  };
  comes_out = record {
    events = (20, 513) ∷ (20, 512) ∷ (20, 511) ∷ (0, 4) ∷ [];
    steps = 4;
    moats = 80;
    bound = 60;
    pruned = record { node_marks = 1 ∷ 1 ∷ 1 ∷ 1 ∷ 0 ∷ []; edge_marks = 1 ∷ 1 ∷ 1 ∷ 0 ∷ 0 ∷ 0 ∷ 0 ∷ []; plan_cost = 60; plan_lost = 0; status = whole };
    strong = record { node_marks = 1 ∷ 0 ∷ 0 ∷ 0 ∷ 0 ∷ []; edge_marks = 0 ∷ 0 ∷ 0 ∷ 0 ∷ 0 ∷ 0 ∷ 0 ∷ []; plan_cost = 0; plan_lost = 45; status = alone };
    all_listed = 0 ∷ 1 ∷ 2 ∷ 3 ∷ 4 ∷ 5 ∷ 6 ∷ [];
  };
}

-- the table
abbrev pub worked : List Row
worked = one_node ∷ two_apart ∷ merged_pair ∷ dearer_pair ∷ free_pair ∷ chain ∷ ring_and_hub ∷ []

-- each network comes out as its row says
abbrev pub WorkedNetworks : Type 0
WorkedNetworks = map (λ row. outcome row.network) worked ≡ map (λ row. row.comes_out) worked
