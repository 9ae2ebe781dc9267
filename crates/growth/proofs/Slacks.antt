-- Slacks and due times of edges, from tables that show a state of growth.
use Rattle.std.proofs.Common.{◌≡◌, ℕ, ◌+◌, ◌-◌, ◌*◌, ◌^◌, ◌<◌, ◌≤◌, eqb, ◌≢◌, None, sym, ap, ◌∙◌, arith}
use Rattle.std.proofs.lemmas.Bool.{cond-false, ne_eqb}
use Rattle.network.specs.Nets.{Net}
use Rattle.theory.specs.Clusters.{depth}
use Rattle.theory.specs.Nets.{node_count, edge_count, first_end, second_end, cost}
use Rattle.theory.specs.Due.{maximal_of, active_at, slack_due, edge_due}
use Rattle.theory.specs.Growth.{State}
use Rattle.theory.specs.ByNumber.{Formed}
use Rattle.theory.specs.Laws.{Small}
use Rattle.theory.proofs.Table.{edge_due_none}
use Rattle.theory.proofs.Valid.{Fine}
use Rattle.growth.specs.NodeTables.{grows_at, cluster_at, depth_at}
use Rattle.growth.specs.Shown.{ShowsAll}
use Rattle.growth.specs.declared.tables.Tables.{Tables}
use Rattle.growth.proofs.Growing.{grows_shown}

-- the cluster of a node, in the tables
abbrev pub in_cluster : Tables → ℕ → ℕ
in_cluster t v = cluster_at t.nodes.list v

-- the depths of two nodes, in the tables
abbrev pub depths_at : Tables → ℕ → ℕ → ℕ
depths_at t f g = depth_at t.nodes.list f + depth_at t.nodes.list g

-- what the tables say of the edge s with ends f and g and cost k
pub record Between (net : Net) (t : Tables) (st : State) (s f g k : ℕ) : Type 0 where
  pub fits : (depths_at t f g < 2 ^ 63) × (t.time < 2 ^ 63) × (2 * k < 2 ^ 63)
  pub one : in_cluster t f ≡ in_cluster t g → edge_due net st.time st.slots s ≡ None
  pub within : in_cluster t f ≢ in_cluster t g → depths_at t f g ≤ 2 * k
  pub due : in_cluster t f ≢ in_cluster t g → slack_due (grows_at t.family.clusters (in_cluster t f)) (grows_at t.family.clusters (in_cluster t g)) t.time (2 * k - depths_at t f g) ≡ edge_due net st.time st.slots s

module _ (net : Net) (t : Tables) (st : State) (fine : Fine net) (formed : Formed (node_count net) st.slots) (small : Small net st) (shows : ShowsAll net t st) where
  module _ (s f g k : ℕ) (l : s < edge_count net) (first : f ≡ first_end net s) (second : g ≡ second_end net s) (costs : k ≡ cost net s) where
    first_in : in_cluster t f ≡ maximal_of st.slots (first_end net s)
    first_in = ap (in_cluster t) first ∙ shows.shown.memberships (first_end net s) (fine.firsts s l)

    second_in : in_cluster t g ≡ maximal_of st.slots (second_end net s)
    second_in = ap (in_cluster t) second ∙ shows.shown.memberships (second_end net s) (fine.seconds s l)

    deep : depths_at t f g ≡ depth st.slots (first_end net s) + depth st.slots (second_end net s)
    deep =
        let a = ap (λ v. depth_at t.nodes.list v) first ∙ shows.shown.deep (first_end net s) (fine.firsts s l) in
        let b = ap (λ v. depth_at t.nodes.list v) second ∙ shows.shown.deep (second_end net s) (fine.seconds s l) in
        λ i. a i + b i

    apart : in_cluster t f ≢ in_cluster t g → maximal_of st.slots (first_end net s) ≢ maximal_of st.slots (second_end net s)
    apart ne e = ne (first_in ∙ e ∙ sym second_in)

    shown : slack_due (grows_at t.family.clusters (in_cluster t f)) (grows_at t.family.clusters (in_cluster t g)) t.time (2 * k - depths_at t f g)
        ≡ slack_due (active_at st.slots (maximal_of st.slots (first_end net s))) (active_at st.slots (maximal_of st.slots (second_end net s))) st.time (2 * cost net s - (depth st.slots (first_end net s) + depth st.slots (second_end net s)))
    shown =
        let a = grows_shown net t st formed shows (in_cluster t f) ∙ ap (active_at st.slots) first_in in
        let b = grows_shown net t st formed shows (in_cluster t g) ∙ ap (active_at st.slots) second_in in
        λ i. slack_due (a i) (b i) (shows.shown.time i) (2 * costs i - deep i)

    pub between : Between net t st s f g k
    between = record {
      fits =
          let a = small.depths (first_end net s) in
          let b = small.depths (second_end net s) in
          let c = small.time in
          let d = deep in
          let e = shows.shown.time in
          let h = fine.costs s in
          (omega arith, omega arith, omega arith);
      one = λ e. edge_due_none net st.time st.slots s (sym first_in ∙ e ∙ second_in);
      within = λ ne. let a = deep in let b = small.slacks s l (apart ne) in omega arith;
      due = λ ne. shown
          ∙ sym (cond-false (eqb (maximal_of st.slots (first_end net s)) (maximal_of st.slots (second_end net s))) None _ (ne_eqb (maximal_of st.slots (first_end net s)) (maximal_of st.slots (second_end net s)) (apart ne)));
    }
