-- What a step computes fits its types, and what it reads is there.
use Rattle.std.proofs.Common.{◌≡◌, ℕ, suc, ◌+◌, ◌-◌, ◌*◌, ◌^◌, ◌<◌, ◌≤◌, true, false, cond, ltb, List, length, get_or, Some, sym, ap, ◌∙◌, ⊎_elim, arith}
use Rattle.std.proofs.lemmas.Bool.{cases_lt, cond-false, le-ltb}
use Rattle.network.specs.Nets.{Net, valid}
use Rattle.theory.specs.Nets.{node_count, first_end, second_end, doubled_prize}
use Rattle.theory.specs.Clusters.{Cluster, Slot, Deep, Every, moat, inner, over}
use Rattle.theory.specs.Due.{earliest, due_times, maximal_of}
use Rattle.theory.specs.Numbers.{cluster_of, told, moat_of}
use Rattle.theory.specs.Growth.{ended, step, grow}
use Rattle.theory.specs.Laws.{Small, most_prizes}
use Rattle.theory.specs.ByNumber.{Formed, Stepped}
use Rattle.theory.proofs.Laws.{formed_by_number, step_by_number, numbers_stay_small}
use Rattle.theory.proofs.Inside.{deep_inside}
use Rattle.theory.proofs.Numbers.{cluster_of_in}
use Rattle.theory.proofs.Runs.{counted}
use Rattle.theory.proofs.Slots.{maximal_all}
use Rattle.theory.proofs.Valid.{fine}
use Rattle.growth.specs.Records.{vacant}
use Rattle.growth.specs.Events.{growing}
use Rattle.growth.specs.Shown.{ShowsAll}
use Rattle.growth.specs.declared.tables.Tables.{Tables}
use Rattle.growth.proofs.Counting.{growing_count}
use Rattle.growth.proofs.Entries.{entered, edge_known}
use Rattle.growth.specs.NodeTables.{cluster_at, depth_at}

-- what holds of every cluster holds of the one of a number
pub every_at : (P : Cluster → Type 0) (ts : List Slot) → Every P ts → (c : ℕ) (u : Cluster) → cluster_of ts c ≡ Some u → P u
every_at P ts every c u e =
    let f = cluster_of_in ts c u e in
    deep_inside P f.3 (maximal_all (Deep P) ts f.0 f.1 every f.2)

module _ (net : Net) (v : valid net ≡ true) (k : ℕ) (t : Tables) (shows : ShowsAll net t (grow net k)) where
  formed : Formed (node_count net) (grow net k).slots
  formed = formed_by_number net v k

  small : Small net (grow net k)
  small = numbers_stay_small net v k

  pub steps_small : t.steps ≤ 512
  steps_small = let a = (counted net (fine net v) k).falls in let few = (fine net v).few_nodes in let e = shows.shown.steps in omega arith

  pub moat_small : (c : ℕ) → (get_or t.family.clusters c vacant).moat ≤ most_prizes
  moat_small c = ⊎_elim
      (λ l. let u = formed.clusters c l in
      let s = every_at (λ u. (moat u ≤ inner u) × (inner u ≤ over (doubled_prize net) u) × (over (doubled_prize net) u ≤ most_prizes)) (grow net k).slots small.inners c u.0 u.1 in
      let e : moat_of (grow net k).slots c ≡ moat u.0 = ap (told moat 0) u.1 in
      let r : (get_or t.family.clusters c vacant).moat ≡ moat_of (grow net k).slots c = ap (λ r. r.moat) (shows.shown.records c l) in
      omega arith)
      (λ l. let r : (get_or t.family.clusters c vacant).moat ≡ 0 = ap (λ r. r.moat) (shows.vacants c l) in omega arith)
      (cases_lt c (length (grow net k).slots))

  module _ (to number : ℕ) (going : ended (grow net k) ≡ false) (is : earliest (due_times net (grow net k).time (grow net k).slots) ≡ Some (to, number)) where
    stepped : Stepped net (grow net k) (step net (grow net k)) to number
    stepped = step_by_number net v k to number going is

    next_small : Small net (step net (grow net k))
    next_small = numbers_stay_small net v (suc k)

    pub later : t.time ≤ to
    later = let a = stepped.later in let e = shows.shown.time in omega arith

    to_small : to ≤ 514000000000
    to_small = (small.dues number to (entered net (fine net v) (grow net k).time (grow net k).slots to number is)).1

    pub moats_fit : (c : ℕ) → (get_or t.family.clusters c vacant).moat + (to - t.time) < 2 ^ 64
    moats_fit c = let a = moat_small c in let b = to_small in omega arith

    pub depths_fit : (w : ℕ) → w < node_count net → depth_at t.nodes.list w + (to - t.time) < 2 ^ 64
    depths_fit w l = let a = shows.shown.deep w l in let b = small.depths w in let d = small.time in let e = to_small in omega arith

    pub total_fits : t.total + (to - t.time) * growing t.family.clusters < 2 ^ 64
    total_fits =
        let a : t.total + (to - t.time) * growing t.family.clusters ≡ _ = (λ i. shows.shown.moats i + (to - shows.shown.time i) * growing_count net t (grow net k) formed shows i) ∙ sym stepped.moats_total in
        let b = next_small.moats in
        omega arith

    pub room : 511 ≤ number → length (grow net k).slots < 511
    room high =
        let e = stepped.count in
        let z : ◌≡◌ {A = ℕ} (cond (ltb number 511) 0 1) 1 = cond-false (ltb number 511) 0 1 (le-ltb number 511 high) in
        let s = next_small.clusters in
        omega arith

    -- the merging edge's ends are entered, and the table has their maximal clusters
    first_known : 511 ≤ number → first_end net (number - 511) < node_count net
    first_known high = (fine net v).firsts (number - 511) (edge_known net (fine net v) (grow net k).time (grow net k).slots to number is high)

    second_known : 511 ≤ number → second_end net (number - 511) < node_count net
    second_known high = (fine net v).seconds (number - 511) (edge_known net (fine net v) (grow net k).time (grow net k).slots to number is high)

    pub first_is : 511 ≤ number → cluster_at t.nodes.list (first_end net (number - 511)) ≡ maximal_of (grow net k).slots (first_end net (number - 511))
    first_is high = shows.shown.memberships (first_end net (number - 511)) (first_known high)

    pub second_is : 511 ≤ number → cluster_at t.nodes.list (second_end net (number - 511)) ≡ maximal_of (grow net k).slots (second_end net (number - 511))
    second_is high = shows.shown.memberships (second_end net (number - 511)) (second_known high)

    pub first_below : 511 ≤ number → maximal_of (grow net k).slots (first_end net (number - 511)) < 511
    first_below high = let b = (formed.memberships (first_end net (number - 511)) (first_known high)).1 in let s = small.clusters in omega arith

    pub second_below : 511 ≤ number → maximal_of (grow net k).slots (second_end net (number - 511)) < 511
    second_below high = let b = (formed.memberships (second_end net (number - 511)) (second_known high)).1 in let s = small.clusters in omega arith
