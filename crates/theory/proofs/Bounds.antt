-- How large the numbers of growth get, and the lower bound of growth.
use Rattle.std.proofs.Common.{◌≡◌, ℕ, zero, suc, ◌+◌, ◌-◌, ◌*◌, ◌<◌, ◌≤◌, Bool, true, false, cond, eqb, ◌≢◌, List, length, get_or, Some, None, sym, ap, ◌∙◌, inl, inr, arith}
use Rattle.std.proofs.lemmas.Bool.{ne_eqb, cases_Bool, cases_eq, cases_lt, cond-false}
use Rattle.network.specs.Nets.{Net}
use Rattle.theory.specs.Sums.{sum_to, one}
use Rattle.theory.specs.Nets.{node_count, edge_count, first_end, second_end, doubled_prize}
use Rattle.theory.specs.Clusters.{Cluster, Slot, moat, cluster_active, holds, over, inner, Deep, over_maximal, depth}
use Rattle.theory.specs.Clusters.Cluster.{node, merged}
use Rattle.theory.specs.Clusters.Slot.{maximal, inside}
use Rattle.theory.specs.Due.{surplus, slack, maximal_of, active_at, edge_due, due_times}
use Rattle.theory.specs.Growth.{State, grow, total}
use Rattle.theory.specs.Laws.{EvenSlack, Small, EveryTreeAtLeast}
use Rattle.theory.proofs.Bools.{one_most, one_is, cond_most}
use Rattle.theory.proofs.Sums.{sum_to_le}
use Rattle.theory.proofs.Families.{deep_any, deep_weaker, under_le, every_weaker, maximal_le}
use Rattle.theory.proofs.Slots.{maximal_all, all_maximal, maximal_at}
use Rattle.theory.proofs.Sharing.{its_maximal, some_maximal, held_below, depth_in, dep, dep_none, none_sum}
use Rattle.theory.proofs.Laminar.{deep_both}
use Rattle.theory.proofs.Invariant.{Made, Inv}
use Rattle.theory.proofs.Valid.{Fine}
use Rattle.theory.proofs.Table.{table_length, table_cluster, table_edge, table_past, maximal_of_is, active_at_is, edge_due_none}
use Rattle.theory.proofs.Steps.{edge_depths, Ends, ends_of, owned, sits, even_slack, due_cluster, not_some, Meeting, meeting}
use Rattle.theory.proofs.Steps.Meeting.{both_active, first_active, second_active}
use Rattle.theory.proofs.Runs.{kept, counted}
use Rattle.theory.proofs.Lower.{lower_any}

sum_to_const : (n c : ℕ) → sum_to n (λ v. c) ≡ n * c
sum_to_const zero c = omega arith
sum_to_const (suc n) c = let ih = sum_to_const n c in omega arith

-- a part's prizes are within the whole cluster's
over_parts : (f : ℕ → ℕ) (t : Cluster) → Deep (λ u. over f u ≤ over f t) t
over_parts f (node o v) = omega arith
over_parts f (merged o c e l r) = (
  omega arith,
  deep_weaker (λ u. over f u ≤ over f l) (λ u. over f u ≤ over f l + over f r) (λ u h. omega arith) l (over_parts f l),
  deep_weaker (λ u. over f u ≤ over f r) (λ u. over f u ≤ over f l + over f r) (λ u h. omega arith) r (over_parts f r),
)

moat_inner : (u : Cluster) → moat u ≤ inner u
moat_inner (node o v) = omega arith
moat_inner (merged o c e l r) = omega arith

dep_inner : (t : Cluster) (v : ℕ) → dep t v ≤ inner t
dep_inner t v = under_le (λ u. cond (holds u v) (moat u) 0) moat t (deep_any (λ u. cond (holds u v) (moat u) 0 ≤ moat u) (λ u. cond_most (holds u v) (moat u)) t)

module _ (net : Net) (f : Fine net) (k : ℕ) where
  abbrev st : State
  st = grow net k

  abbrev ts : List Slot
  ts = st.slots

  abbrev P : ℕ → ℕ
  P = doubled_prize net

  h : Inv net (grow net k).time (grow net k).slots
  h = kept net f k

  prizes_small : over_maximal (over (doubled_prize net)) (grow net k).slots ≤ 512000000000
  prizes_small =
      let a = h.shared P in
      let b = sum_to_le (node_count net) P (λ v. 2000000000) (λ v l. let z = f.prizes v in omega arith) in
      let c = sum_to_const (node_count net) 2000000000 in
      let d = f.few_nodes in
      omega arith

  maximal_small : (c : ℕ) (t : Cluster) → get_or (grow net k).slots c inside ≡ maximal t → over (doubled_prize net) t ≤ 512000000000
  maximal_small c t e = let a = maximal_at (over P) ts c t e in let b = prizes_small in omega arith

  -- some active maximal cluster bounds the time
  time_within : (1 ≤ node_count net) → (c : ℕ) × (t : Cluster) × (get_or (grow net k).slots c inside ≡ maximal t) × ((grow net k).time ≤ inner t)
  time_within l =
      let a = some_maximal (λ t. one (cluster_active t)) ts ((counted net f k).active l) in
      let d = (sits net f st.time ts h a.0 a.1 a.2).deepest (one_is (cluster_active a.1) a.3) in
      let i = dep_inner a.1 d.0 in
      let j = d.2 in
      (a.0, a.1, a.2, omega arith)

  pub time_small : (grow net k).time ≤ 512000000000
  time_small = elim (cases_lt 0 (node_count net)) [
    | inl l ↦ let a = time_within (omega arith) in let b = owned net f st.time ts h a.0 a.1 a.2 in let c = maximal_small a.0 a.1 a.2 in let d = a.3 in omega arith
    | inr l ↦ let a = (counted net f k).early (omega arith) in omega arith
  ]

  pub depth_le : (v : ℕ) → depth (grow net k).slots v ≤ (grow net k).time
  depth_le v = elim (cases_lt v (node_count net)) [
    | inl l ↦
        let a = its_maximal (node_count net) ts h.shared v l in
        let b = depth_in (node_count net) ts h.shared a.0 a.1 v a.2 a.3 in
        let c = (sits net f st.time ts h a.0 a.1 a.2).within v a.3 in
        omega arith
    | inr l ↦ let a = none_sum (λ u. dep u v) ts (λ c t e. dep_none t v (unheld c t e l)) in omega arith
  ]
    where
      unheld : (c : ℕ) (t : Cluster) → get_or ts c inside ≡ maximal t → node_count net ≤ v → holds t v ≡ false
      unheld c t e l = elim (cases_Bool (holds t v)) [
        | inr x ↦ x
        | inl x ↦ let a = held_below (node_count net) ts h.shared c t v e x in absurd (omega arith)
      ]

  ahead : (grow net k).time ≤ total (grow net k)
  ahead = elim (cases_lt 0 (node_count net)) [
    | inl l ↦ let a = time_within (omega arith) in let b = maximal_at inner ts a.0 a.1 a.2 in let c = a.3 in omega arith
    | inr l ↦ let a = (counted net f k).early (omega arith) in omega arith
  ]

  total_small : total (grow net k) ≤ 512000000000
  total_small =
      let a = maximal_le (λ t. inner t ≤ over P t) inner (over P) (λ t x. x) ts (all_maximal (λ t. inner t ≤ over P t) ts (λ c t e. owned net f st.time ts h c t e)) in
      let b = prizes_small in
      omega arith

  due_small : (j t : ℕ) → get_or (due_times net (grow net k).time (grow net k).slots) j None ≡ Some t → ((grow net k).time ≤ t) × (t ≤ 514000000000)
  due_small j t e = elim (cases_lt j 511) [
    | inl l ↦ cluster (due_cluster net st.time (get_or ts j inside) t (sym (table_cluster net st.time ts j l) ∙ e))
    | inr l ↦ elim (cases_lt j 1535) [
      | inl l' ↦ edge (sym (table_edge net st.time ts (j - 511) (omega arith)) ∙ ap (λ i. get_or (due_times net st.time ts) i None) (let z : 511 + (j - 511) ≡ j = omega arith in z) ∙ e)
      | inr l' ↦ absurd (not_some t (sym (table_past net st.time ts j l') ∙ e))
    ]
  ]
    where
      cluster : (u : Cluster) × (get_or ts j inside ≡ maximal u) × (cluster_active u ≡ true) × (t ≡ st.time + surplus net u) → (st.time ≤ t) × (t ≤ 514000000000)
      cluster (u, at, g, is) =
          let d = (sits net f st.time ts h j u at).deepest g in
          let i = dep_inner u d.0 in
          let x = d.2 in
          let y = owned net f st.time ts h j u at in
          let z = maximal_small j u at in
          (omega arith, omega arith)

      s : ℕ
      s = j - 511

      edge : edge_due net st.time ts s ≡ Some t → (st.time ≤ t) × (t ≤ 514000000000)
      edge g = elim (cases_eq (maximal_of ts (first_end net s)) (maximal_of ts (second_end net s))) [
        | inl same ↦ absurd (not_some t (sym (edge_due_none net st.time ts s same) ∙ g))
        | inr ne ↦ by (meeting (active_at ts (maximal_of ts (first_end net s))) (active_at ts (maximal_of ts (second_end net s))) st.time (slack net ts s) t
            (sym (cond-false (eqb (maximal_of ts (first_end net s)) (maximal_of ts (second_end net s))) None _ (ne_eqb (maximal_of ts (first_end net s)) (maximal_of ts (second_end net s)) ne)) ∙ g))
      ]
        where
          by : {a b : Bool} → Meeting a b st.time (slack net ts s) t → (st.time ≤ t) × (t ≤ 514000000000)
          by (both_active a b is) = let x = time_small in let y = f.costs s in (omega arith, omega arith)
          by (first_active a b is) = let x = time_small in let y = f.costs s in (omega arith, omega arith)
          by (second_active a b is) = let x = time_small in let y = f.costs s in (omega arith, omega arith)

  -- an edge between two maximal clusters
  ends : (s : ℕ) → s < edge_count net → maximal_of (grow net k).slots (first_end net s) ≢ maximal_of (grow net k).slots (second_end net s) →
      (x : Ends net (grow net k).slots s) × (maximal_of (grow net k).slots (first_end net s) ≡ x.p) × (maximal_of (grow net k).slots (second_end net s) ≡ x.q) × (x.p ≢ x.q)
  ends s l ne =
      let x = ends_of net f st.time ts h s l in
      let at_p = maximal_of_is (node_count net) ts h.shared x.p x.l (first_end net s) x.pl x.la in
      let at_q = maximal_of_is (node_count net) ts h.shared x.q x.r (second_end net s) x.qr x.rb in
      (x, at_p, at_q, λ e. ne (at_p ∙ e ∙ sym at_q))

  pub even : EvenSlack net (grow net k)
  even s l ne a b =
      let y = ends s l ne in
      let x = y.0 in
      even_slack net f st.time ts h s l x y.3
      (sym (active_at_is (node_count net) ts h.shared x.p x.l x.pl) ∙ ap (active_at ts) (sym y.1) ∙ a)
      (sym (active_at_is (node_count net) ts h.shared x.q x.r x.qr) ∙ ap (active_at ts) (sym y.2) ∙ b)

  pub small : Small net (grow net k)
  small = record {
    clusters = let a = h.sized in let b = f.few_nodes in few a b;
    time = time_small;
    depths = depth_le;
    inners = all_maximal (Deep (λ u. (moat u ≤ inner u) × (inner u ≤ over P u) × (over P u ≤ 512000000000))) ts (λ c t e.
        deep_weaker (λ u. Made net u × (over P u ≤ over P t)) (λ u. (moat u ≤ inner u) × (inner u ≤ over P u) × (over P u ≤ 512000000000))
        (λ u x. (moat_inner u, x.0.0, (let a = maximal_small c t e in let b = x.1 in omega arith))) t
        (deep_both (Made net) (λ u. over P u ≤ over P t) t (maximal_all (Deep (Made net)) ts c t h.made e) (over_parts P t)));
    surpluses = owned net f st.time ts h;
    slacks = λ s l ne. let y = ends s l ne in edge_depths net f st.time ts h s l y.0 y.3;
    moats = total_small;
    ahead = ahead;
    table = table_length net st.time ts;
    dues = due_small;
  }
    where
      few : length ts + over_maximal (λ t. 1) ts ≡ 2 * node_count net → node_count net ≤ 256 → length ts ≤ 511
      few a b = elim (cases_lt 0 (node_count net)) [
        | inl l ↦
            let c = (counted net f k).active (omega arith) in
            let d = maximal_le (λ t. Unit {0}) (λ t. one (cluster_active t)) (λ t. 1) (λ t z. one_most (cluster_active t)) ts (all_maximal (λ t. Unit {0}) ts (λ c t e. tt)) in
            omega arith
        | inr l ↦ omega arith
      ]

  pub tree_at_least : EveryTreeAtLeast net k
  tree_at_least N E tree =
      let v = tree.some.0 in
      let a = lower_any net ts h.shared h.loads (every_weaker (Made net) (λ u. inner u ≤ over P u) (λ u x. x.0) ts h.made) N E tree v st.time tree.some.1 (depth_le v) in
      omega arith
