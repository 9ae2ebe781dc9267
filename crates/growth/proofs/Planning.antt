-- When a plan is refused, and both plans from the tables of a growing network.
use Rattle.std.proofs.Common.{◌≡◌, ℕ, ◌-◌, ◌<◌, ◌≤◌, Bool, true, false, cond, not, eqb, List, map, length, get_or, take, Some, None, Ok, Err, sym, refl, ap, ◌∙◌, ⊎_elim, arith}
use Rattle.std.proofs.lemmas.List.{length-map, length-take-le, get_or-take, get_or-map, take_all}
use Rattle.std.proofs.lemmas.Bool.{cases_eq, cases_Bool, eq-eqb, ne_eqb, cond-true, cond-false}
use Rattle.refusal.specs.declared.Refusal.{Refusal}
use Rattle.refusal.specs.declared.Refusal.TheVariants.{NoNode, StillGrowing, ListTooShort}
use Rattle.network.specs.Nets.{Net, valid}
use Rattle.theory.specs.Nets.{node_count, edge_count}
use Rattle.theory.specs.Growth.{State, ended, grow}
use Rattle.theory.specs.Numbers.{either, parts_of, phase_of}
use Rattle.theory.specs.Prune.{Plan, marked, chosen, grown_node, grown_edge, plan}
use Rattle.theory.specs.Strong.{strong_plan}
use Rattle.theory.proofs.Laws.{formed_by_number, laws_hold}
use Rattle.pruning.specs.Answers.{answer_of}
use Rattle.pruning.specs.Pruned.{no_shape, heeded, shape_shown, plan_in}
use Rattle.pruning.specs.Strong.{strong_plan_in}
use Rattle.pruning.specs.Written.{too_short, unless_short}
use Rattle.pruning.specs.declared.shape.Shape.{Shape}
use Rattle.pruning.proofs.Bridges.{plan_in_grown, strong_plan_in_grown}
use Rattle.growth.specs.Records.{vacant}
use Rattle.growth.specs.Shown.{ShowsAll}
use Rattle.growth.specs.Plans.{shape_of, no_plan, plan_refusal, unless_refused, plan_answer, marks_written, nodes_written, edges_written}
use Rattle.growth.specs.declared.tables.Tables.{Tables}
use Rattle.growth.proofs.Growing.{same_phase}
use Rattle.growth.proofs.TreeMarks.{chosen_marked}

-- where only a short list may refuse
short_answer : (short : Bool) (p : Plan) → cond short (Err ListTooShort) (Ok (answer_of p)) ≡ unless_refused (cond short (Some ListTooShort) None) p
short_answer true p = refl
short_answer false p = refl

short_marks : (short : Bool) (marks : List ℕ) (n : ℕ) (out : List ℕ) → unless_short short marks n out ≡ marks_written (cond short (Some ListTooShort) None) marks n out
short_marks true marks n out = refl
short_marks false marks n out = refl

module _ (net : Net) (st : State) where
  going_plan : 1 ≤ node_count net → ended st ≡ false → no_plan net st ≡ Some StillGrowing
  going_plan some going = cond-false (eqb (node_count net) 0) _ _ (ne_eqb (node_count net) 0 (λ e. omega arith)) ∙ cond-false (ended st) None (Some StillGrowing) going

  -- a plan that is not refused has a node, and growth has ended
  some_node : no_plan net st ≡ None → 1 ≤ node_count net
  some_node none = ⊎_elim
      (λ e. let no = cond-true (eqb (node_count net) 0) (Some NoNode) (cond (ended st) None (Some StillGrowing)) (eq-eqb (node_count net) 0 e) in let z : ◌≡◌ {A = ℕ} 0 1 = cc in absurd (omega arith))
      (λ ne. omega arith)
      (cases_eq (node_count net) 0)

  has_ended : no_plan net st ≡ None → ended st ≡ true
  has_ended none = ⊎_elim
      (λ e. e)
      (λ e. let no = going_plan (some_node none) e in let z : ◌≡◌ {A = ℕ} 0 1 = cc in absurd (omega arith))
      (cases_Bool (ended st))

  -- a plan that the network refuses is refused for any lists
  module _ (p : Plan) (nodes edges : List ℕ) (why : Refusal) (no : Some why ≡ no_plan net st) where
    refused : Some why ≡ plan_refusal net st nodes edges
    refused = ap (λ o. either o (cond (too_short net nodes edges) (Some ListTooShort) None)) no

    pub refused_answer : Err why ≡ plan_answer net st p nodes edges
    refused_answer = ap (λ o. unless_refused o p) refused

    pub refused_nodes : nodes ≡ nodes_written net st p nodes edges
    refused_nodes = ap (λ o. marks_written o p.node_marks (node_count net) nodes) refused

    pub refused_edges : edges ≡ edges_written net st p nodes edges
    refused_edges = ap (λ o. marks_written o p.edge_marks (edge_count net) edges) refused

  -- any other is refused only for a short list
  module _ (p q : Plan) (same : q ≡ p) (nodes edges : List ℕ) (none : None ≡ no_plan net st) where
    only_short : cond (too_short net nodes edges) (Some ListTooShort) None ≡ plan_refusal net st nodes edges
    only_short = ap (λ o. either o (cond (too_short net nodes edges) (Some ListTooShort) None)) none

    pub planned_answer : cond (too_short net nodes edges) (Err ListTooShort) (Ok (answer_of q)) ≡ plan_answer net st p nodes edges
    planned_answer = short_answer (too_short net nodes edges) q ∙ λ i. unless_refused (only_short i) (same i)

    pub planned_nodes : unless_short (too_short net nodes edges) q.node_marks (node_count net) nodes ≡ nodes_written net st p nodes edges
    planned_nodes = short_marks (too_short net nodes edges) q.node_marks (node_count net) nodes ∙ λ i. marks_written (only_short i) (same i).node_marks (node_count net) nodes

    pub planned_edges : unless_short (too_short net nodes edges) q.edge_marks (edge_count net) edges ≡ edges_written net st p nodes edges
    planned_edges = short_marks (too_short net nodes edges) q.edge_marks (edge_count net) edges ∙ λ i. marks_written (only_short i) (same i).edge_marks (edge_count net) edges

module _ (net : Net) (v : valid net ≡ true) (k : ℕ) (t : Tables) (shows : ShowsAll net t (grow net k)) where
  -- the shapes of the formed clusters
  abbrev formed_shapes : List Shape
  formed_shapes = take (t.family.formed - 0) (map shape_of t.family.clusters)

  all_shapes : length (map shape_of t.family.clusters) ≡ 511
  all_shapes = length-map t.family.clusters shape_of ∙ t.family.whole

  shapes_long : length formed_shapes ≡ length (grow net k).slots
  shapes_long =
      let all = all_shapes in
      let within = t.family.within in
      let count = shows.shown.count in
      length-take-le (t.family.formed - 0) (map shape_of t.family.clusters) (omega arith) ∙ omega arith

  -- there are no more of them than pruning heeds
  few_shapes : length formed_shapes ≤ 511
  few_shapes =
      let long = shapes_long in
      let within = t.family.within in
      let count = shows.shown.count in
      omega arith

  shapes_shown : (c : ℕ) → c < length (grow net k).slots → get_or formed_shapes c no_shape ≡ shape_shown (grow net k).slots c
  shapes_shown c l =
      let whole = t.family.whole in
      let within = t.family.within in
      let count = shows.shown.count in
      get_or-take (t.family.formed - 0) (map shape_of t.family.clusters) c no_shape (omega arith)
      ∙ get_or-map shape_of t.family.clusters c vacant no_shape (omega arith)
      ∙ ap shape_of (shows.shown.records c l)
      ∙ ap (λ b. record { parts = parts_of (grow net k).slots c; inactive = not b }) (same_phase (phase_of (grow net k).slots c))

  pub plan_shown : (nodes : List ℕ) → marked nodes ≡ grown_node (grow net k).slots → (shapes : List Shape) → shapes ≡ map shape_of t.family.clusters →
      plan_in net (heeded (take (t.family.formed - 0) shapes)) (marked nodes) (marked t.chosen.marks) ≡ plan net (grow net k)
  plan_shown nodes grown shapes all =
      (λ i. plan_in net (heeded (take (t.family.formed - 0) (all i))) (grown i) (chosen_marked net v k t shows i))
      ∙ ap (λ s. plan_in net s (grown_node (grow net k).slots) (chosen (grow net k).slots)) (take_all 511 formed_shapes few_shapes)
      ∙ plan_in_grown net (grow net k) formed_shapes (formed_by_number net v k) shapes_long shapes_shown

  pub strong_plan_shown : (nodes edges : List ℕ) → marked nodes ≡ grown_node (grow net k).slots → marked edges ≡ grown_edge net (grow net k).slots → None ≡ no_plan net (grow net k) →
      strong_plan_in net (marked nodes) (marked edges) ≡ strong_plan net (grow net k)
  strong_plan_shown nodes edges grown within none =
      (λ i. strong_plan_in net (grown i) (within i))
      ∙ strong_plan_in_grown net (grow net k) ((laws_hold net v k).net_worths (some_node net (grow net k) (sym none)) (has_ended net (grow net k) (sym none)))
