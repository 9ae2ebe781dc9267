-- The entry that a step takes: its number is one of the table's, an edge's ends are entered and in two clusters.
use Rattle.std.proofs.Common.{◌≡◌, ℕ, ◌+◌, ◌-◌, ◌<◌, ◌≤◌, ◌≢◌, List, length, get_or, Some, None, sym, ap, ◌∙◌, subst, ⊎_elim, arith}
use Rattle.std.proofs.lemmas.Bool.{cases_lt}
use Rattle.network.specs.Nets.{Net}
use Rattle.theory.specs.Nets.{edge_count, first_end, second_end}
use Rattle.theory.specs.Clusters.{Slot}
use Rattle.theory.specs.Clusters.Slot.{inside}
use Rattle.theory.specs.Due.{earliest, due_times, edge_due, maximal_of}
use Rattle.theory.proofs.Valid.{Fine}
use Rattle.theory.proofs.Earliest.{Earliest, earliest_stands}
use Rattle.theory.proofs.Slots.{maximal_below}
use Rattle.theory.proofs.Steps.{not_some, due_cluster}
use Rattle.theory.proofs.Table.{table_cluster, table_edge, table_past, edge_due_none}

module _ (net : Net) (f : Fine net) (time : ℕ) (ts : List Slot) (t k : ℕ) (is : earliest (due_times net time ts) ≡ Some (t, k)) where
  pub entered : get_or (due_times net time ts) k None ≡ Some t
  entered = (subst (Earliest (due_times net time ts)) is (earliest_stands (due_times net time ts))).0

  pub number_below : k < 1535
  number_below = ⊎_elim (λ l. l) (λ l. absurd (not_some t (sym (table_past net time ts k l) ∙ entered))) (cases_lt k 1535)

  pub cluster_known : k < 511 → k < length ts
  cluster_known l =
      let d = due_cluster net time (get_or ts k inside) t (sym (table_cluster net time ts k l) ∙ entered) in
      maximal_below ts k d.0 d.1

  edge_entered : 511 ≤ k → edge_due net time ts (k - 511) ≡ Some t
  edge_entered l =
      let b = number_below in
      let at : 511 + (k - 511) ≡ k = omega arith in
      sym (table_edge net time ts (k - 511) (omega arith)) ∙ ap (λ j. get_or (due_times net time ts) j None) at ∙ entered

  pub ends_apart : 511 ≤ k → maximal_of ts (first_end net (k - 511)) ≢ maximal_of ts (second_end net (k - 511))
  ends_apart l e = not_some t (sym (edge_due_none net time ts (k - 511) e) ∙ edge_entered l)

  pub edge_known : 511 ≤ k → k - 511 < edge_count net
  edge_known l = ⊎_elim (λ h. h) (λ h. absurd (ends_apart l (ap (maximal_of ts) (f.unknown (k - 511) h)))) (cases_lt (k - 511) (edge_count net))
