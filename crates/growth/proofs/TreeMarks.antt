-- The marks of the grown tree: those of its nodes and of its edges, and none beyond the network.
use Rattle.std.proofs.Common.{◌≡◌, ℕ, ◌<◌, Bool, true, false, ◌&&◌, eqb, List, length, sym, refl, ap, ◌∙◌, ⊎_elim, arith}
use mathlib.Core.Path.{fun_ext}
use Rattle.std.proofs.lemmas.List.{get_or_past}
use Rattle.std.proofs.lemmas.Bool.{cases_lt, and_parts}
use Rattle.network.specs.Nets.{Net, valid}
use Rattle.theory.specs.Sums.{one}
use Rattle.theory.specs.Nets.{node_count, edge_count}
use Rattle.theory.specs.Clusters.{cluster_active, holds, Deep}
use Rattle.theory.specs.Due.{maximal_of}
use Rattle.theory.specs.Growth.{grow}
use Rattle.theory.specs.Prune.{uses, chosen, grown_node, grown_edge, marked}
use Rattle.theory.proofs.Bools.{only}
use Rattle.theory.proofs.Families.{deep_weaker}
use Rattle.theory.proofs.Inside.{any_found, used_ends}
use Rattle.theory.proofs.Invariant.{Bridge, Made}
use Rattle.theory.proofs.Laws.{nodes_shared, formed_by_number}
use Rattle.theory.proofs.Runs.{kept}
use Rattle.theory.proofs.Sharing.{held_below}
use Rattle.theory.proofs.Slots.{maximal_all}
use Rattle.theory.proofs.Valid.{fine}
use Rattle.pruning.specs.Written.{edges_among}
use Rattle.growth.specs.NodeTables.{grows_at, cluster_at}
use Rattle.growth.specs.Shown.{ShowsAll}
use Rattle.growth.specs.declared.tables.Tables.{Tables}
use Rattle.growth.proofs.Growing.{grows_shown}

-- marks that are right below m, where none is beyond
pub marks_whole : (m : ℕ) (p : ℕ → Bool) (bytes : List ℕ) → length bytes ≡ m → ((v : ℕ) → v < m → marked bytes v ≡ p v) → ((v : ℕ) → p v ≡ true → v < m) → marked bytes ≡ p
marks_whole m p bytes long below within = fun_ext (λ v. ⊎_elim
    (λ l. below v l)
    (λ l. ap (λ x. eqb x 1) (get_or_past bytes v 0 (omega arith)) ∙ sym (only (p v) (λ e. let b = within v e in omega arith)))
    (cases_lt v m))

mark : (b : Bool) → eqb (one b) 1 ≡ b
mark true = refl
mark false = refl

module _ (net : Net) (v : valid net ≡ true) (k : ℕ) where
  pub grown_below : (w : ℕ) → grown_node (grow net k).slots w ≡ true → w < node_count net
  grown_below w e =
      let ts = (grow net k).slots in
      let f = any_found (λ t. cluster_active t && holds t w) ts e in
      held_below (node_count net) ts (nodes_shared net v k) f.0 f.1 w f.2 (and_parts (cluster_active f.1) (holds f.1 w) f.3).1

  chosen_below : (s : ℕ) → chosen (grow net k).slots s ≡ true → s < edge_count net
  chosen_below s e =
      let ts = (grow net k).slots in
      let f = any_found (λ t. uses t s) ts e in
      (used_ends net s f.1 (deep_weaker (Made net) (Bridge net) (λ u m. m.2) f.1 (maximal_all (Deep (Made net)) ts f.0 f.1 (kept net (fine net v) k).made f.2)) f.3).0

  pub grown_edge_below : (s : ℕ) → grown_edge net (grow net k).slots s ≡ true → s < edge_count net
  grown_edge_below s e = chosen_below s (and_parts (chosen (grow net k).slots s) _ e).0

  module _ (t : Tables) (shows : ShowsAll net t (grow net k)) where
    -- a node's maximal cluster grows where the node is in the grown tree
    pub node_grown : (w : ℕ) → w < node_count net → grows_at t.family.clusters (cluster_at t.nodes.list w) ≡ grown_node (grow net k).slots w
    node_grown w l =
        let formed = formed_by_number net v k in
        ap (grows_at t.family.clusters) (shows.shown.memberships w l) ∙ grows_shown net t (grow net k) formed shows (maximal_of (grow net k).slots w) ∙ sym (formed.in_grown w l)

    pub chosen_marked : marked t.chosen.marks ≡ chosen (grow net k).slots
    chosen_marked = fun_ext (λ s. ap (λ x. eqb x 1) (shows.all_edges s) ∙ mark (chosen (grow net k).slots s))

    pub edge_grown : (N : ℕ → Bool) → N ≡ grown_node (grow net k).slots → (s : ℕ) → edges_among net (marked t.chosen.marks) N s ≡ grown_edge net (grow net k).slots s
    edge_grown N is s = λ i. edges_among net (chosen_marked i) (is i) s
