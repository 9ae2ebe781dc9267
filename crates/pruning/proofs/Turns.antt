-- Pruning turn by turn: the network's nodes are all that it asks for. Assumes nothing.
use Rattle.std.proofs.Common.{◌≡◌, ℕ, zero, suc, ◌<◌, Bool, not, ◌&&◌, eqb, List, length, Some, None, Option, sym, refl, ap, ◌∙◌}
use mathlib.Core.Path.{fun_ext}
use Rattle.network.specs.Nets.{Net}
use Rattle.theory.specs.Sums.{one, differ}
use Rattle.theory.specs.Nets.{node_count, edge_count, first_end, second_end}
use Rattle.theory.specs.Strong.{lowest_below}
use Rattle.theory.proofs.Sums.{sum_to_same}
use Rattle.theory.proofs.Valid.{Fine}
use Rattle.pruning.specs.Pruned.{shape_at, member, leaving, next_pruned, except, prune_in}
use Rattle.pruning.specs.Written.{edges_among}
use Rattle.pruning.specs.declared.shape.Shape.{Shape}
use Rattle.pruning.proofs.Written.{among_same}

-- one turn
module _ (net : Net) (shapes : List Shape) (E : ℕ → Bool) (k : ℕ) (N : ℕ → Bool) where
  pub turn_next : (c : ℕ) → next_pruned net shapes E N ≡ Some c → prune_in (suc k) net shapes E N ≡ prune_in k net shapes E (except N (member shapes c))
  turn_next c e = ap (λ o. elim o as (λ z. ℕ → Bool) [ Some c ↦ prune_in k net shapes E (except N (member shapes c)) | None ↦ N ]) e

  pub turn_done : next_pruned net shapes E N ≡ None → prune_in (suc k) net shapes E N ≡ N
  turn_done e = ap (λ o. elim o as (λ z. ℕ → Bool) [ Some c ↦ prune_in k net shapes E (except N (member shapes c)) | None ↦ N ]) e

module _ (net : Net) (f : Fine net) where
  pub leaving_same : (E F M L : ℕ → Bool) → ((s : ℕ) → s < edge_count net → E s ≡ F s) → ((v : ℕ) → v < node_count net → M v ≡ L v) → leaving net E M ≡ leaving net F L
  leaving_same E F M L e m = sum_to_same (edge_count net) (λ s. one (E s && differ (M (first_end net s)) (M (second_end net s)))) (λ s. one (F s && differ (L (first_end net s)) (L (second_end net s))))
      (λ s l k. one (e s l k && differ (m (first_end net s) (f.firsts s l) k) (m (second_end net s) (f.seconds s l) k)))

  next_same : (shapes : List Shape) (E N M : ℕ → Bool) → ((v : ℕ) → v < node_count net → N v ≡ M v) → next_pruned net shapes E N ≡ next_pruned net shapes E M
  next_same shapes E N M h = ap (lowest_below (length shapes)) (fun_ext (λ c. ap (λ n. (shape_at shapes c).inactive && eqb n 1)
      (leaving_same (edges_among net E N) (edges_among net E M) (member shapes c) (member shapes c) (among_same net f E N M h) (λ v l. refl))))

  pub prune_same : (shapes : List Shape) (E : ℕ → Bool) (k : ℕ) (N M : ℕ → Bool) → ((v : ℕ) → v < node_count net → N v ≡ M v) → (v : ℕ) → v < node_count net → prune_in k net shapes E N v ≡ prune_in k net shapes E M v
  prune_same shapes E zero N M h v l = h v l
  prune_same shapes E (suc k) N M h v l = by (next_pruned net shapes E M) refl (prune_same shapes E k)
    where
      by : (o : Option ℕ) → next_pruned net shapes E M ≡ o →
          ((N M : ℕ → Bool) → ((v : ℕ) → v < node_count net → N v ≡ M v) → (v : ℕ) → v < node_count net → prune_in k net shapes E N v ≡ prune_in k net shapes E M v) →
          prune_in (suc k) net shapes E N v ≡ prune_in (suc k) net shapes E M v
      by None e rest = ap (λ P. P v) (turn_done net shapes E k N (next_same shapes E N M h ∙ e)) ∙ h v l ∙ sym (ap (λ P. P v) (turn_done net shapes E k M e))
      by (Some c) e rest =
          ap (λ P. P v) (turn_next net shapes E k N c (next_same shapes E N M h ∙ e))
          ∙ rest (except N (member shapes c)) (except M (member shapes c)) (λ u b. ap (λ x. x && not (member shapes c u)) (h u b)) v l
          ∙ sym (ap (λ P. P v) (turn_next net shapes E k M c e))
