-- Pruning from the grown tree on: each time a node leaves, and at the end no cluster is prunable.
use Rattle.std.proofs.Common.{◌≡◌, ℕ, zero, suc, ◌+◌, ◌<◌, ◌≤◌, Bool, true, false, cond, not, ◌&&◌, ltb, ◌⊎◌, List, [], ◌∷◌, length, get_or, Some, None, Option, sym, refl, ap, ◌∙◌, subst, inl, inr, arith}
use Rattle.std.specs.List.{range_with_len}
use Rattle.std.proofs.lemmas.Bool.{eqb-true, eq-eqb, or_left, or_right, and_parts, and_from, and_cases, and_left, cases_Bool, cases_eq, both_ways, cond-true, cond-false, not-true, not-false, not_from_false, ltb-true}
use Rattle.network.specs.Nets.{Net}
use Rattle.theory.specs.Sums.{sum_to, one, differ}
use Rattle.theory.specs.Nets.{node_count, edge_count, first_end, second_end}
use Rattle.theory.specs.Clusters.{Cluster, Slot, cluster_active, number, holds, splits, Deep, Every}
use Rattle.theory.specs.Clusters.Cluster.{node, merged}
use Rattle.theory.specs.Clusters.Slot.{maximal, inside}
use Rattle.theory.specs.Numbers.{cluster_of}
use Rattle.theory.specs.Prune.{grown_node, edges_within, degree, prunable, passing, lowest, to_prune, without, prune_from, pruned}
use Rattle.theory.specs.Laws.{Nested}
use Rattle.theory.proofs.Bools.{only, one_true, one_most, one_is}
use Rattle.theory.proofs.Sums.{sum_to_ones, sum_to_at, sum_to_less}
use Rattle.theory.proofs.Families.{deep_weaker}
use Rattle.theory.proofs.Walks.{crossing}
use Rattle.theory.proofs.Slots.{maximal_all, all_maximal, maximal_at}
use Rattle.theory.proofs.Sharing.{held_below}
use Rattle.theory.proofs.Laminar.{laminar, Sub, deep_sub, deep_both}
use Rattle.theory.proofs.Invariant.{Bridge}
use Rattle.theory.proofs.Inside.{Inside, deep_inside, inside_sub, touches, witness}
use Rattle.theory.proofs.Inside.Inside.{here, in_left, in_right}
use Rattle.theory.proofs.Numbers.{named, cluster_of_is, cluster_of_in, inside_named}
use Rattle.theory.proofs.Pruning.{Last, Sofar, TiedAt, bridges, parts_off, only_last, grown_is, root_fresh, in_e, e_below, joined_all, tied_after, deep_used, sum_to_some, crossing_counts, still}

-- the lowest-numbered cluster that passes
passed : (p : Cluster → Bool) (o : Option Cluster) (u : Cluster) → passing p o ≡ Some u → (o ≡ Some u) × (p u ≡ true)
passed p None u h = let z : ◌≡◌ {A = ℕ} 0 1 = cc in absurd (omega arith)
passed p (Some w) u h = elim (cases_Bool (p w)) [
  | inl e ↦ let k : Some w ≡ Some u = sym (cond-true (p w) (Some w) None e) ∙ h in let s : w ≡ u = cc in (k, ap p (sym s) ∙ e)
  | inr e ↦ let k : None ≡ Some u = sym (cond-false (p w) (Some w) None e) ∙ h in let z : ◌≡◌ {A = ℕ} 0 1 = cc in absurd (omega arith)
]

module _ (p : Cluster → Bool) (ts : List Slot) where
  lowest_some : (cs : List ℕ) (u : Cluster) → lowest p ts cs ≡ Some u → (c : ℕ) × (cluster_of ts c ≡ Some u) × (p u ≡ true)
  lowest_some [] u h = let z : ◌≡◌ {A = ℕ} 0 1 = cc in absurd (omega arith)
  lowest_some (c ∷ cs) u h = go (passing p (cluster_of ts c)) refl h (lowest_some cs u)
    where
      go : (o : Option Cluster) → passing p (cluster_of ts c) ≡ o → elim o as (λ z. Option Cluster) [ Some w ↦ Some w | None ↦ lowest p ts cs ] ≡ Some u →
          (lowest p ts cs ≡ Some u → (c : ℕ) × (cluster_of ts c ≡ Some u) × (p u ≡ true)) → (c : ℕ) × (cluster_of ts c ≡ Some u) × (p u ≡ true)
      go None e k f = f k
      go (Some w) e k f = let a = passed p (cluster_of ts c) u (e ∙ k) in (c, a.0, a.1)

  lowest_none : (a n : ℕ) → lowest p ts (range_with_len a n) ≡ None → (c : ℕ) → a ≤ c → c < a + n → passing p (cluster_of ts c) ≡ None
  lowest_none a zero h c l m = absurd (omega arith)
  lowest_none a (suc n) h c l m = go (passing p (cluster_of ts a)) refl h (λ k. lowest_none (a + 1) n k c)
    where
      go : (o : Option Cluster) → passing p (cluster_of ts a) ≡ o → elim o as (λ z. Option Cluster) [ Some w ↦ Some w | None ↦ lowest p ts (range_with_len (a + 1) n) ] ≡ None →
          (lowest p ts (range_with_len (a + 1) n) ≡ None → a + 1 ≤ c → c < a + 1 + n → passing p (cluster_of ts c) ≡ None) → passing p (cluster_of ts c) ≡ None
      go None e k f = elim (cases_eq a c) [
        | inl same ↦ ap (λ i. passing p (cluster_of ts i)) (sym same) ∙ e
        | inr ne ↦ f k (omega arith) (omega arith)
      ]
      go (Some w) e k f = let z : ◌≡◌ {A = ℕ} 0 1 = cc in absurd (omega arith)

pub from_inside : (P : Cluster → Type 0) (t : Cluster) → ((u : Cluster) → Inside u t → P u) → Deep P t
from_inside P (node o v) f = f (node o v) here
from_inside P (merged o c e l r) f = (f (merged o c e l r) here, from_inside P l (λ u i. f u (in_left i)), from_inside P r (λ u i. f u (in_right i)))

held_one : (x y : Bool) → differ x y ≡ true → (x ≡ true) ⊎ (y ≡ true)
held_one true y e = inl refl
held_one false y e = inr e

module _ (net : Net) (ts : List Slot) (x : Last net ts) where
  abbrev left : (ℕ → Bool) → ℕ
  left N = sum_to (node_count net) (λ v. one (N v))

  -- where none is found, none is prunable
  none_prunable : (N : ℕ → Bool) → to_prune net ts N ≡ None → Every (λ u. prunable net (edges_within net ts N) u ≡ false) ts
  none_prunable N h = all_maximal (Deep (λ u. prunable net E u ≡ false)) ts (λ d t e. from_inside (λ u. prunable net E u ≡ false) t (λ u i. by d t e u i))
    where
      E : ℕ → Bool
      E = edges_within net ts N

      by : (d : ℕ) (t : Cluster) → get_or ts d inside ≡ maximal t → (u : Cluster) → Inside u t → prunable net E u ≡ false
      by d t e u i =
          let a = maximal_at (named (number u)) ts d t e in
          let b = inside_named i in
          let c = x.numbered (number u) in
          let l = ltb-true (number u) (length ts) (one_is (ltb (number u) (length ts)) (omega arith)) in
          let k = lowest_none (prunable net E) ts 0 (length ts) h (number u) (omega arith) (omega arith) in
          let g : cluster_of ts (number u) ≡ Some u = cluster_of_is ts u t d e i (let m = one_most (ltb (number u) (length ts)) in omega arith) in
          let j : cond (prunable net E u) (Some u) None ≡ None = sym (ap (passing (prunable net E)) g) ∙ k in
          only (prunable net E u) (λ y. clash u (sym (cond-true (prunable net E u) (Some u) None y) ∙ j))
        where
          clash : (w : Cluster) → Some w ≡ None → ⊥
          clash w q = let z : ◌≡◌ {A = ℕ} 0 1 = cc in omega arith

  -- the grown tree
  pub sofar_start : Sofar net ts x (grown_node ts)
  sofar_start = record {
    within = λ v h. sym (grown_is net ts x v) ∙ h;
    tied = deep_weaker (λ u. Bridge net u × Sub x.R u) (TiedAt net (grown_node ts)) at x.R (deep_both (Bridge net) (Sub x.R) x.R (bridges net ts x) (deep_sub x.R));
    rooted = grown_is net ts x x.root ∙ x.held;
    gone = λ v h k. absurd (both_ways (grown_node ts v) k (grown_is net ts x v ∙ h));
  }
    where
      at : (u : Cluster) → Bridge net u × Sub x.R u → TiedAt net (grown_node ts) u
      at (node o v) h = tt
      at (merged o c e l r) h = λ p q. (
        grown_is net ts x (first_end net e) ∙ h.1 (first_end net e) (or_left (holds l (first_end net e)) _ h.0.1),
        grown_is net ts x (second_end net e) ∙ h.1 (second_end net e) (or_right (holds l (second_end net e)) _ h.0.2),
      )

  module _ (N : ℕ → Bool) (s : Sofar net ts x N) (Z : Cluster) (d : ℕ) (t : Cluster) (at : get_or ts d inside ≡ maximal t) (in' : Inside Z t)
      (idle : cluster_active Z ≡ false) (one-edge : degree net (edges_within net ts N) Z ≡ 1) where
    nested : Deep (Nested Z) x.R
    nested = maximal_all (Deep (Nested Z)) ts x.r x.R (deep_inside (λ u. Every (Nested u) ts) in' (maximal_all (Deep (λ u. Every (Nested u) ts)) ts d t (laminar (node_count net) ts x.shared) at)) x.at

    not_root : holds Z x.root ≡ false
    not_root = only (holds Z x.root) (λ h. both_ways (cluster_active Z) idle (deep_inside (λ u. holds u x.root ≡ true → cluster_active u ≡ true) in' (maximal_all (Deep (λ u. holds u x.root ≡ true → cluster_active u ≡ true)) ts d t (root_fresh net ts x) at) h))

    sofar_after : Sofar net ts x (without N Z)
    sofar_after = record {
      within = λ v h. s.within v (and_parts (N v) _ h).0;
      tied = tied_after net ts x N s.within Z one-edge x.R nested (bridges net ts x) (parts_off net ts x) (deep_used x.R) s.tied;
      rooted = still (N x.root) (holds Z x.root) s.rooted not_root;
      gone = λ v h k. elim (and_cases (N v) (not (holds Z v)) k) [
        | inl a ↦ old v (s.gone v h a)
        | inr a ↦
            let hz = not-false (holds Z v) a in
            let same = only_last net ts x d t v at (inside_sub in' v hz) h in
            (Z, subst (Inside Z) same.1 in', idle, hz, λ w i. taken_off (N w) (holds Z w) i)
      ];
    }
      where
        taken_off : (p q : Bool) → q ≡ true → (p && not q) ≡ false
        taken_off true q e = ap not e
        taken_off false q e = refl

        old : (v : ℕ) → (u : Cluster) × Inside u x.R × (cluster_active u ≡ false) × (holds u v ≡ true) × ((w : ℕ) → holds u w ≡ true → N w ≡ false) →
            (u : Cluster) × Inside u x.R × (cluster_active u ≡ false) × (holds u v ≡ true) × ((w : ℕ) → holds u w ≡ true → without N Z w ≡ false)
        old v (u, a, b, c, f) = (u, a, b, c, λ w i. and_left (N w) _ (f w i))

    -- a node leaves
    falls : left (without N Z) + 1 ≤ left N
    falls =
        let E = edges_within net ts N in
        let a = sum_to_some (edge_count net) (λ i. one (E i && splits Z (first_end net i) (second_end net i))) (omega arith) in
        let b = and_parts (E a.0) _ (one_is (E a.0 && splits Z (first_end net a.0) (second_end net a.0)) a.2) in
        let c = in_e net ts x N s.within a.0 b.0 in
        elim (held_one (holds Z (first_end net a.0)) (holds Z (second_end net a.0)) b.1) [
          | inl h ↦ drops (first_end net a.0) c.1 h
          | inr h ↦ drops (second_end net a.0) c.2 h
        ]
      where
        fewer : (p q : Bool) → one (p && not q) ≤ one p
        fewer true true = omega arith
        fewer true false = omega arith
        fewer false q = omega arith

        gone_one : (p q : Bool) → p ≡ true → q ≡ true → one (p && not q) + 1 ≤ one p
        gone_one true true i j = omega arith
        gone_one true false i j = let z : ◌≡◌ {A = ℕ} 0 1 = cc in absurd (omega arith)
        gone_one false q i j = let z : ◌≡◌ {A = ℕ} 0 1 = cc in absurd (omega arith)

        drops : (v : ℕ) → N v ≡ true → holds Z v ≡ true → left (without N Z) + 1 ≤ left N
        drops v nv hv = sum_to_less (node_count net) (λ u. one (without N Z u)) (λ u. one (N u)) v (held_below (node_count net) ts x.shared x.r x.R v x.at (s.within v nv)) (λ u l. fewer (N u) (holds Z u)) (gone_one (N v) (holds Z v) nv hv)

  -- pruning to the end
  abbrev pub Done : (ℕ → Bool) → Type 0
  Done N = Sofar net ts x N × Every (λ u. prunable net (edges_within net ts N) u ≡ false) ts

  prune_ends : (k : ℕ) (N : ℕ → Bool) → Sofar net ts x N → left N ≤ k → Done (prune_from k net ts N)
  prune_ends zero N s l =
      let a = sum_to_at (node_count net) (λ v. one (N v)) x.root (held_below (node_count net) ts x.shared x.r x.R x.root x.at x.held) in
      let b = one_true (N x.root) s.rooted in
      absurd (omega arith)
  prune_ends (suc k) N s l = go (to_prune net ts N) refl (prune_ends k)
    where
      go : (o : Option Cluster) → to_prune net ts N ≡ o → ((M : ℕ → Bool) → Sofar net ts x M → left M ≤ k → Done (prune_from k net ts M)) →
          Done (elim o as (λ z. ℕ → Bool) [ Some u ↦ prune_from k net ts (without N u) | None ↦ N ])
      go None e f = (s, none_prunable N e)
      go (Some u) e f =
          let a = lowest_some (prunable net (edges_within net ts N)) ts (range_with_len 0 (length ts)) u e in
          let b = cluster_of_in ts a.0 u a.1 in
          let c = and_parts (not (cluster_active u)) _ a.2 in
          let dead = not-true (cluster_active u) c.0 in
          let deg = eqb-true (degree net (edges_within net ts N) u) 1 c.1 in
          f (without N u) (sofar_after N s u b.0 b.1 b.2 b.3 dead deg) (let z = falls N s u b.0 b.1 b.2 b.3 dead deg in omega arith)

  pub pruned_done : Done (pruned net ts)
  pruned_done = prune_ends (node_count net) (grown_node ts) sofar_start (sum_to_ones (node_count net) (grown_node ts))

  -- an inactive cluster that is left in part is left by two edges
  pub busy : (N : ℕ → Bool) → Done N → Every (λ u. cluster_active u ≡ false → touches N u ≡ true → 2 ≤ degree net (edges_within net ts N) u) ts
  busy N (s, none) = all_maximal (Deep Q) ts (λ d t e. deep_weaker (λ u. (prunable net E u ≡ false) × (holds u x.root ≡ true → cluster_active u ≡ true)) Q at t
      (deep_both (λ u. prunable net E u ≡ false) (λ u. holds u x.root ≡ true → cluster_active u ≡ true) t (maximal_all (Deep (λ u. prunable net E u ≡ false)) ts d t none e) (maximal_all (Deep (λ u. holds u x.root ≡ true → cluster_active u ≡ true)) ts d t (root_fresh net ts x) e)))
    where
      E : ℕ → Bool
      E = edges_within net ts N

      Q : Cluster → Type 0
      Q u = cluster_active u ≡ false → touches N u ≡ true → 2 ≤ degree net (edges_within net ts N) u

      at : (u : Cluster) → (prunable net E u ≡ false) × (holds u x.root ≡ true → cluster_active u ≡ true) → Q u
      at u (p, f) dead meet =
          let w = witness N u meet in
          let out : holds u x.root ≡ false = only (holds u x.root) (λ h. both_ways (cluster_active u) dead (f h)) in
          let c = crossing net E (holds u) (joined_all net ts x N s.within s.tied w.0 x.root w.2 s.rooted) w.1 out in
          let one-at-least = crossing_counts net E u c.0 (e_below net ts x N s.within c.0 c.1) c.1 c.2 in
          let ne : degree net E u ≡ 1 → ⊥ = λ e. both_ways (prunable net E u) p (and_from (not (cluster_active u)) _ (not_from_false (cluster_active u) dead) (eq-eqb (degree net E u) 1 e)) in
          elim (cases_eq (degree net E u) 1) [ inl e ↦ absurd (ne e) | inr e ↦ omega arith ]
