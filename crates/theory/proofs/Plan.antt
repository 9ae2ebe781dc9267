-- The plan: what pruning leaves is a tree, and its cost with twice its lost prizes is within the lower bound.
use Rattle.std.proofs.Common.{◌≡◌, ℕ, ◌+◌, ◌*◌, ◌<◌, ◌≤◌, Bool, true, false, cond, ◌&&◌, ◌≢◌, List, get_or, sym, ap, ◌∙◌, subst, inl, inr, arith}
use Rattle.std.proofs.lemmas.Bool.{or_left, or_cases, and_parts, and_from, cases_Bool, cases_eq, both_ways, cond-true, cond-false, ltb-true}
use Rattle.network.specs.Nets.{Net}
use Rattle.theory.specs.Sums.{sum_to, one}
use Rattle.theory.specs.Nets.{node_count, edge_count, prize, cost, first_end, second_end, doubled_prize, doubled_cost}
use Rattle.theory.specs.Clusters.{Cluster, Slot, moat, cluster_active, holds, over, under, splits, Deep, over_all, Every}
use Rattle.theory.specs.Clusters.Cluster.{node, merged}
use Rattle.theory.specs.Clusters.Slot.{maximal, inside}
use Rattle.theory.specs.Trees.{Tree, tree_cost, lost}
use Rattle.theory.specs.Growth.{grow, active_count, ended}
use Rattle.theory.specs.Prune.{edges_within, degree, pruned, plan}
use Rattle.theory.specs.Laws.{PrunedOut, PlanTree, WithinTwice}
use Rattle.theory.proofs.Bools.{only, one_true, one_false, one_is, same_true, same_false, flip}
use Rattle.theory.proofs.Sums.{sum_to_le, sum_to_none, sum_to_single, sum_to_scale, sum_to_double, sum_to_double_not}
use Rattle.theory.proofs.Families.{deep_head, deep_weaker, all_same, all_sum_to, maximal_le, all_plus}
use Rattle.theory.proofs.Slots.{maximal_all, all_maximal, maximal_at, same_maximal}
use Rattle.theory.proofs.Sharing.{some_maximal, maximal_two, held_below, cross, lone_sum}
use Rattle.theory.proofs.Sharing as Sharing
use Rattle.theory.proofs.Lower.{left_out}
use Rattle.theory.proofs.Laminar.{Sub, deep_sub, deep_both}
use Rattle.theory.proofs.Invariant.{Bridge, Made, Fresh, Inv}
use Rattle.theory.proofs.Inside.{Inside, deep_inside, touches, touched, witness, untouched, idle, untouched_lost, untouched_idle, used_paid}
use Rattle.theory.proofs.Numbers.{numbered}
use Rattle.theory.proofs.Valid.{Fine}
use Rattle.theory.proofs.Steps.{sits}
use Rattle.theory.proofs.Runs.{kept, counted}
use Rattle.theory.proofs.Pruning.{Last, Sofar, TiedAt, UsedBy, bridges, parts_off, only_last, in_e, e_used, e_below, e_has, joined_all, deep_used}
use Rattle.theory.proofs.Pruned.{Done, from_inside, pruned_done, busy}
use Rattle.theory.proofs.Rings.{no_ring, between, Sole, sole}
use Rattle.theory.proofs.Balance.{BetweenAt, Busy, Good, paid_for}
use Rattle.theory.proofs.Lost.{lost_in}
use Rattle.theory.proofs.Marks.{plan_tree}

-- growth at its end
pub last : (net : Net) → Fine net → (k : ℕ) → 1 ≤ node_count net → ended (grow net k) ≡ true → Last net (grow net k).slots
last net f k some done = record {
  r = a.0;
  R = a.1;
  at = a.2;
  still_active = still_active;
  others = λ c t e ne. only (cluster_active t) (λ g.
      let x = maximal_two (λ u. one (cluster_active u)) ts a.0 c a.1 t a.2 e (λ z. ne (sym z)) in
      let y = one_true (cluster_active a.1) still_active in
      let z = one_true (cluster_active t) g in
      let few = ltb-true (active_count (grow net k)) 2 done in
      omega arith);
  shared = h.shared;
  made = h.made;
  numbered = numbered net f k;
  root = d.0;
  held = d.1;
  fresh = d.3;
}
  where
    ts : List Slot
    ts = (grow net k).slots

    h : Inv net (grow net k).time (grow net k).slots
    h = kept net f k

    a : (c : ℕ) × (t : Cluster) × (get_or (grow net k).slots c inside ≡ maximal t) × (1 ≤ one (cluster_active t))
    a = some_maximal (λ t. one (cluster_active t)) (grow net k).slots ((counted net f k).active some)

    still_active : cluster_active a.1 ≡ true
    still_active = one_is (cluster_active a.1) a.3

    d : (v : ℕ) × (holds a.1 v ≡ true) × (Sharing.dep a.1 v ≡ (grow net k).time) × Fresh v a.1
    d = (sits net f (grow net k).time (grow net k).slots h a.0 a.1 a.2).deepest still_active

-- what is left is a tree
pub tree : (net : Net) (ts : List Slot) (x : Last net ts) (N : ℕ → Bool) → Sofar net ts x N → Tree net N (edges_within net ts N)
tree net ts x N sofar = record {
  some = (x.root, sofar.rooted);
  nodes = λ v h. held_below (node_count net) ts x.shared x.r x.R v x.at (sofar.within v h);
  edges = λ s h. let i = in_e net ts x N sofar.within s h in (e_below net ts x N sofar.within s h, i.1, i.2);
  joined = joined_all net ts x N sofar.within sofar.tied;
  no_ring = no_ring net x.R (bridges net ts x) (parts_off net ts x) (edges_within net ts N) (e_used net ts x N sofar.within);
}

module _ (net : Net) (ts : List Slot) (x : Last net ts) (N : ℕ → Bool) (done : Done net ts x N) where
  abbrev E : ℕ → Bool
  E = edges_within net ts N

  abbrev m : ℕ
  m = edge_count net

  sofar : Sofar net ts x N
  sofar = done.0

  -- other maximal clusters have nothing of N
  out : (c : ℕ) (t : Cluster) → get_or ts c inside ≡ maximal t → c ≢ x.r → touches N t ≡ false
  out c t e ne = untouched N t (λ v h. only (N v) (λ n. ne (only_last net ts x c t v e h (sofar.within v n)).0))

  count_between : (e : ℕ) (l r : Cluster) →
      (touches N l ≡ true → touches N r ≡ true → (e < edge_count net) × (edges_within net ts N e ≡ true) × (between net l r e ≡ true) × ((s : ℕ) → edges_within net ts N s ≡ true → between net l r s ≡ true → s ≡ e)) →
      sum_to (edge_count net) (λ s. one (edges_within net ts N s && between net l r s)) ≡ one (touches N l && touches N r)
  count_between e l r f = elim (cases_Bool (touches N l && touches N r)) [
    | inl k ↦
        let p = and_parts (touches N l) (touches N r) k in
        let g = f p.0 p.1 in
        let a = sum_to_single m F e g.0 (λ s b ne. one_false (E s && between net l r s) (only (E s && between net l r s) (λ h. let q = and_parts (E s) _ h in ne (g.3 s q.0 q.1)))) in
        let b = one_true (E e && between net l r e) (and_from (E e) _ g.1 g.2) in
        let c = one_true (touches N l && touches N r) k in
        omega arith
    | inr k ↦
        let a = sum_to_none m F (λ s b. one_false (E s && between net l r s) (only (E s && between net l r s) (λ h. both_ways (touches N l && touches N r) k (meets s h)))) in
        let c = one_false (touches N l && touches N r) k in
        omega arith
  ]
    where
      F : ℕ → ℕ
      F s = one (E s && between net l r s)

      meets : (s : ℕ) → (E s && between net l r s) ≡ true → (touches N l && touches N r) ≡ true
      meets s h =
          let q = and_parts (E s) _ h in
          let i = in_e net ts x N sofar.within s q.0 in
          elim (or_cases (holds l (first_end net s) && holds r (second_end net s)) _ q.1) [
            | inl j ↦ let p = and_parts (holds l (first_end net s)) _ j in and_from (touches N l) _ (touched N l (first_end net s) p.0 i.1) (touched N r (second_end net s) p.1 i.2)
            | inr j ↦ let p = and_parts (holds l (second_end net s)) _ j in and_from (touches N l) _ (touched N l (second_end net s) p.0 i.2) (touched N r (first_end net s) p.1 i.1)
          ]

  betweens : Every (BetweenAt net N (edges_within net ts N)) ts
  betweens = all_maximal (Deep (BetweenAt net N E)) ts (λ c t e. elim (cases_eq c x.r) [
    | inl g ↦ subst (Deep (BetweenAt net N E)) (same_maximal x.R t (sym x.at ∙ ap (λ i. get_or ts i inside) (sym g) ∙ e)) in_last
    | inr g ↦ deep_weaker (Sub t) (BetweenAt net N E) (λ u s. elsewhere t (out c t e g) u s) t (deep_sub t)
  ])
    where
      elsewhere : (t : Cluster) → touches N t ≡ false → (u : Cluster) → Sub t u → BetweenAt net N E u
      elsewhere t k (node o v) s = tt
      elsewhere t k (merged o c e l r) s = count_between e l r (λ p q. let w = witness N l p in absurd (both_ways (touches N t) k (touched N t w.0 (s w.0 (or_left (holds l w.0) _ w.1)) w.2)))

      at : (u : Cluster) → Inside u x.R → Bridge net u → TiedAt net N u → UsedBy x.R u → ((s : ℕ) → E s ≡ true → Sole net s u) → BetweenAt net N E u
      at (node o v) i b k d f = tt
      at (merged o c e l r) i b k d f = count_between e l r (λ p q. let n = k p q in
          (b.0, e_has net ts x N sofar.within e d n.0 n.1, or_left (holds l (first_end net e) && holds r (second_end net e)) _ (and_from (holds l (first_end net e)) _ b.1 b.2), f))

      in_last : Deep (BetweenAt net N E) x.R
      in_last = from_inside (BetweenAt net N E) x.R (λ u i. at u i
          (deep_inside (Bridge net) i (bridges net ts x)) (deep_inside (TiedAt net N) i sofar.tied) (deep_inside (UsedBy x.R) i (deep_used x.R))
          (λ s h. deep_inside (Sole net s) i (sole net s x.R (bridges net ts x) (parts_off net ts x) (e_used net ts x N sofar.within s h))))

  -- at the end all that is left is of one maximal cluster
  degree_out : (t : Cluster) → ((s : ℕ) → E s ≡ true → splits t (first_end net s) (second_end net s) ≡ false) → degree net (edges_within net ts N) t ≡ 0
  degree_out t f = sum_to_none m (λ s. one (E s && splits t (first_end net s) (second_end net s))) (λ s l. one_false (E s && splits t (first_end net s) (second_end net s)) (only (E s && splits t (first_end net s) (second_end net s)) (λ h.
      let q = and_parts (E s) _ h in both_ways (splits t (first_end net s) (second_end net s)) (f s q.0) q.1)))

  good : Good net N (edges_within net ts N) ts
  good = record {
    balance =
        let a = lone_sum (degree net E) ts x.r x.R x.at (λ c t e ne. degree_out t (λ s h. neither c t e ne s h)) in
        let b = degree_out x.R (λ s h. let i = in_e net ts x N sofar.within s h in same_true (holds x.R (first_end net s)) (holds x.R (second_end net s)) (sofar.within (first_end net s) i.1) (sofar.within (second_end net s) i.2)) in
        let c = lone_sum (λ t. one (touches N t)) ts x.r x.R x.at (λ c t e ne. one_false (touches N t) (out c t e ne)) in
        let d = one_true (touches N x.R) (touched N x.R x.root x.held sofar.rooted) in
        omega arith;
    busy = all_maximal (Deep (Busy net N E)) ts (λ c t e. deep_both (λ u. cluster_active u ≡ false → touches N u ≡ true → 2 ≤ degree net E u) (BetweenAt net N E) t
        (maximal_all (Deep (λ u. cluster_active u ≡ false → touches N u ≡ true → 2 ≤ degree net E u)) ts c t (busy net ts x N done) e) (maximal_all (Deep (BetweenAt net N E)) ts c t betweens e));
  }
    where
      neither : (c : ℕ) (t : Cluster) → get_or ts c inside ≡ maximal t → c ≢ x.r → (s : ℕ) → E s ≡ true → splits t (first_end net s) (second_end net s) ≡ false
      neither c t e ne s h =
          let i = in_e net ts x N sofar.within s h in
          same_false (holds t (first_end net s)) (holds t (second_end net s))
          (only (holds t (first_end net s)) (λ j. ne (only_last net ts x c t (first_end net s) e j (sofar.within (first_end net s) i.1)).0))
          (only (holds t (second_end net s)) (λ j. ne (only_last net ts x c t (second_end net s) e j (sofar.within (second_end net s) i.2)).0))

  -- the lost prizes are paid by the moats that N does not meet
  lost_le : 2 * lost net N ≤ over_all (idle N) ts
  lost_le =
      let L : ℕ → ℕ = left_out N (doubled_prize net) in
      let a = x.shared L in
      let b = sum_to_double_not (node_count net) N (prize net) in
      let c = maximal_le (λ t. over L t ≤ under (idle N) t) (over L) (under (idle N)) (λ t h. h) ts (all_maximal (λ t. over L t ≤ under (idle N) t) ts each) in
      omega arith
    where
      each : (c : ℕ) (t : Cluster) → get_or ts c inside ≡ maximal t → over (left_out N (doubled_prize net)) t ≤ under (idle N) t
      each c t e = elim (cases_eq c x.r) [
        | inl g ↦ subst (λ u. over (left_out N (doubled_prize net)) u ≤ under (idle N) u) (same_maximal x.R t (sym x.at ∙ ap (λ i. get_or ts i inside) (sym g) ∙ e))
            (lost_in net N x.R (maximal_all (Deep (Made net)) ts x.r x.R x.made x.at) (parts_off net ts x) sofar.gone)
        | inr g ↦
            let k = out c t e g in
            let p = (deep_head (Made net) t (maximal_all (Deep (Made net)) ts c t x.made e)).1 (x.others c t e g) in
            let i = untouched_lost N (doubled_prize net) t k in
            let j = untouched_idle N t k in
            omega arith
      ]

  -- the edges left are paid by the moats that they cross
  cost_le : 2 * tree_cost net (edges_within net ts N) ≤ over_all (λ u. moat u * degree net (edges_within net ts N) u) ts
  cost_le =
      let S : Cluster → ℕ → ℕ = λ u s. one (E s && splits u (first_end net s) (second_end net s)) in
      let a = sum_to_double m E (cost net) in
      let b = all_same (λ u. moat u * degree net E u) (λ u. sum_to m (λ s. moat u * S u s)) (λ u. sym (sum_to_scale m (moat u) (S u))) ts in
      let c = all_sum_to m (λ s u. moat u * S u s) ts in
      let d = sum_to_le m (λ s. cond (E s) (doubled_cost net s) 0) (λ s. over_all (λ u. moat u * S u s) ts) (λ s l. each s) in
      omega arith
    where
      each : (s : ℕ) → cond (E s) (doubled_cost net s) 0 ≤ over_all (λ u. moat u * one (E s && splits u (first_end net s) (second_end net s))) ts
      each s = elim (cases_Bool (E s)) [
        | inl h ↦
            let a = used_paid net s x.R (bridges net ts x) (e_used net ts x N sofar.within s h) in
            let b = maximal_at (cross (first_end net s) (second_end net s)) ts x.r x.R x.at in
            let c = all_same (λ u. moat u * one (E s && splits u (first_end net s) (second_end net s))) (λ u. cond (splits u (first_end net s) (second_end net s)) (moat u) 0) (λ u. ap (λ z. moat u * one (z && splits u (first_end net s) (second_end net s))) h ∙ sym (flip (splits u (first_end net s) (second_end net s)) (moat u))) ts in
            let d = cond-true (E s) (doubled_cost net s) 0 h in
            omega arith
        | inr h ↦ let d = cond-false (E s) (doubled_cost net s) 0 h in omega arith
      ]

  halves : over_all (λ u. moat u * (2 * one (touches N u))) ts + 2 * over_all (idle N) ts ≡ 2 * over_all moat ts
  halves =
      let a = all_plus (λ u. moat u * (2 * one (touches N u))) (λ u. idle N u + idle N u) ts in
      let b = all_plus (idle N) (idle N) ts in
      let c = all_plus moat moat ts in
      let d = all_same (λ u. moat u * (2 * one (touches N u)) + (idle N u + idle N u)) (λ u. moat u + moat u) (λ u. point (touches N u) (moat u)) ts in
      omega arith
    where
      point : (z : Bool) (y : ℕ) → y * (2 * one z) + (cond z 0 y + cond z 0 y) ≡ y + y
      point true y = omega arith
      point false y = omega arith

module _ (net : Net) (f : Fine net) (k : ℕ) (some : 1 ≤ node_count net) (over' : ended (grow net k) ≡ true) where
  abbrev ts : List Slot
  ts = (grow net k).slots

  end : Last net (grow net k).slots
  end = last net f k some over'

  pub plan_is_a_tree : PlanTree net (plan net (grow net k))
  plan_is_a_tree = plan_tree net (pruned net ts) (edges_within net ts (pruned net ts)) (tree net ts end (pruned net ts) (pruned_done net ts end).0)

  pub pruning_ends : PrunedOut net (grow net k)
  pruning_ends = (pruned_done net ts end).1

  pub plan_within_twice : WithinTwice net (grow net k)
  plan_within_twice =
      let N = pruned net ts in
      let done = pruned_done net ts end in
      let a = paid_for net N (edges_within net ts N) f k (good net ts end N done) in
      let b = cost_le net ts end N done in
      let c = lost_le net ts end N done in
      let d = halves net ts end N done in
      omega arith
