-- The strong plan: a tree cut from the grown tree, and none such is better.
use Rattle.std.proofs.Common.{◌≡◌, ℕ, zero, suc, ◌+◌, ◌<◌, ◌≤◌, Bool, true, false, cond, ◌&&◌, ◌||◌, eqb, ltb, ◌⊎◌, List, [], ◌∷◌, Some, None, Option, sym, refl, ap, ◌∙◌, subst, inl, inr, arith}
use Rattle.std.proofs.lemmas.Bool.{eqb-true, eq-eqb, or_left, or_right, or_cases, and_parts, and_from, cases_Bool, cases_eq, cases_lt, both_ways, cond-true, cond-false, ltb-true, ltb-false, and_cases}
use Rattle.std.specs.List.{AllByRecursion}
use Rattle.network.specs.Nets.{Net}
use Rattle.theory.specs.Sums.{sum_of, sum_to}
use Rattle.theory.specs.Nets.{node_count, edge_count, prize, first_end, second_end, cost}
use Rattle.theory.specs.Clusters.{Slot, holds}
use Rattle.theory.specs.Trees.{Walk, Tree, Cut, tree_cost, lost}
use Rattle.theory.specs.Trees.Walk.{stay, there, back}
use Rattle.theory.specs.Growth.{grow, ended}
use Rattle.theory.specs.Prune.{chosen, grown_node, edges_within, grown_edge, marks, marked}
use Rattle.theory.specs.Strong.{lowest_below, or_zero, Branch, hung, lists, Joins, Hang, root_of, branches, net_worth, greatest, best_node, kept, strong_nodes}
use Rattle.theory.specs.Laws.{HungTree, StrongTree, StrongBest}
use Rattle.theory.proofs.Sums.{sum_to_same}
use Rattle.theory.proofs.Walks.{walk_on, walk_turn}
use Rattle.theory.proofs.Sharing.{held_below}
use Rattle.theory.proofs.Valid.{Fine}
use Rattle.theory.proofs.Pruning.{Last, grown_is, in_e, e_used, e_below, bridges, parts_off}
use Rattle.theory.proofs.Pruned.{sofar_start}
use Rattle.theory.proofs.Rings.{no_ring}
use Rattle.theory.proofs.Plan.{last, tree}
use Rattle.theory.proofs.Marks.{marked_is, plan_tree}
use Rattle.theory.proofs.Hanging.{lowest_some, lowest_none, hangs, hung_is, listed_is}
use Rattle.theory.proofs.Worths.{over_hung, equation, hung_sum, listed_sum}
use Rattle.theory.proofs.WorthMost.{at_most}
use Rattle.theory.proofs.WorthKept.{reach, kept_old, kept_new, kept_hung, kept_self}

-- the lowest number that passes is no larger than any other
lowest_least : (n : ℕ) (p : ℕ → Bool) (v u : ℕ) → lowest_below n p ≡ Some v → p u ≡ true → v ≤ u
lowest_least zero p v u e h = let z : ◌≡◌ {A = ℕ} 0 1 = cc in absurd (omega arith)
lowest_least (suc n) p v u e h = go (lowest_below n p) refl e (λ k. lowest_least n p v u k h)
  where
    go : (o : Option ℕ) → lowest_below n p ≡ o → elim o as (λ z. Option ℕ) [ Some w ↦ Some w | None ↦ cond (p n) (Some n) None ] ≡ Some v → (lowest_below n p ≡ Some v → v ≤ u) → v ≤ u
    go None g k f = elim (cases_lt u n) [
      | inl l ↦ absurd (both_ways (p u) (lowest_none n p g u l) h)
      | inr l ↦ last' (p n) l k
    ]
      where
        last' : (b : Bool) → n ≤ u → cond b (Some n) None ≡ Some v → v ≤ u
        last' true l j = let s : n ≡ v = cc in omega arith
        last' false l j = let z : ◌≡◌ {A = ℕ} 0 1 = cc in absurd (omega arith)
    go (Some w) g k f = f (g ∙ k)

-- the greatest
module _ (p : ℕ → Bool) (W : ℕ → ℕ) (v : ℕ) (pv : p v ≡ true) (low : (u : ℕ) → p u ≡ true → v ≤ u) where
  abbrev G : ℕ → ℕ
  G n = greatest n p W v

  pub record Greatest (n : ℕ) : Type 0 where
    pub passes : p (greatest n p W v) ≡ true
    pub most : (u : ℕ) → u < n → p u ≡ true → W u ≤ W (greatest n p W v)
    pub least : (u : ℕ) → u < n → p u ≡ true → W u ≡ W (greatest n p W v) → greatest n p W v ≤ u
    pub below : (greatest n p W v ≡ v) ⊎ (greatest n p W v < n)

  pub greatest_is : (n : ℕ) → Greatest n
  greatest_is zero = record { passes = pv; most = λ u l. absurd (omega arith); least = λ u l. absurd (omega arith); below = inl refl }
  greatest_is (suc n) = go (greatest_is n) (cases_Bool (p n && ltb (W (G n)) (W n)))
    where
      go : Greatest n → ((p n && ltb (W (G n)) (W n)) ≡ true) ⊎ ((p n && ltb (W (G n)) (W n)) ≡ false) → Greatest (suc n)
      go g (inl k) =
          let x = and_parts (p n) _ k in
          let l = ltb-true (W (G n)) (W n) x.1 in
          let e : greatest (suc n) p W v ≡ n = cond-true (p n && ltb (W (G n)) (W n)) n (G n) k in
          let we : W (greatest (suc n) p W v) ≡ W n = ap W e in
          record {
            passes = ap p e ∙ x.0;
            most = λ u m h. elim (cases_eq u n) [ inl s ↦ let q : W u ≡ W n = ap W s in omega arith | inr s ↦ let q = g.most u (omega arith) h in omega arith ];
            least = λ u m h i. elim (cases_eq u n) [ inl s ↦ omega arith | inr s ↦ let q = g.most u (omega arith) h in absurd (omega arith) ];
            below = inr (omega arith);
          }
      go g (inr k) =
          let e : greatest (suc n) p W v ≡ G n = cond-false (p n && ltb (W (G n)) (W n)) n (G n) k in
          let we : W (greatest (suc n) p W v) ≡ W (G n) = ap W e in
          record {
            passes = ap p e ∙ g.passes;
            most = λ u m h. elim (cases_eq u n) [
              | inl s ↦
                  let q : W u ≡ W n = ap W s in
                  elim (and_cases (p n) _ k) [ inl i ↦ absurd (both_ways (p n) i (ap p (sym s) ∙ h)) | inr i ↦ let j = ltb-false (W (G n)) (W n) i in omega arith ]
              | inr s ↦ let q = g.most u (omega arith) h in omega arith
            ];
            least = λ u m h i. elim (cases_eq u n) [
              | inl s ↦ elim g.below [ inl b ↦ let j = low u h in omega arith | inr b ↦ omega arith ]
              | inr s ↦ let q = g.least u (omega arith) h (omega arith) in omega arith
            ];
            below = elim g.below [ inl b ↦ inl (e ∙ b) | inr b ↦ inr (omega arith) ];
          }

-- prizes taken and prizes lost
taken_lost : (n : ℕ) (N : ℕ → Bool) (p : ℕ → ℕ) → sum_to n (λ v. cond (N v) (p v) 0) + sum_to n (λ v. cond (N v) 0 (p v)) ≡ sum_to n p
taken_lost zero N p = refl
taken_lost (suc n) N p = let ih = taken_lost n N p in let e = each (N n) (p n) in omega arith
  where
    each : (b : Bool) (x : ℕ) → cond b x 0 + cond b 0 x ≡ x
    each true x = omega arith
    each false x = omega arith

-- a set inside another: a test more changes nothing
inner_cond : (a b : Bool) (x : ℕ) → (b ≡ true → a ≡ true) → cond b x 0 ≡ cond a (cond b x 0) 0
inner_cond true b x f = refl
inner_cond false true x f = let z : ◌≡◌ {A = ℕ} 0 1 = let k : false ≡ true = f refl in cc in absurd (omega arith)
inner_cond false false x f = refl

module _ (net : Net) (ts : List Slot) (x : Last net ts) where
  abbrev M : ℕ → Bool
  M = grown_node ts

  abbrev F : ℕ → Bool
  F = grown_edge net ts

  abbrev root : ℕ
  root = root_of net ts

  abbrev bs : List Branch
  bs = branches net ts

  abbrev W : ℕ → ℕ
  W = net_worth net ts

  abbrev h : ℕ
  h = best_node net ts

  pub grown_tree : Tree net (grown_node ts) (grown_edge net ts)
  grown_tree = tree net ts x (grown_node ts) (sofar_start net ts x)

  root_found : (o : Option ℕ) → lowest_below (node_count net) (grown_node ts) ≡ o → (grown_node ts (or_zero o) ≡ true) × ((v : ℕ) → grown_node ts v ≡ true → or_zero o ≤ v)
  root_found None e = absurd (both_ways (M x.root) (lowest_none (node_count net) M e x.root (held_below (node_count net) ts x.shared x.r x.R x.root x.at x.held)) (grown_is net ts x x.root ∙ x.held))
  root_found (Some v) e = ((lowest_some (node_count net) M v e).1, λ u k. lowest_least (node_count net) M v u e k)

  root_is : (grown_node ts (root_of net ts) ≡ true) × ((v : ℕ) → grown_node ts v ≡ true → root_of net ts ≤ v)
  root_is = root_found (lowest_below (node_count net) (grown_node ts)) refl

  hang : Hang net (grown_edge net ts) (root_of net ts) (branches net ts)
  hang = hangs net M F grown_tree root root_is.0

  nodes_are : (v : ℕ) → hung (root_of net ts) (branches net ts) v ≡ grown_node ts v
  nodes_are = hung_is net M F grown_tree root root_is.0

  edges_are : (s : ℕ) → lists (branches net ts) s ≡ grown_edge net ts s
  edges_are = listed_is net M F grown_tree root root_is.0

  best_is : Greatest (grown_node ts) (net_worth net ts) (root_of net ts) root_is.0 root_is.1 (node_count net)
  best_is = greatest_is M W root root_is.0 root_is.1 (node_count net)

  abbrev K : ℕ → Bool
  K = strong_nodes net ts

  k_in : (v : ℕ) → strong_nodes net ts v ≡ true → grown_node ts v ≡ true
  k_in v k = sym (nodes_are v) ∙ kept_hung net F root W h bs v k

  k_held : (v : ℕ) → strong_nodes net ts v ≡ true → holds x.R v ≡ true
  k_held v k = sym (grown_is net ts x v) ∙ k_in v k

  k_best : strong_nodes net ts (best_node net ts) ≡ true
  k_best = kept_self net F root W h bs hang (nodes_are h ∙ best_is.passes)

  -- which branches stay
  branches_kept : (cs : List Branch) → Hang net (grown_edge net ts) (root_of net ts) cs → ((v : ℕ) → hung (root_of net ts) cs v ≡ true → strong_nodes net ts v ≡ kept net (net_worth net ts) (root_of net ts) (best_node net ts) cs v) →
      AllByRecursion (λ b. strong_nodes net ts b.child ≡ (eqb b.child (best_node net ts) || (strong_nodes net ts b.parent && ltb (cost net b.edge) (net_worth net ts b.child)))) cs
  branches_kept [] w a = tt
  branches_kept (b ∷ cs) w a =
      let old : (v : ℕ) → hung root cs v ≡ true → K v ≡ kept net W root h cs v = λ v i. a v (or_right (eqb v b.child) _ i) ∙ kept_old net F root W h b cs w v i in (
        a b.child (or_left (eqb b.child b.child) _ (eq-eqb b.child b.child refl)) ∙ kept_new net F root W h b cs ∙ ap (λ z. eqb b.child h || (z && ltb (cost net b.edge) (W b.child))) (sym (old b.parent w.0)),
        branches_kept cs w.4 old,
      )

  pub hung_tree : HungTree net ts
  hung_tree = record {
    root_in = root_is.0;
    root_lowest = root_is.1;
    hangs = hang;
    nodes = nodes_are;
    edges = edges_are;
    worth = equation net F root bs hang (prize net);
    best_in = best_is.passes;
    best = λ v k. best_is.most v (grown_tree.nodes v k) k;
    best_lowest = λ v k e. best_is.least v (grown_tree.nodes v k) k e;
    best_kept = k_best;
    branches_kept = branches_kept bs hang (λ v i. refl);
  }

  abbrev EK : ℕ → Bool
  EK = edges_within net ts (strong_nodes net ts)

  -- a branch's edge is kept if both its nodes are
  edge_kept : (b : Branch) → Joins net b → F b.edge ≡ true → (N : ℕ → Bool) → edges_within net ts N b.edge ≡ (N b.child && N b.parent)
  edge_kept b j e N = ap (λ z. z && (N (first_end net b.edge) && N (second_end net b.edge))) (and_parts (chosen ts b.edge) _ e).0 ∙ elim j [
    | inl i ↦ ap (λ z. N z && N (second_end net b.edge)) i.0 ∙ ap (λ z. N b.parent && N z) i.1 ∙ swap (N b.parent) (N b.child)
    | inr i ↦ ap (λ z. N z && N (second_end net b.edge)) i.0 ∙ ap (λ z. N b.child && N z) i.1
  ]
    where
      swap : (y z : Bool) → (y && z) ≡ (z && y)
      swap true true = refl
      swap true false = refl
      swap false true = refl
      swap false false = refl

  -- from the best node to each node kept
  kept_walk : (cs : List Branch) → Hang net (grown_edge net ts) (root_of net ts) cs → ((v : ℕ) → hung (root_of net ts) cs v ≡ true → strong_nodes net ts v ≡ kept net (net_worth net ts) (root_of net ts) (best_node net ts) cs v) →
      (v : ℕ) → hung (root_of net ts) cs v ≡ true → strong_nodes net ts v ≡ true → Walk net (edges_within net ts (strong_nodes net ts)) (best_node net ts) v
  kept_walk [] w a v k n =
      let i = and_parts (eqb v root) _ (sym (a v k) ∙ n) in
      subst (λ u. Walk net EK u v) (eqb-true v root k ∙ eqb-true root h i.1) stay
  kept_walk (b ∷ cs) w a v k n = go (or_cases (eqb v b.child) (hung root cs v) k) (kept_walk cs w.4 (λ u i. a u (or_right (eqb u b.child) _ i) ∙ kept_old net F root W h b cs w u i))
    where
      kc : ℕ → Bool
      kc = kept net (net_worth net ts) (root_of net ts) (best_node net ts) cs

      parent_is : K b.parent ≡ kc b.parent
      parent_is = a b.parent (or_right (eqb b.parent b.child) _ w.0) ∙ kept_old net F root W h b cs w b.parent w.0

      child_is : K b.child ≡ (eqb b.child h || (kc b.parent && ltb (cost net b.edge) (W b.child)))
      child_is = a b.child (or_left (eqb b.child b.child) _ (eq-eqb b.child b.child refl)) ∙ kept_new net F root W h b cs

      over_edge : K b.child ≡ true → K b.parent ≡ true → Walk net EK b.parent b.child
      over_edge kx kq =
          let e : EK b.edge ≡ true = edge_kept b w.2 w.3 K ∙ and_from (K b.child) _ kx kq in
          elim w.2 [
            | inl i ↦ subst (λ u. Walk net EK u b.child) i.0 (there b.edge e (subst (λ u. Walk net EK u b.child) (sym i.1) stay))
            | inr i ↦ subst (λ u. Walk net EK u b.child) i.1 (back b.edge e (subst (λ u. Walk net EK u b.child) (sym i.0) stay))
          ]

      go : (eqb v b.child ≡ true) ⊎ (hung root cs v ≡ true) → ((u : ℕ) → hung root cs u ≡ true → K u ≡ true → Walk net EK h u) → Walk net EK h v
      go (inr i) f = f v i n
      go (inl i) f =
          let s = eqb-true v b.child i in
          let nx : K b.child ≡ true = ap K (sym s) ∙ n in
          subst (Walk net EK h) (sym s) (elim (or_cases (eqb b.child h) _ (sym child_is ∙ nx)) [
            | inl j ↦ subst (λ u. Walk net EK u b.child) (eqb-true b.child h j) stay
            | inr j ↦ let q = and_parts (kc b.parent) _ j in let kq : K b.parent ≡ true = parent_is ∙ q.0 in walk_on (f b.parent w.0 kq) (over_edge nx kq)
          ])

  to_kept : (v : ℕ) → strong_nodes net ts v ≡ true → Walk net (edges_within net ts (strong_nodes net ts)) (best_node net ts) v
  to_kept v k = kept_walk bs hang (λ u i. refl) v (nodes_are v ∙ k_in v k) k

  strong_is_tree : Tree net (strong_nodes net ts) (edges_within net ts (strong_nodes net ts))
  strong_is_tree = record {
    some = (h, k_best);
    nodes = λ v k. grown_tree.nodes v (k_in v k);
    edges = λ s k. let i = in_e net ts x K k_held s k in (e_below net ts x K k_held s k, i.1, i.2);
    joined = λ u v k l. walk_on (walk_turn (to_kept u k)) (to_kept v l);
    no_ring = no_ring net x.R (bridges net ts x) (parts_off net ts x) EK (e_used net ts x K k_held);
  }

  strong_cut : Cut (strong_nodes net ts) (edges_within net ts (strong_nodes net ts)) (grown_node ts) (grown_edge net ts)
  strong_cut = record {
    nodes = k_in;
    edges = λ s k. let i = in_e net ts x K k_held s k in and_from (chosen ts s) _ i.0 (and_from (M (first_end net s)) _ (k_in (first_end net s) i.1) (k_in (second_end net s) i.2));
  }

  -- sums over the nodes and edges of a part of the tree
  taken_hung : (N : ℕ → Bool) → ((v : ℕ) → N v ≡ true → grown_node ts v ≡ true) → sum_to (node_count net) (λ v. cond (N v) (prize net v) 0) ≡ over_hung (root_of net ts) (branches net ts) (λ v. cond (N v) (prize net v) 0)
  taken_hung N f =
      sum_to_same (node_count net) (λ v. cond (N v) (prize net v) 0) (λ v. cond (hung root bs v) (cond (N v) (prize net v) 0) 0) (λ v l. inner_cond (hung root bs v) (N v) (prize net v) (λ k. nodes_are v ∙ f v k))
      ∙ hung_sum net F root bs hang (λ v k. grown_tree.nodes v (sym (nodes_are v) ∙ k)) (λ v. cond (N v) (prize net v) 0)

  spent_listed : (E : ℕ → Bool) → ((s : ℕ) → E s ≡ true → grown_edge net ts s ≡ true) → tree_cost net E ≡ sum_of (λ b. cond (E b.edge) (cost net b.edge) 0) (branches net ts)
  spent_listed E f =
      sum_to_same (edge_count net) (λ s. cond (E s) (cost net s) 0) (λ s. cond (lists bs s) (cond (E s) (cost net s) 0) 0) (λ s l. inner_cond (lists bs s) (E s) (cost net s) (λ k. edges_are s ∙ f s k))
      ∙ listed_sum net F root bs hang (λ s k. (grown_tree.edges s k).0) (λ s. cond (E s) (cost net s) 0)

  kept_costs : (cs : List Branch) → Hang net (grown_edge net ts) (root_of net ts) cs → (N : ℕ → Bool) →
      sum_of (λ b. cond (edges_within net ts N b.edge) (cost net b.edge) 0) cs ≡ sum_of (λ b. cond (N b.child && N b.parent) (cost net b.edge) 0) cs
  kept_costs [] w N = refl
  kept_costs (b ∷ cs) w N = let ih = kept_costs cs w.4 N in let e = ap (λ z. cond z (cost net b.edge) 0) (edge_kept b w.2 w.3 N) in omega arith

  strong_worth : sum_to (node_count net) (λ v. cond (strong_nodes net ts v) (prize net v) 0) ≡ net_worth net ts (best_node net ts) + tree_cost net (edges_within net ts (strong_nodes net ts))
  strong_worth =
      let a = taken_hung K k_in in
      let b = reach net F root W h bs hang (nodes_are h ∙ best_is.passes) (prize net) refl in
      let c = spent_listed EK strong_cut.edges in
      let d = kept_costs bs hang K in
      omega arith

  pub strong_best : (N E : ℕ → Bool) → Tree net N E → Cut N E (grown_node ts) (grown_edge net ts) →
      tree_cost net (edges_within net ts (strong_nodes net ts)) + lost net (strong_nodes net ts) ≤ tree_cost net E + lost net N
  strong_best N E t c =
      let a = at_most net F root N E bs hang (λ s k. let i = t.edges s k in (i.1, i.2)) (λ s k. edges_are s ∙ c.edges s k) t.joined (prize net) (W h) (λ v k. hung_tree.best v (sym (nodes_are v) ∙ k)) in
      let b = taken_hung N c.nodes in
      let d = spent_listed E c.edges in
      let e = strong_worth in
      let f = taken_lost (node_count net) N (prize net) in
      let g = taken_lost (node_count net) K (prize net) in
      omega arith

module _ (net : Net) (f : Fine net) (k : ℕ) (some : 1 ≤ node_count net) (over' : ended (grow net k) ≡ true) where
  abbrev ts : List Slot
  ts = (grow net k).slots

  end : Last net (grow net k).slots
  end = last net f k some over'

  pub grown_hung : HungTree net (grow net k).slots
  grown_hung = hung_tree net ts end

  pub strong_plan_is_a_tree : StrongTree net (grow net k)
  strong_plan_is_a_tree =
      let t = strong_is_tree net ts end in (
        plan_tree net (strong_nodes net ts) (edges_within net ts (strong_nodes net ts)) t,
        subst (λ N. Cut N (marked (marks (edge_count net) (edges_within net ts (strong_nodes net ts)))) (grown_node ts) (grown_edge net ts)) (sym (marked_is (node_count net) (strong_nodes net ts) t.nodes))
            (subst (λ E. Cut (strong_nodes net ts) E (grown_node ts) (grown_edge net ts)) (sym (marked_is (edge_count net) (edges_within net ts (strong_nodes net ts)) (λ s i. (t.edges s i).0))) (strong_cut net ts end)),
      )

  pub strong_plan_best : StrongBest net (grow net k)
  strong_plan_best = strong_best net ts end
