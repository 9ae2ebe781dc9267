-- A tree hung from a root as a list of branches: all its nodes hang, and its edges are the branches'.
use Rattle.std.proofs.Common.{◌≡◌, ℕ, zero, suc, ◌+◌, ◌<◌, ◌≤◌, Bool, true, false, cond, ◌&&◌, ◌||◌, eqb, ◌⊎◌, List, [], ◌∷◌, Some, None, Option, sym, refl, ap, ◌∙◌, subst, inl, inr, arith}
use Rattle.std.proofs.lemmas.Bool.{eqb-true, eq-eqb, ne_eqb, or_left, or_right, or_cases, and_parts, and_from, cases_Bool, cases_eq, both_ways, cond-true, cond-false, not_from_false}
use Rattle.network.specs.Nets.{Net}
use Rattle.theory.specs.Sums.{sum_to, one, differ}
use Rattle.theory.specs.Nets.{node_count, edge_count, first_end, second_end}
use Rattle.theory.specs.Trees.{Walk, Tree, but}
use Rattle.theory.specs.Trees.Walk.{stay, there, back}
use Rattle.theory.specs.Strong.{lowest_below, Branch, hung, lists, Joins, Hang, branch, next_edge, hang_from}
use Rattle.theory.proofs.Bools.{only, one_true, one_false, one_most, same_true}
use Rattle.theory.proofs.Sums.{sum_to_ones, sum_to_less}
use Rattle.theory.proofs.Walks.{walk_on, walk_more, walk_turn, crossing}

-- the lowest number that passes
pub lowest_some : (n : ℕ) (p : ℕ → Bool) (v : ℕ) → lowest_below n p ≡ Some v → (v < n) × (p v ≡ true)
lowest_some zero p v e = let z : ◌≡◌ {A = ℕ} 0 1 = cc in absurd (omega arith)
lowest_some (suc n) p v e = go (lowest_below n p) refl e (lowest_some n p v)
  where
    last' : (b : Bool) → p n ≡ b → cond b (Some n) None ≡ Some v → (v < suc n) × (p v ≡ true)
    last' true g k = let s : n ≡ v = cc in (omega arith, ap p (sym s) ∙ g)
    last' false g k = let z : ◌≡◌ {A = ℕ} 0 1 = cc in absurd (omega arith)

    go : (o : Option ℕ) → lowest_below n p ≡ o → elim o as (λ z. Option ℕ) [ Some u ↦ Some u | None ↦ cond (p n) (Some n) None ] ≡ Some v → (lowest_below n p ≡ Some v → (v < n) × (p v ≡ true)) → (v < suc n) × (p v ≡ true)
    go None g k f = last' (p n) refl k
    go (Some u) g k f = let x = f (g ∙ k) in (let y = x.0 in omega arith, x.1)

pub lowest_none : (n : ℕ) (p : ℕ → Bool) → lowest_below n p ≡ None → (v : ℕ) → v < n → p v ≡ false
lowest_none zero p e v l = absurd (omega arith)
lowest_none (suc n) p e v l = go (lowest_below n p) refl e (λ k. lowest_none n p k v)
  where
    last' : (b : Bool) → p n ≡ b → cond b (Some n) None ≡ None → p n ≡ false
    last' true g k = let z : ◌≡◌ {A = ℕ} 0 1 = cc in absurd (omega arith)
    last' false g k = g

    go : (o : Option ℕ) → lowest_below n p ≡ o → elim o as (λ z. Option ℕ) [ Some u ↦ Some u | None ↦ cond (p n) (Some n) None ] ≡ None → (lowest_below n p ≡ None → v < n → p v ≡ false) → p v ≡ false
    go None g k f = elim (cases_eq v n) [ inl s ↦ ap p s ∙ last' (p n) refl k | inr s ↦ f g (omega arith) ]
    go (Some u) g k f = let z : ◌≡◌ {A = ℕ} 0 1 = cc in absurd (omega arith)

pub hung_root : (root : ℕ) (bs : List Branch) → hung root bs root ≡ true
hung_root root [] = eq-eqb root root refl
hung_root root (b ∷ bs) = or_right (eqb root b.child) _ (hung_root root bs)

module _ (net : Net) (E : ℕ → Bool) (root : ℕ) where
  -- a branch's edge has both ends hung
  joined_ends : (P : ℕ → Type 0) (b : Branch) → Joins net b → P b.parent → P b.child → P (first_end net b.edge) × P (second_end net b.edge)
  joined_ends P b j p c = elim j [
    | inl e ↦ (subst P (sym e.0) p, subst P (sym e.1) c)
    | inr e ↦ (subst P (sym e.0) c, subst P (sym e.1) p)
  ]

  pub listed_ends : (bs : List Branch) → Hang net E root bs → (s : ℕ) → lists bs s ≡ true → (E s ≡ true) × (hung root bs (first_end net s) ≡ true) × (hung root bs (second_end net s) ≡ true)
  listed_ends [] h s l = let z : ◌≡◌ {A = ℕ} 0 1 = cc in absurd (omega arith)
  listed_ends (b ∷ bs) h s l = elim (or_cases (eqb b.edge s) (lists bs s) l) [
    | inl k ↦
        let e = eqb-true b.edge s k in
        let x = joined_ends (λ v. hung root (b ∷ bs) v ≡ true) b h.2 (or_right (eqb b.parent b.child) _ h.0) (or_left (eqb b.child b.child) _ (eq-eqb b.child b.child refl)) in
        (ap E (sym e) ∙ h.3, ap (λ i. hung root (b ∷ bs) (first_end net i)) (sym e) ∙ x.0, ap (λ i. hung root (b ∷ bs) (second_end net i)) (sym e) ∙ x.1)
    | inr k ↦ let x = listed_ends bs h.4 s k in (x.0, or_right (eqb (first_end net s) b.child) _ x.1, or_right (eqb (second_end net s) b.child) _ x.2)
  ]

  -- from the root to each node that hangs, over branches
  pub hung_walk : (bs : List Branch) → Hang net E root bs → (v : ℕ) → hung root bs v ≡ true → Walk net (lists bs) root v
  hung_walk [] h v k = subst (λ u. Walk net (lists []) u v) (eqb-true v root k) stay
  hung_walk (b ∷ bs) h v k = go (or_cases (eqb v b.child) (hung root bs v) k) (hung_walk bs h.4)
    where
      old : {u w : ℕ} → Walk net (lists bs) u w → Walk net (lists (b ∷ bs)) u w
      old p = walk_more (lists (b ∷ bs)) (λ s i. or_right (eqb b.edge s) _ i) p

      own : lists (b ∷ bs) b.edge ≡ true
      own = or_left (eqb b.edge b.edge) _ (eq-eqb b.edge b.edge refl)

      step : Walk net (lists (b ∷ bs)) b.parent b.child
      step = elim h.2 [
        | inl e ↦ subst (λ u. Walk net (lists (b ∷ bs)) u b.child) e.0 (there b.edge own (subst (λ u. Walk net (lists (b ∷ bs)) u b.child) (sym e.1) stay))
        | inr e ↦ subst (λ u. Walk net (lists (b ∷ bs)) u b.child) e.1 (back b.edge own (subst (λ u. Walk net (lists (b ∷ bs)) u b.child) (sym e.0) stay))
      ]

      go : (eqb v b.child ≡ true) ⊎ (hung root bs v ≡ true) → ((u : ℕ) → hung root bs u ≡ true → Walk net (lists bs) root u) → Walk net (lists (b ∷ bs)) root v
      go (inl e) f = subst (Walk net (lists (b ∷ bs)) root) (sym (eqb-true v b.child e)) (walk_on (old (f b.parent h.0)) step)
      go (inr e) f = old (f v e)

  -- nodes that hang are the root's and those of the edges
  pub hung_in : (P : ℕ → Type 0) → P root → ((s : ℕ) → E s ≡ true → P (first_end net s) × P (second_end net s)) → (bs : List Branch) → Hang net E root bs → (v : ℕ) → hung root bs v ≡ true → P v
  hung_in P r f [] h v k = subst P (sym (eqb-true v root k)) r
  hung_in P r f (b ∷ bs) h v k = elim (or_cases (eqb v b.child) (hung root bs v) k) [
    | inr e ↦ hung_in P r f bs h.4 v e
    | inl e ↦
        let x = f b.edge h.3 in
        subst P (sym (eqb-true v b.child e)) (elim h.2 [ inl j ↦ subst P j.1 x.1 | inr j ↦ subst P j.0 x.0 ])
  ]

  -- one more branch
  hang_more : (bs : List Branch) → Hang net E root bs → (s : ℕ) → E s ≡ true → differ (hung root bs (first_end net s)) (hung root bs (second_end net s)) ≡ true → Hang net E root (branch net (hung root bs) s ∷ bs)
  hang_more bs h s e d = elim (cases_Bool (hung root bs (first_end net s))) [
    | inl k ↦ subst (λ b. Hang net E root (b ∷ bs)) (sym (cond-true (hung root bs (first_end net s)) _ _ k)) (k, other k, inl (refl, refl), e, h)
    | inr k ↦ subst (λ b. Hang net E root (b ∷ bs)) (sym (cond-false (hung root bs (first_end net s)) _ _ k)) (this k, k, inr (refl, refl), e, h)
  ]
    where
      other : hung root bs (first_end net s) ≡ true → hung root bs (second_end net s) ≡ false
      other k = by (hung root bs (first_end net s)) (hung root bs (second_end net s)) d k
        where
          by : (x y : Bool) → differ x y ≡ true → x ≡ true → y ≡ false
          by true true p q = sym p
          by true false p q = refl
          by false y p q = let z : ◌≡◌ {A = ℕ} 0 1 = cc in absurd (omega arith)

      this : hung root bs (first_end net s) ≡ false → hung root bs (second_end net s) ≡ true
      this k = ap (λ x. differ x (hung root bs (second_end net s))) (sym k) ∙ d

  -- no edge is left with just one end hung
  abbrev Through : List Branch → Type 0
  Through bs = (s : ℕ) → E s ≡ true → differ (hung root bs (first_end net s)) (hung root bs (second_end net s)) ≡ false

  abbrev count : List Branch → ℕ
  count bs = sum_to (node_count net) (λ v. one (hung root bs v))

  full : (n : ℕ) (p : ℕ → Bool) → n ≤ sum_to n (λ v. one (p v)) → (v : ℕ) → v < n → p v ≡ true
  full zero p h v l = absurd (omega arith)
  full (suc n) p h v l = elim (cases_eq v n) [
    | inl e ↦ ap p e ∙ elim (cases_Bool (p n)) [ inl k ↦ k | inr k ↦ let a = one_false (p n) k in let b = sum_to_ones n p in absurd (omega arith) ]
    | inr e ↦ full n p (let a = one_most (p n) in omega arith) v (omega arith)
  ]

  module _ (ends : (s : ℕ) → E s ≡ true → (s < edge_count net) × (first_end net s < node_count net) × (second_end net s < node_count net)) where
    one_le : (x y : Bool) → one y ≤ one (x || y)
    one_le true true = omega arith
    one_le true false = omega arith
    one_le false y = omega arith

    grows : (b : Branch) (bs : List Branch) → hung root bs b.child ≡ false → b.child < node_count net → count bs + 1 ≤ count (b ∷ bs)
    grows b bs k l = sum_to_less (node_count net) (λ v. one (hung root bs v)) (λ v. one (hung root (b ∷ bs) v)) b.child l (λ v m. one_le (eqb v b.child) (hung root bs v))
        (let x = one_false (hung root bs b.child) k in let y = one_true (hung root (b ∷ bs) b.child) (or_left (eqb b.child b.child) _ (eq-eqb b.child b.child refl)) in omega arith)

    child_below : (b : Branch) → Joins net b → E b.edge ≡ true → b.child < node_count net
    child_below b j e = let x = ends b.edge e in elim j [ inl i ↦ subst (λ v. v < node_count net) i.1 x.2 | inr i ↦ subst (λ v. v < node_count net) i.0 x.1 ]

    pub hang_ends : (k : ℕ) (bs : List Branch) → Hang net E root bs → node_count net ≤ k + count bs → Hang net E root (hang_from k net E root bs) × Through (hang_from k net E root bs)
    hang_ends zero bs h l = (h, λ s e. let x = ends s e in same_true (hung root bs (first_end net s)) (hung root bs (second_end net s)) (full (node_count net) (hung root bs) (omega arith) (first_end net s) x.1) (full (node_count net) (hung root bs) (omega arith) (second_end net s) x.2))
    hang_ends (suc k) bs h l = go (next_edge net E (hung root bs)) refl (hang_ends k)
      where
        test : ℕ → Bool
        test s = E s && differ (hung root bs (first_end net s)) (hung root bs (second_end net s))

        go : (o : Option ℕ) → next_edge net E (hung root bs) ≡ o → ((cs : List Branch) → Hang net E root cs → node_count net ≤ k + count cs → Hang net E root (hang_from k net E root cs) × Through (hang_from k net E root cs)) →
            Hang net E root (elim o as (λ z. List Branch) [ Some s ↦ hang_from k net E root (branch net (hung root bs) s ∷ bs) | None ↦ bs ])
            × Through (elim o as (λ z. List Branch) [ Some s ↦ hang_from k net E root (branch net (hung root bs) s ∷ bs) | None ↦ bs ])
        go None e f = (h, λ s i. only (differ (hung root bs (first_end net s)) (hung root bs (second_end net s))) (λ d. both_ways (test s) (lowest_none (edge_count net) test e s (ends s i).0) (and_from (E s) _ i d)))
        go (Some s) e f =
            let a = lowest_some (edge_count net) test s e in
            let b = and_parts (E s) _ a.1 in
            let next = hang_more bs h s b.0 b.1 in
            f (branch net (hung root bs) s ∷ bs) next (let z = grows (branch net (hung root bs) s) bs next.1 (child_below (branch net (hung root bs) s) next.2 next.3) in omega arith)

-- a whole tree hung from one of its nodes
module _ (net : Net) (M E : ℕ → Bool) (tree : Tree net M E) (root : ℕ) (in' : M root ≡ true) where
  ends : (s : ℕ) → E s ≡ true → (s < edge_count net) × (first_end net s < node_count net) × (second_end net s < node_count net)
  ends s e = let x = tree.edges s e in (x.0, tree.nodes (first_end net s) x.1, tree.nodes (second_end net s) x.2)

  abbrev bs : List Branch
  bs = hang_from (node_count net) net E root []

  both : Hang net E root (hang_from (node_count net) net E root []) × ((s : ℕ) → E s ≡ true → differ (hung root (hang_from (node_count net) net E root []) (first_end net s)) (hung root (hang_from (node_count net) net E root []) (second_end net s)) ≡ false)
  both = hang_ends net E root ends (node_count net) [] tt (omega arith)

  pub hangs : Hang net E root (hang_from (node_count net) net E root [])
  hangs = both.0

  pub hung_is : (v : ℕ) → hung root (hang_from (node_count net) net E root []) v ≡ M v
  hung_is v = elim (cases_Bool (M v)) [
    | inl m ↦ elim (cases_Bool (hung root bs v)) [
      | inl k ↦ k ∙ sym m
      | inr k ↦ let c = crossing net E (hung root bs) (tree.joined root v in' m) (hung_root root bs) k in absurd (both_ways (differ (hung root bs (first_end net c.0)) (hung root bs (second_end net c.0))) (both.1 c.0 c.1) c.2)
    ]
    | inr m ↦ only (hung root bs v) (λ k. both_ways (M v) m (hung_in net E root (λ u. M u ≡ true) in' (λ s e. let x = tree.edges s e in (x.1, x.2)) bs hangs v k)) ∙ sym m
  ]

  pub listed_is : (s : ℕ) → lists (hang_from (node_count net) net E root []) s ≡ E s
  listed_is s = elim (cases_Bool (E s)) [
    | inl e ↦ elim (cases_Bool (lists bs s)) [
      | inl k ↦ k ∙ sym e
      | inr k ↦
          let x = tree.edges s e in
          let less : (i : ℕ) → lists bs i ≡ true → but E s i ≡ true = λ i l. and_from (E i) _ (listed_ends net E root bs hangs i l).0 (not_from_false (eqb i s) (ne_eqb i s (λ q. both_ways (lists bs s) k (ap (lists bs) (sym q) ∙ l)))) in
          let to : (v : ℕ) → M v ≡ true → Walk net (but E s) root v = λ v m. walk_more (but E s) less (hung_walk net E root bs hangs v (hung_is v ∙ m)) in
          absurd (tree.no_ring s e (walk_on (walk_turn (to (first_end net s) x.1)) (to (second_end net s) x.2)))
    ]
    | inr e ↦ only (lists bs s) (λ k. both_ways (E s) e (listed_ends net E root bs hangs s k).0) ∙ sym e
  ]
