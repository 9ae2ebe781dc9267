-- No joined part of a hung tree is worth more than the greatest net worth.
use Rattle.std.proofs.Common.{◌≡◌, ℕ, ◌+◌, ◌-◌, ◌≤◌, Bool, true, false, cond, not, ◌&&◌, eqb, ◌≢◌, ◌⊎◌, List, [], ◌∷◌, sym, refl, ap, ◌∙◌, inl, inr, arith}
use Rattle.std.proofs.lemmas.Bool.{eqb-true, eq-eqb, ne_eqb, or_left, or_right, or_cases, and_parts, and_from, and_left, cases_Bool, both_ways, cond-true, cond-false, not-true}
use Rattle.network.specs.Nets.{Net}
use Rattle.theory.specs.Sums.{sum_of}
use Rattle.theory.specs.Nets.{first_end, second_end, cost}
use Rattle.theory.specs.Trees.{Walk}
use Rattle.theory.specs.Strong.{Branch, hung, lists, Joins, Hang, lifted, worths}
use Rattle.theory.proofs.Bools.{only, cond_most}
use Rattle.theory.proofs.Rings.{walk_label}
use Rattle.theory.proofs.Hanging.{listed_ends}
use Rattle.theory.proofs.Worths.{over_hung, hung_le, hung_more, lift_at, lift_le, leaf}

-- nodes N and edges F of the tree
module _ (net : Net) (E : ℕ → Bool) (root : ℕ) (N F : ℕ → Bool) where
  -- the worths of the nodes of N whose branch is not in F
  abbrev roots : (ℕ → ℕ) → List Branch → ℕ
  roots W [] = cond (N root) (W root) 0
  roots W (b ∷ bs) = cond (N b.child && not (F b.edge)) (W b.child) 0 + roots W bs

  abbrev spent : List Branch → ℕ
  spent bs = sum_of (λ b. cond (F b.edge) (cost net b.edge) 0) bs

  abbrev gained : (ℕ → ℕ) → ℕ → ℕ
  gained p v = cond (N v) (p v) 0

  cond_le : (z : Bool) (x y : ℕ) → x ≤ y → cond z x 0 ≤ cond z y 0
  cond_le true x y l = l
  cond_le false x y l = omega arith

  upper : (bs : List Branch) → Hang net E root bs → ((s : ℕ) → F s ≡ true → (N (first_end net s) ≡ true) × (N (second_end net s) ≡ true)) → (p : ℕ → ℕ) →
      over_hung root bs (gained p) ≤ roots (worths net bs p) bs + spent bs
  upper [] h f p = omega arith
  upper (b ∷ bs) h f p = go (cases_Bool (F b.edge)) (cases_Bool (N b.child)) (upper bs h.4 f (lifted net b p))
    where
      p' : ℕ → ℕ
      p' = lifted net b p

      Below : Type 0
      Below = over_hung root bs (gained (lifted net b p)) ≤ roots (worths net bs (lifted net b p)) bs + spent bs

      rises : (v : ℕ) → gained p v ≤ gained p' v
      rises v = cond_le (N v) (p v) (p' v) (lift_le net E root b p v)

      parent_in : F b.edge ≡ true → (N b.parent ≡ true) × (N b.child ≡ true)
      parent_in k = let x = f b.edge k in elim h.2 [
        | inl j ↦ (ap N (sym j.0) ∙ x.0, ap N (sym j.1) ∙ x.1)
        | inr j ↦ (ap N (sym j.1) ∙ x.1, ap N (sym j.0) ∙ x.0)
      ]

      go : (F b.edge ≡ true) ⊎ (F b.edge ≡ false) → (N b.child ≡ true) ⊎ (N b.child ≡ false) → Below → over_hung root (b ∷ bs) (gained p) ≤ roots (worths net bs p') (b ∷ bs) + spent (b ∷ bs)
      go (inl k) c ih =
          let n = parent_in k in
          let a = cond-true (N b.child) (p b.child) 0 n.1 in
          let i = cond-true (N b.parent) (p b.parent) 0 n.0 in
          let j = cond-true (N b.parent) (p' b.parent) 0 n.0 in
          let l = lift_at net E root b p in
          let m = hung_more root bs (gained p) (gained p') b.parent (p b.child - cost net b.edge) rises h.0 (omega arith) in
          let s = cond-true (F b.edge) (cost net b.edge) 0 k in
          omega arith
      go (inr k) (inr c) ih =
          let a = cond-false (N b.child) (p b.child) 0 c in
          let m = hung_le root bs (gained p) (gained p') rises in
          omega arith
      go (inr k) (inl c) ih =
          let a = cond-true (N b.child) (p b.child) 0 c in
          let m = hung_le root bs (gained p) (gained p') rises in
          let w = leaf net E root b bs h p in
          let r = cond-true (N b.child && not (F b.edge)) (worths net bs p' b.child) 0 (and_from (N b.child) _ c (ap not k)) in
          omega arith

  roots_none : (W : ℕ → ℕ) (bs : List Branch) → ((v : ℕ) → hung root bs v ≡ true → N v ≡ false) → roots W bs ≡ 0
  roots_none W [] f = cond-false (N root) (W root) 0 (f root (eq-eqb root root refl))
  roots_none W (b ∷ bs) f =
      let ih = roots_none W bs (λ v k. f v (or_right (eqb v b.child) _ k)) in
      let a = cond-false (N b.child && not (F b.edge)) (W b.child) 0 (and_left (N b.child) _ (f b.child (or_left (eqb b.child b.child) _ (eq-eqb b.child b.child refl)))) in
      omega arith

  -- labels of the nodes that hang so far reach on to all nodes, so that later branches tell no labels apart
  abbrev Reaches : List Branch → Type 0
  Reaches bs = (D : ℕ → Bool) → (L : ℕ → Bool) × ((v : ℕ) → hung root bs v ≡ true → L v ≡ D v) × ((s : ℕ) → F s ≡ true → (lists bs s ≡ true) ⊎ (L (first_end net s) ≡ L (second_end net s)))

  ends_same : (L : ℕ → Bool) (b : Branch) → Joins net b → L b.child ≡ L b.parent → L (first_end net b.edge) ≡ L (second_end net b.edge)
  ends_same L b j e = elim j [
    | inl i ↦ ap L i.0 ∙ sym e ∙ ap L (sym i.1)
    | inr i ↦ ap L i.0 ∙ e ∙ ap L (sym i.1)
  ]

  reaches_less : (b : Branch) (bs : List Branch) → Hang net E root (b ∷ bs) → Reaches (b ∷ bs) → Reaches bs
  reaches_less b bs h r D = (L, agree, edges)
    where
      D' : ℕ → Bool
      D' v = cond (eqb v b.child) (D b.parent) (D v)

      L : ℕ → Bool
      L = (r D').0

      not_child : (v : ℕ) → hung root bs v ≡ true → v ≢ b.child
      not_child v k e = both_ways (hung root bs b.child) h.1 (ap (hung root bs) (sym e) ∙ k)

      agree : (v : ℕ) → hung root bs v ≡ true → L v ≡ D v
      agree v k = (r D').1 v (or_right (eqb v b.child) _ k) ∙ cond-false (eqb v b.child) (D b.parent) (D v) (ne_eqb v b.child (not_child v k))

      at_child : L b.child ≡ D b.parent
      at_child = (r D').1 b.child (or_left (eqb b.child b.child) _ (eq-eqb b.child b.child refl)) ∙ cond-true (eqb b.child b.child) (D b.parent) (D b.child) (eq-eqb b.child b.child refl)

      edges : (s : ℕ) → F s ≡ true → (lists bs s ≡ true) ⊎ (L (first_end net s) ≡ L (second_end net s))
      edges s k = elim ((r D').2 s k) [
        | inr e ↦ inr e
        | inl l ↦ elim (or_cases (eqb b.edge s) (lists bs s) l) [
          | inr i ↦ inl i
          | inl i ↦ let q = eqb-true b.edge s i in inr (ap (λ j. L (first_end net j)) (sym q) ∙ ends_same L b h.2 (at_child ∙ sym (agree b.parent h.0)) ∙ ap (λ j. L (second_end net j)) q)
        ]
      ]

  -- a node of N whose branch is not in F is joined to none that hung before it
  first_only : (joined : (u v : ℕ) → N u ≡ true → N v ≡ true → Walk net F u v) (b : Branch) (bs : List Branch) → Hang net E root (b ∷ bs) → Reaches (b ∷ bs) →
      N b.child ≡ true → F b.edge ≡ false → (v : ℕ) → hung root bs v ≡ true → N v ≡ false
  first_only joined b bs h r n k v hv = only (N v) (λ nv. both_ways (L v) (old v hv) (sym (walk_label net F L same (joined b.child v n nv)) ∙ new))
    where
      D : ℕ → Bool
      D u = eqb u b.child

      L : ℕ → Bool
      L = (r D).0

      new : L b.child ≡ true
      new = (r D).1 b.child (or_left (eqb b.child b.child) _ (eq-eqb b.child b.child refl)) ∙ eq-eqb b.child b.child refl

      old : (u : ℕ) → hung root bs u ≡ true → L u ≡ false
      old u i = (r D).1 u (or_right (eqb u b.child) _ i) ∙ ne_eqb u b.child (λ e. both_ways (hung root bs b.child) h.1 (ap (hung root bs) (sym e) ∙ i))

      same : (s : ℕ) → F s ≡ true → L (first_end net s) ≡ L (second_end net s)
      same s f = elim ((r D).2 s f) [
        | inr e ↦ e
        | inl l ↦ elim (or_cases (eqb b.edge s) (lists bs s) l) [
          | inl i ↦ absurd (both_ways (F b.edge) k (ap F (eqb-true b.edge s i) ∙ f))
          | inr i ↦ let x = listed_ends net E root bs h.4 s i in old (first_end net s) x.1 ∙ sym (old (second_end net s) x.2)
        ]
      ]

  -- a joined part of the tree has one root
  single : (joined : (u v : ℕ) → N u ≡ true → N v ≡ true → Walk net F u v) (W : ℕ → ℕ) (most : ℕ) → (bs : List Branch) → Hang net E root bs → Reaches bs → ((v : ℕ) → hung root bs v ≡ true → W v ≤ most) → roots W bs ≤ most
  single joined W most [] h r b = let x = b root (eq-eqb root root refl) in let y = cond_most (N root) (W root) in omega arith
  single joined W most (c ∷ bs) h r b = go (cases_Bool (N c.child && not (F c.edge))) (single joined W most bs h.4 (reaches_less c bs h r) (λ v k. b v (or_right (eqb v c.child) _ k)))
    where
      go : ((N c.child && not (F c.edge)) ≡ true) ⊎ ((N c.child && not (F c.edge)) ≡ false) → roots W bs ≤ most → roots W (c ∷ bs) ≤ most
      go (inr k) ih = let a = cond-false (N c.child && not (F c.edge)) (W c.child) 0 k in omega arith
      go (inl k) ih =
          let p = and_parts (N c.child) _ k in
          let a = cond-true (N c.child && not (F c.edge)) (W c.child) 0 k in
          let z = roots_none W bs (first_only joined c bs h r p.0 (not-true (F c.edge) p.1)) in
          let x = b c.child (or_left (eqb c.child c.child) _ (eq-eqb c.child c.child refl)) in
          omega arith

  -- a joined part of the tree is worth at most the greatest net worth
  pub at_most : (bs : List Branch) → Hang net E root bs → ((s : ℕ) → F s ≡ true → (N (first_end net s) ≡ true) × (N (second_end net s) ≡ true)) → ((s : ℕ) → F s ≡ true → lists bs s ≡ true) →
      ((u v : ℕ) → N u ≡ true → N v ≡ true → Walk net F u v) → (p : ℕ → ℕ) (most : ℕ) → ((v : ℕ) → hung root bs v ≡ true → worths net bs p v ≤ most) →
      over_hung root bs (λ v. cond (N v) (p v) 0) ≤ most + sum_of (λ b. cond (F b.edge) (cost net b.edge) 0) bs
  at_most bs h ends listed joined p most b =
      let a = upper bs h ends p in
      let c = single joined (worths net bs p) most bs h (λ D. (D, (λ v k. refl), λ s k. inl (listed s k))) b in
      omega arith
