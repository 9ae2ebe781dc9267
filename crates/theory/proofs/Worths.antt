-- Net worths over branches, their equation, and sums over branches.
use Rattle.std.proofs.Common.{◌≡◌, ℕ, ◌+◌, ◌-◌, ◌<◌, ◌≤◌, Bool, true, false, cond, ◌||◌, eqb, ◌≢◌, List, [], ◌∷◌, sym, refl, ap, ◌∙◌, inl, inr, arith}
use Rattle.std.proofs.lemmas.Bool.{eqb-true, eq-eqb, ne_eqb, or_left, or_right, or_cases, or_parts, cases_eq, both_ways, cond-true, cond-false}
use Rattle.network.specs.Nets.{Net}
use Rattle.theory.specs.Sums.{sum_of, sum_to}
use Rattle.theory.specs.Nets.{node_count, edge_count, cost}
use Rattle.theory.specs.Strong.{Branch, hung, lists, Hang, lifted, worths}
use Rattle.theory.proofs.Bools.{only}
use Rattle.theory.proofs.Sums.{sum_to_same, sum_to_plus, sum_to_single, sum_to_none}
use Rattle.theory.proofs.Hanging.{listed_ends}

-- the sum of f over the nodes that hang
abbrev pub over_hung : ℕ → List Branch → (ℕ → ℕ) → ℕ
over_hung root [] f = f root
over_hung root (b ∷ bs) f = f b.child + over_hung root bs f

pub hung_le : (root : ℕ) (bs : List Branch) (f g : ℕ → ℕ) → ((v : ℕ) → f v ≤ g v) → over_hung root bs f ≤ over_hung root bs g
hung_le root [] f g h = h root
hung_le root (b ∷ bs) f g h = let ih = hung_le root bs f g h in let e = h b.child in omega arith

pub hung_same : (root : ℕ) (bs : List Branch) (f g : ℕ → ℕ) → ((v : ℕ) → hung root bs v ≡ true → f v ≡ g v) → over_hung root bs f ≡ over_hung root bs g
hung_same root [] f g h = h root (eq-eqb root root refl)
hung_same root (b ∷ bs) f g h =
    let ih = hung_same root bs f g (λ v k. h v (or_right (eqb v b.child) _ k)) in
    let e = h b.child (or_left (eqb b.child b.child) _ (eq-eqb b.child b.child refl)) in
    omega arith

pub hung_none : (root : ℕ) (bs : List Branch) (f : ℕ → ℕ) → ((v : ℕ) → hung root bs v ≡ true → f v ≡ 0) → over_hung root bs f ≡ 0
hung_none root bs f h = hung_same root bs f (λ v. 0) h ∙ zero' bs
  where
    zero' : (cs : List Branch) → over_hung root cs (λ v. 0) ≡ 0
    zero' [] = refl
    zero' (c ∷ cs) = let ih = zero' cs in omega arith

-- a sum that is d larger at one node
pub hung_more : (root : ℕ) (bs : List Branch) (f g : ℕ → ℕ) (q d : ℕ) → ((v : ℕ) → f v ≤ g v) → hung root bs q ≡ true → f q + d ≤ g q → over_hung root bs f + d ≤ over_hung root bs g
hung_more root [] f g q d h k e = let s = eqb-true q root k in let a : f q ≡ f root = ap f s in let b : g q ≡ g root = ap g s in omega arith
hung_more root (c ∷ bs) f g q d h k e = elim (or_cases (eqb q c.child) (hung root bs q) k) [
  | inl i ↦ let s = eqb-true q c.child i in let a : f q ≡ f c.child = ap f s in let b : g q ≡ g c.child = ap g s in let r = hung_le root bs f g h in omega arith
  | inr i ↦ let ih = hung_more root bs f g q d h i e in let x = h c.child in omega arith
]

pub hung_point : (net : Net) (E : ℕ → Bool) (root : ℕ) (bs : List Branch) → Hang net E root bs → (f g : ℕ → ℕ) (q d : ℕ) → ((v : ℕ) → v ≢ q → f v ≡ g v) → hung root bs q ≡ true → f q + d ≡ g q →
    over_hung root bs f + d ≡ over_hung root bs g
hung_point net E root [] w f g q d h k e = let s = eqb-true q root k in let a : f q ≡ f root = ap f s in let b : g q ≡ g root = ap g s in omega arith
hung_point net E root (c ∷ bs) w f g q d h k e = elim (cases_eq q c.child) [
  | inl s ↦
      let a : f q ≡ f c.child = ap f s in
      let b : g q ≡ g c.child = ap g s in
      let r = hung_same root bs f g (λ v i. h v (λ z. both_ways (hung root bs c.child) w.1 (ap (hung root bs) (sym (z ∙ s)) ∙ i))) in
      omega arith
  | inr s ↦
      let ih = hung_point net E root bs w.4 f g q d h (elim (or_cases (eqb q c.child) (hung root bs q) k) [ inl i ↦ absurd (s (eqb-true q c.child i)) | inr i ↦ i ]) e in
      let x = h c.child (λ z. s (sym z)) in
      omega arith
]

module _ (net : Net) (E : ℕ → Bool) (root : ℕ) where
  pub lift_at : (b : Branch) (p : ℕ → ℕ) → lifted net b p b.parent ≡ p b.parent + (p b.child - cost net b.edge)
  lift_at b p = cond-true (eqb b.parent b.parent) _ _ (eq-eqb b.parent b.parent refl)

  pub lift_other : (b : Branch) (p : ℕ → ℕ) (v : ℕ) → v ≢ b.parent → lifted net b p v ≡ p v
  lift_other b p v ne = cond-false (eqb v b.parent) _ _ (ne_eqb v b.parent ne)

  pub lift_le : (b : Branch) (p : ℕ → ℕ) (v : ℕ) → p v ≤ lifted net b p v
  lift_le b p v = by (eqb v b.parent) (p v) (p b.child - cost net b.edge)
    where
      by : (z : Bool) (x y : ℕ) → x ≤ cond z (x + y) x
      by true x y = omega arith
      by false x y = omega arith

  -- a node that does not hang keeps what it has
  pub worth_out : (bs : List Branch) → Hang net E root bs → (p : ℕ → ℕ) (v : ℕ) → hung root bs v ≡ false → worths net bs p v ≡ p v
  worth_out [] h p v k = refl
  worth_out (b ∷ bs) h p v k =
      let i = or_parts (eqb v b.child) (hung root bs v) k in
      worth_out bs h.4 (lifted net b p) v i.1 ∙ lift_other b p v (λ e. both_ways (hung root bs v) i.1 (ap (hung root bs) e ∙ h.0))

  -- a leaf is worth its own prize
  pub leaf : (b : Branch) (bs : List Branch) → Hang net E root (b ∷ bs) → (p : ℕ → ℕ) → worths net (b ∷ bs) p b.child ≡ p b.child
  leaf b bs h p = worth_out bs h.4 (lifted net b p) b.child h.1 ∙ lift_other b p b.child (λ e. both_ways (hung root bs b.child) h.1 (ap (hung root bs) e ∙ h.0))

  -- the equation of net worths: a node's own prize, and what each branch below it is worth beyond its cost
  pub equation : (bs : List Branch) → Hang net E root bs → (p : ℕ → ℕ) (v : ℕ) →
      worths net bs p v ≡ p v + sum_of (λ b. cond (eqb v b.parent) (worths net bs p b.child - cost net b.edge) 0) bs
  equation [] h p v = omega arith
  equation (b ∷ bs) h p v =
      let ih = equation bs h.4 (lifted net b p) v in
      let x = leaf b bs h p in
      let y = by (eqb v b.parent) (p v) (p b.child - cost net b.edge) in
      let z : cond (eqb v b.parent) (worths net (b ∷ bs) p b.child - cost net b.edge) 0 ≡ cond (eqb v b.parent) (p b.child - cost net b.edge) 0 = ap (λ w. cond (eqb v b.parent) (w - cost net b.edge) 0) x in
      omega arith
    where
      by : (z : Bool) (x y : ℕ) → cond z (x + y) x ≡ x + cond z y 0
      by true x y = refl
      by false x y = omega arith

-- sums over the nodes and over the edges of the branches, by number
split_or : (x y : Bool) (f : ℕ) → (x ≡ true → y ≡ false) → cond (x || y) f 0 ≡ cond x f 0 + cond y f 0
split_or true y f k = let a = cond-false y f 0 (k refl) in omega arith
split_or false y f k = omega arith

pub hung_sum : (net : Net) (E : ℕ → Bool) (root : ℕ) (bs : List Branch) → Hang net E root bs → ((v : ℕ) → hung root bs v ≡ true → v < node_count net) → (f : ℕ → ℕ) →
    sum_to (node_count net) (λ v. cond (hung root bs v) (f v) 0) ≡ over_hung root bs f
hung_sum net E root [] h l f =
    let a = sum_to_single (node_count net) (λ v. cond (eqb v root) (f v) 0) root (l root (eq-eqb root root refl)) (λ v m ne. cond-false (eqb v root) (f v) 0 (ne_eqb v root ne)) in
    let b = cond-true (eqb root root) (f root) 0 (eq-eqb root root refl) in
    omega arith
hung_sum net E root (b ∷ bs) h l f =
    let n = node_count net in
    let ih = hung_sum net E root bs h.4 (λ v k. l v (or_right (eqb v b.child) _ k)) f in
    let a = sum_to_same n (λ v. cond (eqb v b.child || hung root bs v) (f v) 0) (λ v. cond (eqb v b.child) (f v) 0 + cond (hung root bs v) (f v) 0) (λ v m. split_or (eqb v b.child) (hung root bs v) (f v) (λ e. ap (hung root bs) (eqb-true v b.child e) ∙ h.1)) in
    let c = sum_to_plus n (λ v. cond (eqb v b.child) (f v) 0) (λ v. cond (hung root bs v) (f v) 0) in
    let d = sum_to_single n (λ v. cond (eqb v b.child) (f v) 0) b.child (l b.child (or_left (eqb b.child b.child) _ (eq-eqb b.child b.child refl))) (λ v m ne. cond-false (eqb v b.child) (f v) 0 (ne_eqb v b.child ne)) in
    let e = cond-true (eqb b.child b.child) (f b.child) 0 (eq-eqb b.child b.child refl) in
    omega arith

pub listed_sum : (net : Net) (E : ℕ → Bool) (root : ℕ) (bs : List Branch) → Hang net E root bs → ((s : ℕ) → E s ≡ true → s < edge_count net) → (f : ℕ → ℕ) →
    sum_to (edge_count net) (λ s. cond (lists bs s) (f s) 0) ≡ sum_of (λ b. f b.edge) bs
listed_sum net E root [] h l f = sum_to_none (edge_count net) (λ s. 0) (λ s m. refl)
listed_sum net E root (b ∷ bs) h l f =
    let n = edge_count net in
    let ih = listed_sum net E root bs h.4 l f in
    let a = sum_to_same n (λ s. cond (eqb b.edge s || lists bs s) (f s) 0) (λ s. cond (eqb b.edge s) (f s) 0 + cond (lists bs s) (f s) 0) (λ s m. split_or (eqb b.edge s) (lists bs s) (f s) (λ e. ap (lists bs) (sym (eqb-true b.edge s e)) ∙ new)) in
    let c = sum_to_plus n (λ s. cond (eqb b.edge s) (f s) 0) (λ s. cond (lists bs s) (f s) 0) in
    let d = sum_to_single n (λ s. cond (eqb b.edge s) (f s) 0) b.edge (l b.edge h.3) (λ s m ne. cond-false (eqb b.edge s) (f s) 0 (ne_eqb b.edge s (λ q. ne (sym q)))) in
    let e = cond-true (eqb b.edge b.edge) (f b.edge) 0 (eq-eqb b.edge b.edge refl) in
    omega arith
  where
    new : lists bs b.edge ≡ false
    new = only (lists bs b.edge) (λ k. let x = listed_ends net E root bs h.4 b.edge k in elim h.2 [
      | inl j ↦ both_ways (hung root bs b.child) h.1 (ap (hung root bs) (sym j.1) ∙ x.2)
      | inr j ↦ both_ways (hung root bs b.child) h.1 (ap (hung root bs) (sym j.0) ∙ x.1)
    ])
