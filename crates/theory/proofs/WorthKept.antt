-- What hangs from a node is worth the node's net worth.
use Rattle.std.proofs.Common.{◌≡◌, ℕ, ◌+◌, ◌-◌, Bool, true, false, cond, ◌&&◌, ◌||◌, eqb, ltb, ◌⊎◌, List, [], ◌∷◌, sym, refl, ap, ◌∙◌, inl, inr, arith}
use Rattle.std.proofs.lemmas.Bool.{eqb-true, eq-eqb, ne_eqb, or_left, or_right, or_cases, or_parts, or_from, and_parts, and_from, and_left, and_right, cases_Bool, cases_eq, both_ways, cond-true, cond-false, ltb-true, ltb-false}
use Rattle.network.specs.Nets.{Net}
use Rattle.theory.specs.Sums.{sum_of}
use Rattle.theory.specs.Nets.{cost}
use Rattle.theory.specs.Strong.{Branch, hung, Hang, lifted, worths, kept}
use Rattle.theory.proofs.Worths.{over_hung, hung_same, hung_none, hung_point, lift_at, lift_other, leaf}

-- what hangs from h is worth the net worth of h
module _ (net : Net) (E : ℕ → Bool) (root : ℕ) (W : ℕ → ℕ) (h : ℕ) where
  abbrev K : List Branch → ℕ → Bool
  K = kept net W root h

  pub kept_old : (b : Branch) (bs : List Branch) → Hang net E root (b ∷ bs) → (v : ℕ) → hung root bs v ≡ true → kept net W root h (b ∷ bs) v ≡ kept net W root h bs v
  kept_old b bs w v k = cond-false (eqb v b.child) _ _ (ne_eqb v b.child (λ e. both_ways (hung root bs b.child) w.1 (ap (hung root bs) (sym e) ∙ k)))

  pub kept_new : (b : Branch) (bs : List Branch) → kept net W root h (b ∷ bs) b.child ≡ (eqb b.child h || (kept net W root h bs b.parent && ltb (cost net b.edge) (W b.child)))
  kept_new b bs = cond-true (eqb b.child b.child) _ _ (eq-eqb b.child b.child refl)

  -- before h hangs nothing is kept
  kept_none : (bs : List Branch) → hung root bs h ≡ false → (v : ℕ) → kept net W root h bs v ≡ false
  kept_none [] k v = and_right (eqb v root) _ (ne_eqb root h (λ e. both_ways (eqb h root) k (eq-eqb h root (sym e))))
  kept_none (b ∷ bs) k v =
      let i = or_parts (eqb h b.child) (hung root bs h) k in
      both_false (eqb v b.child) _ _ (or_from (eqb b.child h) _ (ne_eqb b.child h (λ e. both_ways (eqb h b.child) i.0 (eq-eqb h b.child (sym e)))) (and_left (K bs b.parent) _ (kept_none bs i.1 b.parent))) (kept_none bs i.1 v)
    where
      both_false : (c x z : Bool) → x ≡ false → z ≡ false → cond c x z ≡ false
      both_false true x z p q = p
      both_false false x z p q = q

  pub kept_hung : (bs : List Branch) → (v : ℕ) → kept net W root h bs v ≡ true → hung root bs v ≡ true
  kept_hung [] v k = (and_parts (eqb v root) _ k).0
  kept_hung (b ∷ bs) v k = elim (cases_Bool (eqb v b.child)) [
    | inl e ↦ or_left (eqb v b.child) _ e
    | inr e ↦ or_right (eqb v b.child) _ (kept_hung bs v (sym (cond-false (eqb v b.child) _ _ e) ∙ k))
  ]

  -- h itself is kept
  pub kept_self : (bs : List Branch) → Hang net E root bs → hung root bs h ≡ true → kept net W root h bs h ≡ true
  kept_self [] w k = let e = eqb-true h root k in and_from (eqb h root) _ k (eq-eqb root h (sym e))
  kept_self (b ∷ bs) w k = elim (cases_eq h b.child) [
    | inl e ↦ ap (kept net W root h (b ∷ bs)) e ∙ kept_new b bs ∙ or_left (eqb b.child h) _ (eq-eqb b.child h (sym e))
    | inr e ↦ let i = elim (or_cases (eqb h b.child) (hung root bs h) k) as (λ z. hung root bs h ≡ true) [ inl j ↦ absurd (e (eqb-true h b.child j)) | inr j ↦ j ] in kept_old b bs w h i ∙ kept_self bs w.4 i
  ]

  abbrev paid : (ℕ → Bool) → List Branch → ℕ
  paid N bs = sum_of (λ b. cond (N b.child && N b.parent) (cost net b.edge) 0) bs

  paid_same : (N M : ℕ → Bool) (bs : List Branch) → Hang net E root bs → ((v : ℕ) → hung root bs v ≡ true → N v ≡ M v) → paid N bs ≡ paid M bs
  paid_same N M [] w f = refl
  paid_same N M (b ∷ bs) w f =
      let ih = paid_same N M bs w.4 (λ v k. f v (or_right (eqb v b.child) _ k)) in
      let x = f b.child (or_left (eqb b.child b.child) _ (eq-eqb b.child b.child refl)) in
      let y = f b.parent (or_right (eqb b.parent b.child) _ w.0) in
      let z : cond (N b.child && N b.parent) (cost net b.edge) 0 ≡ cond (M b.child && M b.parent) (cost net b.edge) 0 = ap (λ i. cond (i && N b.parent) (cost net b.edge) 0) x ∙ ap (λ i. cond (M b.child && i) (cost net b.edge) 0) y in
      omega arith

  paid_none : (N : ℕ → Bool) (bs : List Branch) → ((v : ℕ) → N v ≡ false) → paid N bs ≡ 0
  paid_none N [] f = refl
  paid_none N (b ∷ bs) f = let ih = paid_none N bs f in let a = cond-false (N b.child && N b.parent) (cost net b.edge) 0 (and_left (N b.child) _ (f b.child)) in omega arith

  abbrev won : (ℕ → Bool) → (ℕ → ℕ) → ℕ → ℕ
  won N p v = cond (N v) (p v) 0

  pub reach : (bs : List Branch) → Hang net E root bs → hung root bs h ≡ true → (p : ℕ → ℕ) → worths net bs p ≡ W →
      over_hung root bs (λ v. cond (kept net W root h bs v) (p v) 0) ≡ W h + sum_of (λ b. cond (kept net W root h bs b.child && kept net W root h bs b.parent) (cost net b.edge) 0) bs
  reach [] w k p e =
      let s = eqb-true h root k in
      let a = cond-true (K [] root) (p root) 0 (and_from (eqb root root) _ (eq-eqb root root refl) (eq-eqb root h (sym s))) in
      let b : p root ≡ W h = ap (λ f. f root) e ∙ ap W (sym s) in
      omega arith
  reach (b ∷ bs) w k p e = go (cases_eq b.child h) (λ i. reach bs w.4 i (lifted net b p) e)
    where
      x : ℕ
      x = b.child

      q : ℕ
      q = b.parent

      c : ℕ
      c = cost net b.edge

      p' : ℕ → ℕ
      p' = lifted net b p

      worth_x : W b.child ≡ p b.child
      worth_x = ap (λ f. f b.child) (sym e) ∙ leaf net E root b bs w p

      olds : over_hung root bs (won (K (b ∷ bs)) p) ≡ over_hung root bs (won (K bs) p)
      olds = hung_same root bs (won (K (b ∷ bs)) p) (won (K bs) p) (λ v i. ap (λ z. cond z (p v) 0) (kept_old b bs w v i))

      costs : paid (K (b ∷ bs)) bs ≡ paid (K bs) bs
      costs = paid_same (K (b ∷ bs)) (K bs) bs w.4 (λ v i. kept_old b bs w v i)

      parent_old : K (b ∷ bs) b.parent ≡ K bs b.parent
      parent_old = kept_old b bs w b.parent w.0

      Goal : Type 0
      Goal = over_hung root (b ∷ bs) (won (K (b ∷ bs)) p) ≡ W h + paid (K (b ∷ bs)) (b ∷ bs)

      go : (b.child ≡ h) ⊎ (b.child ≡ h → ⊥) → (hung root bs h ≡ true → over_hung root bs (won (K bs) (lifted net b p)) ≡ W h + paid (K bs) bs) → Goal
      go (inl s) ih =
          let out : hung root bs h ≡ false = ap (hung root bs) (sym s) ∙ w.1 in
          let none = kept_none bs out in
          let i = hung_none root bs (won (K bs) p) (λ v j. cond-false (K bs v) (p v) 0 (none v)) in
          let j = paid_none (K bs) bs none in
          let a = cond-true (K (b ∷ bs) x) (p x) 0 (kept_new b bs ∙ or_left (eqb x h) _ (eq-eqb x h s)) in
          let d = cond-false (K (b ∷ bs) x && K (b ∷ bs) q) c 0 (and_right (K (b ∷ bs) x) _ (parent_old ∙ none q)) in
          let m : W h ≡ W x = ap W (sym s) in
          let o = olds in
          let u = costs in
          let v = worth_x in
          omega arith
      go (inr s) ih = by (cases_Bool (K bs q)) (ih hung_h)
        where
          hung_h : hung root bs h ≡ true
          hung_h = elim (or_cases (eqb h b.child) (hung root bs h) k) [ inl j ↦ absurd (s (sym (eqb-true h b.child j))) | inr j ↦ j ]

          new_is : K (b ∷ bs) x ≡ (K bs q && ltb c (W x))
          new_is = kept_new b bs ∙ ap (λ z. z || (K bs q && ltb c (W x))) (ne_eqb x h s)

          by : (K bs q ≡ true) ⊎ (K bs q ≡ false) → over_hung root bs (won (K bs) p') ≡ W h + paid (K bs) bs → Goal
          by (inr t) r =
              let kx : K (b ∷ bs) x ≡ false = new_is ∙ and_left (K bs q) _ t in
              let a = cond-false (K (b ∷ bs) x) (p x) 0 kx in
              let d = cond-false (K (b ∷ bs) x && K (b ∷ bs) q) c 0 (and_left (K (b ∷ bs) x) _ kx) in
              let same = hung_same root bs (won (K bs) p) (won (K bs) p') (λ v i. elim (cases_eq v q) [
                | inl z ↦ let kv : K bs v ≡ false = ap (K bs) z ∙ t in cond-false (K bs v) (p v) 0 kv ∙ sym (cond-false (K bs v) (p' v) 0 kv)
                | inr z ↦ ap (λ y. cond (K bs v) y 0) (sym (lift_other net E root b p v z))
              ]) in
              let o = olds in
              let u = costs in
              omega arith
          by (inl t) r =
              let a = cond-true (K bs q) (p q) 0 t in
              let a' = cond-true (K bs q) (p' q) 0 t in
              let l = lift_at net E root b p in
              let sp = hung_point net E root bs w.4 (won (K bs) p) (won (K bs) p') q (p x - c) (λ v z. ap (λ y. cond (K bs v) y 0) (sym (lift_other net E root b p v z))) w.0 (omega arith) in
              elim (cases_Bool (ltb c (W x))) [
                | inl g ↦
                    let kx : K (b ∷ bs) x ≡ true = new_is ∙ and_from (K bs q) _ t g in
                    let i = cond-true (K (b ∷ bs) x) (p x) 0 kx in
                    let d = cond-true (K (b ∷ bs) x && K (b ∷ bs) q) c 0 (and_from (K (b ∷ bs) x) _ kx (parent_old ∙ t)) in
                    let g' = ltb-true c (W x) g in
                    let o = olds in
                    let u = costs in
                    let v = worth_x in
                    omega arith
                | inr g ↦
                    let kx : K (b ∷ bs) x ≡ false = new_is ∙ and_right (K bs q) _ g in
                    let i = cond-false (K (b ∷ bs) x) (p x) 0 kx in
                    let d = cond-false (K (b ∷ bs) x && K (b ∷ bs) q) c 0 (and_left (K (b ∷ bs) x) _ kx) in
                    let g' = ltb-false c (W x) g in
                    let o = olds in
                    let u = costs in
                    let v = worth_x in
                    omega arith
              ]
