-- The clusters inside a cluster, as marks give them. Assumes nothing.
use Rattle.std.proofs.Common.{◌≡◌, ℕ, zero, suc, ◌<◌, Bool, true, false, ◌&&◌, ◌||◌, eqb, ltb, List, sym, refl, ap, ◌∙◌, inl, inr, arith}
use Rattle.std.proofs.lemmas.Bool.{cases_order, lt-ltb, le-ltb, eq-eqb, ne_eqb}
use Rattle.pruning.specs.declared.shape.Shape.{Shape}
use Rattle.pruning.specs.Pruned.{member, held_below}

here : (h m x : Bool) → ((h || false) || ((m || true) && x)) ≡ ((h || (m && x)) || x)
here h m x = grind arith

elsewhere : (h m x y : Bool) → ((h || y) || ((m || false) && x)) ≡ ((h || (m && x)) || y)
elsewhere h m x y = grind arith

module _ (shapes : List Shape) (v : ℕ) where
  -- where nothing is marked nothing is held
  pub held_none : (M : ℕ → Bool) (k : ℕ) → ((u : ℕ) → u < k → M u ≡ false) → held_below shapes k M v ≡ false
  held_none M zero h = refl
  held_none M (suc k) h = λ i. held_none M k (λ u l. h u (omega arith)) i || (h k (omega arith) i && member shapes k v)

  -- one mark more adds the nodes of its cluster
  module _ (M K : ℕ → Bool) (p : ℕ) where
    added : (k : ℕ) → ((u : ℕ) → u < k → K u ≡ (M u || eqb p u)) → held_below shapes k K v ≡ (held_below shapes k M v || (ltb p k && member shapes p v))
    added zero h = sym (ap (λ b. b && member shapes p v) (le-ltb p 0 (omega arith)))
    added (suc k) h =
        let ih = added k (λ u l. h u (omega arith)) in
        elim (cases_order p k) [
          | inl e ↦
              (λ i. (ih ∙ ap (λ b. held_below shapes k M v || (b && member shapes p v)) (le-ltb p k (omega arith))) i || ((h k (omega arith) ∙ ap (λ b. M k || b) (eq-eqb p k e)) i && member shapes k v))
              ∙ here (held_below shapes k M v) (M k) (member shapes k v)
              ∙ (λ i. held_below shapes (suc k) M v || (sym (lt-ltb p (suc k) (omega arith)) i && member shapes (sym e i) v))
          | inr o ↦
              let same : ltb p k ≡ ltb p (suc k) = elim o [ inl l ↦ lt-ltb p k l ∙ sym (lt-ltb p (suc k) (omega arith)) | inr l ↦ le-ltb p k (omega arith) ∙ sym (le-ltb p (suc k) (omega arith)) ] in
              let other : p ≡ k → ⊥ = (λ e. elim o [ inl l ↦ omega arith | inr l ↦ omega arith ]) in
              (λ i. (ih ∙ ap (λ b. held_below shapes k M v || (b && member shapes p v)) same) i || ((h k (omega arith) ∙ ap (λ b. M k || b) (ne_eqb p k other)) i && member shapes k v))
              ∙ elsewhere (held_below shapes k M v) (M k) (member shapes k v) (ltb p (suc k) && member shapes p v)
        ]

    pub held_more : (k : ℕ) → p < k → ((u : ℕ) → u < k → K u ≡ (M u || eqb p u)) → held_below shapes k K v ≡ (held_below shapes k M v || member shapes p v)
    held_more k l h = added k h ∙ ap (λ b. held_below shapes k M v || (b && member shapes p v)) (lt-ltb p k l)
