-- Sums over lists and over the numbers below n. Assumes nothing.
use Rattle.std.proofs.Common.{◌≡◌, ℕ, zero, suc, ◌+◌, ◌*◌, ◌<◌, ◌≤◌, Bool, true, false, cond, List, [], ◌∷◌, ◌++◌, length, get_or, set, sym, refl, ap, inl, inr, arith}
use Rattle.std.proofs.lemmas.Bool.{cases_eq}
use Rattle.theory.specs.Sums.{sum_of, sum_to, one}
use Rattle.theory.proofs.Bools.{one_most}

module _ {X : Type 0} (f : X → ℕ) where
  pub sum_of_append : (xs ys : List X) → sum_of f (xs ++ ys) ≡ sum_of f xs + sum_of f ys
  sum_of_append [] ys = omega arith
  sum_of_append (x ∷ xs) ys = let ih = sum_of_append xs ys in omega arith

  pub sum_of_set : (xs : List X) (i : ℕ) (y d : X) → i < length xs → sum_of f (set xs i y) + f (get_or xs i d) ≡ sum_of f xs + f y
  sum_of_set [] i y d l = absurd (omega arith)
  sum_of_set (x ∷ xs) zero y d l = omega arith
  sum_of_set (x ∷ xs) (suc i) y d l = let ih = sum_of_set xs i y d (omega arith) in omega arith

  pub sum_of_at : (xs : List X) (i : ℕ) (d : X) → i < length xs → f (get_or xs i d) ≤ sum_of f xs
  sum_of_at [] i d l = absurd (omega arith)
  sum_of_at (x ∷ xs) zero d l = omega arith
  sum_of_at (x ∷ xs) (suc i) d l = let ih = sum_of_at xs i d (omega arith) in omega arith

pub sum_to_le : (n : ℕ) (f g : ℕ → ℕ) → ((v : ℕ) → v < n → f v ≤ g v) → sum_to n f ≤ sum_to n g
sum_to_le zero f g h = omega arith
sum_to_le (suc n) f g h = let ih = sum_to_le n f g (λ v l. h v (omega arith)) in let e = h n (omega arith) in omega arith

pub sum_to_less : (n : ℕ) (f g : ℕ → ℕ) (i : ℕ) → i < n → ((v : ℕ) → v < n → f v ≤ g v) → f i + 1 ≤ g i → sum_to n f + 1 ≤ sum_to n g
sum_to_less zero f g i l h k = absurd (omega arith)
sum_to_less (suc n) f g i l h k = elim (cases_eq i n) [
  | inl e ↦ let r = sum_to_le n f g (λ v m. h v (omega arith)) in let k' : f n + 1 ≤ g n = rw e at k in omega arith
  | inr e ↦ let ih = sum_to_less n f g i (omega arith) (λ v m. h v (omega arith)) k in let k' = h n (omega arith) in omega arith
]

pub sum_to_same : (n : ℕ) (f g : ℕ → ℕ) → ((v : ℕ) → v < n → f v ≡ g v) → sum_to n f ≡ sum_to n g
sum_to_same zero f g h = refl
sum_to_same (suc n) f g h = let ih = sum_to_same n f g (λ v l. h v (omega arith)) in let e = h n (omega arith) in omega arith

pub sum_to_plus : (n : ℕ) (f g : ℕ → ℕ) → sum_to n (λ v. f v + g v) ≡ sum_to n f + sum_to n g
sum_to_plus zero f g = refl
sum_to_plus (suc n) f g = let ih = sum_to_plus n f g in omega arith

pub sum_to_none : (n : ℕ) (f : ℕ → ℕ) → ((v : ℕ) → v < n → f v ≡ 0) → sum_to n f ≡ 0
sum_to_none zero f h = refl
sum_to_none (suc n) f h = let ih = sum_to_none n f (λ v l. h v (omega arith)) in let e = h n (omega arith) in omega arith

pub sum_to_at : (n : ℕ) (f : ℕ → ℕ) (i : ℕ) → i < n → f i ≤ sum_to n f
sum_to_at zero f i l = absurd (omega arith)
sum_to_at (suc n) f i l = elim (cases_eq i n) [
  | inl e ↦ let k : f i ≡ f n = ap f e in omega arith
  | inr e ↦ let ih = sum_to_at n f i (omega arith) in omega arith
]

-- a sum to which only one adds
pub sum_to_single : (n : ℕ) (f : ℕ → ℕ) (i : ℕ) → i < n → ((v : ℕ) → v < n → (v ≡ i → ⊥) → f v ≡ 0) → sum_to n f ≡ f i
sum_to_single zero f i l h = absurd (omega arith)
sum_to_single (suc n) f i l h = elim (cases_eq i n) [
  | inl e ↦ let r = sum_to_none n f (λ v m. h v (omega arith) (omega arith)) in let k : f i ≡ f n = ap f e in omega arith
  | inr e ↦ let ih = sum_to_single n f i (omega arith) (λ v m. h v (omega arith)) in let k = h n (omega arith) (λ q. e (sym q)) in omega arith
]

pub sum_to_scale : (n c : ℕ) (f : ℕ → ℕ) → sum_to n (λ v. c * f v) ≡ c * sum_to n f
sum_to_scale zero c f = omega arith
sum_to_scale (suc n) c f = let ih = sum_to_scale n c f in omega arith

-- doubled, of those that pass or do not
pub sum_to_double : (n : ℕ) (p : ℕ → Bool) (f : ℕ → ℕ) → sum_to n (λ v. cond (p v) (2 * f v) 0) ≡ 2 * sum_to n (λ v. cond (p v) (f v) 0)
sum_to_double zero p f = refl
sum_to_double (suc n) p f = let ih = sum_to_double n p f in let e = each (p n) (f n) in omega arith
  where
    each : (b : Bool) (x : ℕ) → cond b (2 * x) 0 ≡ 2 * cond b x 0
    each true x = refl
    each false x = refl

pub sum_to_double_not : (n : ℕ) (p : ℕ → Bool) (f : ℕ → ℕ) → sum_to n (λ v. cond (p v) 0 (2 * f v)) ≡ 2 * sum_to n (λ v. cond (p v) 0 (f v))
sum_to_double_not zero p f = refl
sum_to_double_not (suc n) p f = let ih = sum_to_double_not n p f in let e = each (p n) (f n) in omega arith
  where
    each : (b : Bool) (x : ℕ) → cond b 0 (2 * x) ≡ 2 * cond b 0 x
    each true x = refl
    each false x = refl

pub sum_to_ones : (n : ℕ) (p : ℕ → Bool) → sum_to n (λ v. one (p v)) ≤ n
sum_to_ones zero p = omega arith
sum_to_ones (suc n) p = let ih = sum_to_ones n p in let e = one_most (p n) in omega arith
