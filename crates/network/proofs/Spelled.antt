-- Going through a list answers whether every element passes.
use Rattle.std.proofs.Common.{◌≡◌, ℕ, zero, suc, ◌<◌, Bool, true, false, ◌&&◌, List, [], ◌∷◌, length, get_or, refl, sym, arith}
use Rattle.std.specs.Bool.{MatchBool}
use Rattle.std.specs.List.{AllWithin, HoldsAt}
use Rattle.std.specs.Str.{IsAscii}
use Rattle.std.proofs.lemmas.Bool.{and_parts}
use Rattle.std.proofs.lemmas.Bool.Decides.{nat_tests}
use Rattle.network.specs.Codes.{all, is_code_byte}

never : (b : Bool) → (b && false) ≡ false
never true = refl
never false = refl

module _ {X : Type 0} (p : X → Bool) where
  all_pass : (xs : List X) → ((k : ℕ) (d : X) → k < length xs → p (get_or xs k d) ≡ true) → all p xs ≡ true
  all_pass [] h = refl
  all_pass (x ∷ xs) h = let here = h 0 x (omega arith) in let rest = all_pass xs (λ k d l. h (suc k) d (omega arith)) in rw (here, rest) refl

  one_fails : (xs : List X) (k : ℕ) → k < length xs → ((d : X) → p (get_or xs k d) ≡ false) → all p xs ≡ false
  one_fails [] k l h = absurd (omega arith)
  one_fails (x ∷ xs) zero l h = rw (h x) refl
  one_fails (x ∷ xs) (suc k) l h = rw (one_fails xs k (omega arith) h) (never (p x))

  pub all_decided : (xs : List X) (r : Bool) → MatchBool r (AllWithin (λ x. p x ≡ true) xs 0 (length xs)) ((k : ℕ) × (k < length xs) × HoldsAt (λ x. p x ≡ false) xs k) → r ≡ all p xs
  all_decided xs true h = sym (all_pass xs (λ k d l. h k d (omega arith) l))
  all_decided xs false h = sym (one_fails xs h.0 h.1 h.2)

-- the bytes of a code are letters and digits, so they are a text
pub code_is_text : (bs : List ℕ) → all is_code_byte bs ≡ true → IsAscii bs
code_is_text [] h i = omega arith
code_is_text (b ∷ bs) h zero = let p = and_parts (is_code_byte b) (all is_code_byte bs) h in grind (arith, nat_tests)
code_is_text (b ∷ bs) h (suc i) = code_is_text bs (and_parts (is_code_byte b) (all is_code_byte bs) h).1 i
