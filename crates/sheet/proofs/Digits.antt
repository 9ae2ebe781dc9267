-- Decimal digits, one more at a time. Assumes nothing.
use Rattle.std.proofs.Common.{◌≡◌, ℕ, ◌+◌, ◌-◌, ◌*◌, ◌^◌, ◌<◌, ◌≤◌, true, List, [], ◌∷◌, ◌++◌, length, get_or, take, refl, ap, ◌∙◌, arith, rules}
use Rattle.std.proofs.lemmas.List.{take_more, length-take-le}
use Rattle.std.proofs.lemmas.Bool.Decides.{nat_tests}
use Rattle.std.proofs.lemmas.Str.Parse.{IsNumeralModel, numerals_by_fold, digits_value_short}
use Rattle.network.specs.Codes.{all, is_digit}
use Rattle.sheet.specs.Numbers.{value_from}

-- our digits and their value are those of the library
pub numerals : IsNumeralModel (λ ds. all is_digit ds ≡ true) (value_from 0)
numerals = numerals_by_fold _ (search rules) value_from (search rules)

pub value_small : (ds : List ℕ) → all is_digit ds ≡ true → length ds ≤ 10 → value_from 0 ds < 10 ^ 10
value_small ds h l = digits_value_short numerals ds 10 h l

pub value_at_small : (s : List ℕ) (i : ℕ) → i < length s → length s ≤ 10 → all is_digit (take i s) ≡ true → value_from 0 (take i s) < 10 ^ 10
value_at_small s i l m h = let n = length-take-le i s (omega arith) in value_small (take i s) h (omega arith)

digits_push : (ds : List ℕ) (d : ℕ) → all is_digit ds ≡ true → is_digit d ≡ true → all is_digit (ds ++ d ∷ []) ≡ true
digits_push [] d h e = grind (arith, nat_tests)
digits_push (x ∷ ds) d h e = let again = digits_push ds d in grind (arith, nat_tests)

value_push : (n : ℕ) (ds : List ℕ) (d : ℕ) → value_from n (ds ++ d ∷ []) ≡ value_from n ds * 10 + (d - 48)
value_push n [] d = refl
value_push n (x ∷ ds) d = value_push (n * 10 + (x - 48)) ds d

pub digits_more : (s : List ℕ) (i : ℕ) → i < length s → all is_digit (take i s) ≡ true → is_digit (get_or s i 0) ≡ true → all is_digit (take (i + 1) s) ≡ true
digits_more s i l h e = ap (all is_digit) (take_more s i 0 l) ∙ digits_push (take i s) (get_or s i 0) h e

pub value_more : (s : List ℕ) (i : ℕ) → i < length s → value_from 0 (take (i + 1) s) ≡ value_from 0 (take i s) * 10 + (get_or s i 0 - 48)
value_more s i l = ap (value_from 0) (take_more s i 0 l) ∙ value_push 0 (take i s) (get_or s i 0)
