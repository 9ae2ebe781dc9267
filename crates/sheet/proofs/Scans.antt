-- The field at the front of some bytes ends at the first tab or line feed. Assumes nothing.
use Rattle.std.proofs.Common.{◌≡◌, ℕ, suc, ◌+◌, Bool, true, false, cond, not, ltb, List, [], ◌∷◌, length, get_or, take, drop, Some, None, Option, MatchOption, sym, refl, ap, ◌∙◌, arith}
use Rattle.std.specs.List.{position_or_len}
use Rattle.std.proofs.lemmas.Bool.{ltb-true, ltb-false}
use Rattle.std.proofs.lemmas.List.{drop_all, drop_more}
use Rattle.sheet.specs.Readers.{is_stop, field_of, behind_field}

abbrev field_len : List ℕ → ℕ
field_len xs = position_or_len is_stop xs

abbrev Parts : List ℕ → Type 0
Parts xs = (field_of xs ≡ take (field_len xs) xs) × (behind_field xs ≡ drop (field_len xs) xs)

field_parts : (xs : List ℕ) → Parts xs
field_parts [] = (refl, refl)
field_parts (x ∷ xs) = by_test (is_stop x) (field_parts xs)
  where
    by_test : (stop : Bool) → Parts xs → (cond stop [] (x ∷ field_of xs) ≡ take (cond (not stop) (1 + field_len xs) 0) (x ∷ xs)) × (cond stop (x ∷ xs) (behind_field xs) ≡ drop (cond (not stop) (1 + field_len xs) 0) (x ∷ xs))
    by_test true again = (refl, refl)
    by_test false again = let more : suc (field_len xs) ≡ 1 + field_len xs = omega arith in (ap (λ l. x ∷ l) again.0 ∙ ap (λ n. take n (x ∷ xs)) more, again.1 ∙ ap (λ n. drop n (x ∷ xs)) more)

-- what it means that `position` found no stop, or the first
pub field_found : (xs : List ℕ) (r : Option ℕ) → r ≡ cond (ltb (field_len xs) (length xs)) (Some (field_len xs)) None → MatchOption r (behind_field xs ≡ []) (λ n. (take n xs ≡ field_of xs) × (behind_field xs ≡ get_or xs n 0 ∷ drop (n + 1) xs))
field_found xs r is = rw is (by_end (ltb (field_len xs) (length xs)) refl (field_parts xs))
  where
    by_end : (b : Bool) → ltb (field_len xs) (length xs) ≡ b → Parts xs → MatchOption (cond b (Some (field_len xs)) None) (behind_field xs ≡ []) (λ n. (take n xs ≡ field_of xs) × (behind_field xs ≡ get_or xs n 0 ∷ drop (n + 1) xs))
    by_end true e parts = (sym parts.0, parts.1 ∙ drop_more xs (field_len xs) 0 (ltb-true _ _ e))
    by_end false e parts = parts.1 ∙ drop_all (field_len xs) xs (ltb-false _ _ e)
