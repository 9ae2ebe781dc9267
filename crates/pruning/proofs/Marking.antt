-- Setting a mark, and lists without a mark. Assumes nothing.
use Rattle.std.proofs.Common.{◌≡◌, ℕ, zero, suc, ◌<◌, Bool, true, false, cond, eqb, List, length, get_or, set, replicate, sym, refl, ap, ◌∙◌, inl, inr}
use mathlib.Core.Path.{fun_ext}
use mir.Val.{bool_byte}
use Rattle.std.proofs.lemmas.List.{get_or-set_same, get_or-set_other}
use Rattle.std.proofs.lemmas.Bool.{cases_eq, eq-eqb, ne_eqb, cond-true, cond-false}
use Rattle.theory.specs.Sums.{one}
use Rattle.theory.specs.Prune.{marked}

-- what a place holds after a write
pub get_d_set : (xs : List ℕ) (i y : ℕ) → i < length xs → (v : ℕ) → get_or (set xs i y) v 0 ≡ cond (eqb v i) y (get_or xs v 0)
get_d_set xs i y l v = elim (cases_eq v i) [
  | inl e ↦ ap (λ k. get_or (set xs i y) k 0) e ∙ get_or-set_same xs i y 0 l ∙ sym (cond-true (eqb v i) y (get_or xs v 0) (eq-eqb v i e))
  | inr e ↦ get_or-set_other xs i v y 0 e ∙ sym (cond-false (eqb v i) y (get_or xs v 0) (ne_eqb v i e))
]

-- a test written as a byte
pub byte_one : (b : Bool) → bool_byte b ≡ one b
byte_one true = refl
byte_one false = refl

byte : (b c : Bool) (x : ℕ) → eqb (cond b (one c) x) 1 ≡ cond b c (eqb x 1)
byte true true x = refl
byte true false x = refl
byte false c x = refl

pub marked_set : (ms : List ℕ) (i : ℕ) (b : Bool) → i < length ms → marked (set ms i (one b)) ≡ (λ v. cond (eqb v i) b (marked ms v))
marked_set ms i b l = fun_ext (λ v. ap (λ x. eqb x 1) (get_d_set ms i (one b) l v) ∙ byte (eqb v i) b (get_or ms v 0))

pub get_or_zeros : (n v : ℕ) → ◌≡◌ {A = ℕ} (get_or (replicate n 0) v 0) 0
get_or_zeros zero v = refl
get_or_zeros (suc n) zero = refl
get_or_zeros (suc n) (suc v) = get_or_zeros n v
