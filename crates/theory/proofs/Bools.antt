-- Tests: as numbers, where two of them differ, and under `cond`. Assumes nothing.
use Rattle.std.proofs.Common.{◌≡◌, ℕ, ◌*◌, ◌≤◌, Bool, true, false, cond, not, sym, refl, ap, arith}
use Rattle.std.proofs.lemmas.Bool.{cond-true, cond-false}
use Rattle.theory.specs.Sums.{one, differ}

-- a test that cannot hold fails
pub only : (b : Bool) → (b ≡ true → ⊥) → b ≡ false
only true f = absurd (f refl)
only false f = refl

pub same_bool : (x y : Bool) → (x ≡ true → y ≡ true) → (y ≡ true → x ≡ true) → x ≡ y
same_bool true y f g = sym (f refl)
same_bool false true f g = g refl
same_bool false false f g = refl

pub one_true : (x : Bool) → x ≡ true → one x ≡ 1
one_true x e = cond-true x 1 0 e

pub one_false : (x : Bool) → x ≡ false → one x ≡ 0
one_false x e = cond-false x 1 0 e

pub one_most : (b : Bool) → one b ≤ 1
one_most true = omega arith
one_most false = omega arith

pub one_is : (b : Bool) → 1 ≤ one b → b ≡ true
one_is true h = refl
one_is false h = absurd (omega arith)

pub one_none : (b : Bool) → one b ≡ 0 → b ≡ false
one_none true e = absurd (omega arith)
one_none false e = refl

pub differs_first : (x y : Bool) → x ≡ true → y ≡ false → differ x y ≡ true
differs_first x y p q = cc

pub differs_second : (x y : Bool) → x ≡ false → y ≡ true → differ x y ≡ true
differs_second x y p q = cc

pub same_true : (x y : Bool) → x ≡ true → y ≡ true → differ x y ≡ false
same_true x y p q = cc

pub same_false : (x y : Bool) → x ≡ false → y ≡ false → differ x y ≡ false
same_false x y p q = cc

pub differ_false : (x y : Bool) → y ≡ false → differ x y ≡ x
differ_false true y e = ap not e
differ_false false y e = e

pub zero_cond : (b : Bool) → ◌≡◌ {A = ℕ} (cond b 0 0) 0
zero_cond true = refl
zero_cond false = refl

pub cond_most : (b : Bool) (x : ℕ) → cond b x 0 ≤ x
cond_most true x = omega arith
cond_most false x = omega arith

-- a number or nothing, as a product
pub flip : (b : Bool) (x : ℕ) → cond b x 0 ≡ x * one b
flip true x = omega arith
flip false x = omega arith
