-- Looking for the lowest number that passes a test. Assumes nothing.
use Rattle.std.proofs.Common.{◌≡◌, ℕ, zero, suc, ◌+◌, ◌<◌, Bool, true, false, cond, Some, None, Option, ap, ◌∙◌, subst, inl, inr, add-one, arith}
use Rattle.std.proofs.lemmas.Bool.{cases_eq}
use Rattle.theory.specs.Strong.{lowest_below}

-- what the next number makes of what was found below it
abbrev next : (ℕ → Bool) → ℕ → Option ℕ → Option ℕ
next p n (Some v) = Some v
next p n None = cond (p n) (Some n) None

unfolds : (p : ℕ → Bool) (n : ℕ) (o : Option ℕ) → lowest_below n p ≡ o → lowest_below (suc n) p ≡ next p n o
unfolds p n None e = ap (λ o. elim o as (λ z. Option ℕ) [ Some v ↦ Some v | None ↦ cond (p n) (Some n) None ]) e
unfolds p n (Some v) e = ap (λ o. elim o as (λ z. Option ℕ) [ Some u ↦ Some u | None ↦ cond (p n) (Some n) None ]) e

pub lowest_passed : (p : ℕ → Bool) (s : ℕ) → lowest_below s p ≡ None → p s ≡ false → lowest_below (s + 1) p ≡ None
lowest_passed p s none fails = ap (λ n. lowest_below n p) (add-one s) ∙ unfolds p s None none ∙ ap (λ b. cond b (Some s) None) fails

pub lowest_found : (p : ℕ → Bool) (m s : ℕ) → lowest_below s p ≡ None → p s ≡ true → s < m → lowest_below m p ≡ Some s
lowest_found p zero s none h l = absurd (omega arith)
lowest_found p (suc m) s none h l = elim (cases_eq s m) [
  | inl e ↦ subst (λ k. lowest_below (suc k) p ≡ Some s) e (unfolds p s None none ∙ ap (λ b. cond b (Some s) None) h)
  | inr e ↦ unfolds p m (Some s) (lowest_found p m s none h (omega arith))
]
