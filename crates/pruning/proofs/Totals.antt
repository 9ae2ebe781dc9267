-- Sums of costs and of prizes: how large they are. Assumes nothing.
use Rattle.std.proofs.Common.{◌≡◌, ℕ, zero, suc, ◌+◌, ◌*◌, ◌≤◌, Bool, true, false, cond, sym, ap, ◌∙◌, add-one, arith}
use Rattle.theory.specs.Sums.{sum_to}

pub either_most : (b : Bool) (x y most : ℕ) → x ≤ most → y ≤ most → cond b x y ≤ most
either_most true x y most p q = p
either_most false x y most p q = q

-- as many summands at most
pub sum_most : (f : ℕ → ℕ) (most : ℕ) → ((v : ℕ) → f v ≤ most) → (n : ℕ) → sum_to n f ≤ most * n
sum_most f most h zero = omega arith
sum_most f most h (suc n) = let ih = sum_most f most h n in let last = h n in omega arith
