-- A look through a table is a fold over its entries with their numbers. Assumes nothing.
use Rattle.std.proofs.Common.{◌≡◌, ℕ, ◌+◌, List, [], ◌∷◌, Option, refl}
use Rattle.std.specs.List.{enumerate_from, fold}
use Rattle.queue.specs.Tables.{sooner, scan}

abbrev pub look : Option (ℕ × ℕ) → ℕ × Option ℕ → Option (ℕ × ℕ)
look found p = sooner found p.0 p.1

pub scan_fold : (found : Option (ℕ × ℕ)) (i : ℕ) (xs : List (Option ℕ)) → fold look found (enumerate_from i xs) ≡ scan found i xs
scan_fold found i [] = refl
scan_fold found i (x ∷ xs) = scan_fold (sooner found i x) (i + 1) xs
