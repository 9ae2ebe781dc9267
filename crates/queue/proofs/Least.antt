-- The least of a table's entries, as pairs of time and number, is what a look through the table finds. Assumes nothing.
use Rattle.std.proofs.Common.{◌≡◌, ℕ, ◌+◌, ◌<◌, List, [], ◌∷◌, Some, None, Option, sym, refl, ap, ◌∙◌, arith}
use Rattle.std.specs.List.{filter_map, enumerate_from, fold, reduce}
use Rattle.std.specs.Option.{option_map}
use Rattle.std.specs.Ordering.{nat_cmp, ordering_then, min_by_ordering}
use Rattle.std.proofs.lemmas.Bool.Decides.{nat_tests}
use Rattle.queue.specs.Tables.{sooner, scan}

-- the lesser of two pairs, the first where they are equal
abbrev pub lesser : ℕ × ℕ → ℕ × ℕ → ℕ × ℕ
lesser p z = min_by_ordering (ordering_then (nat_cmp p.0 z.0) (nat_cmp p.1 z.1)) p z

-- a number's entry as a pair
abbrev pub entry_of : ℕ × Option ℕ → Option (ℕ × ℕ)
entry_of p = option_map (λ time. (time, p.0)) p.1

lesser_sooner : (e : ℕ × ℕ) (i time : ℕ) → e.1 < i → Some (lesser e (time, i)) ≡ sooner (Some e) i (Some time)
lesser_sooner e i time l = grind (arith, nat_tests)

lesser_below : (e : ℕ × ℕ) (i time : ℕ) → e.1 < i → (lesser e (time, i)).1 < i + 1
lesser_below e i time l = grind (arith, nat_tests)

scan_fold : (e : ℕ × ℕ) (i : ℕ) (xs : List (Option ℕ)) → e.1 < i → scan (Some e) i xs ≡ Some (fold lesser e (filter_map entry_of (enumerate_from i xs)))
scan_fold e i [] l = refl
scan_fold e i (None ∷ xs) l = scan_fold e (i + 1) xs (omega arith)
scan_fold e i (Some time ∷ xs) l = ap (λ found. scan found (i + 1) xs) (sym (lesser_sooner e i time l)) ∙ scan_fold (lesser e (time, i)) (i + 1) xs (lesser_below e i time l)

pub scan_least : (i : ℕ) (xs : List (Option ℕ)) → scan None i xs ≡ reduce lesser (filter_map entry_of (enumerate_from i xs))
scan_least i [] = refl
scan_least i (None ∷ xs) = scan_least (i + 1) xs
scan_least i (Some time ∷ xs) = scan_fold (time, i) (i + 1) xs (omega arith)
