-- Lists of one value, and a map in place, one element more at a time. Assumes nothing.
use Rattle.std.proofs.Common.{◌≡◌, ℕ, zero, suc, ◌+◌, ◌-◌, ◌<◌, ◌≤◌, List, ◌++◌, map, length, get_or, take, drop, replicate, refl, sym, ap, ◌∙◌, ⊎_elim, length-append, length-drop, add-one, arith}
use Rattle.std.proofs.lemmas.List.{length-map, length-take-le, length-replicate, get_or-replicate, get_or_past, get_or-append_right, get_or-drop, take_all}
use Rattle.std.proofs.lemmas.Bool.{cases_lt}
use Rattle.std.specs.List.{sum_by}
use Rattle.std.proofs.lemmas.List.Sums.{sum_by_more}
use Rattle.theory.specs.Sums.{sum_to}

-- within the list and beyond it
pub filled_all : {X : Type 0} (n i : ℕ) (a : X) → get_or (replicate n a) i a ≡ a
filled_all n i a = ⊎_elim (λ l. get_or-replicate n i a a l) (λ l. get_or_past (replicate n a) i a (let e = length-replicate n a in omega arith)) (cases_lt i n)

module _ {X : Type 0} (f : X → X) (xs ys : List X) (i : ℕ) (is : ys ≡ map f (take i xs) ++ drop i xs) where
  front_long : i ≤ length xs → length (map f (take i xs)) ≡ i
  front_long l = length-map (take i xs) f ∙ length-take-le i xs l

  pub still_long : i ≤ length xs → length ys ≡ length xs
  still_long l =
      let a = ap length is in
      let b = length-append (map f (take i xs)) (drop i xs) in
      let c = front_long l in
      let d = length-drop i xs in
      omega arith

  -- what is not reached yet is as it was
  pub unreached : i < length xs → (d : X) → get_or ys i d ≡ get_or xs i d
  unreached l d =
      ap (λ l. get_or l i d) is
      ∙ get_or-append_right (map f (take i xs)) (drop i xs) i i d (front_long (omega arith)) (omega arith)
      ∙ get_or-drop i xs (i - i) d
      ∙ ap (λ k. get_or xs k d) (omega arith)

-- a sum over a list, by number
sum_below : {X : Type 0} (f : X → ℕ) (d : X) (xs : List X) (n : ℕ) → n ≤ length xs → sum_by f (take n xs) ≡ sum_to n (λ k. f (get_or xs k d))
sum_below f d xs zero l = refl
sum_below f d xs (suc n) l =
    ap (λ k. sum_by f (take k xs)) (sym (add-one n))
    ∙ sum_by_more f xs n d (omega arith)
    ∙ ap (λ sum. sum + f (get_or xs n d)) (sum_below f d xs n (omega arith))

pub sum_of : {X : Type 0} (f : X → ℕ) (d : X) (xs : List X) → sum_by f xs ≡ sum_to (length xs) (λ k. f (get_or xs k d))
sum_of f d xs = ap (sum_by f) (sym (take_all (length xs) xs (omega arith))) ∙ sum_below f d xs (length xs) (omega arith)
