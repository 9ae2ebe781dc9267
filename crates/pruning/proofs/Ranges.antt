-- Chains over the numbers below n, in the words of the theory: their sum, their count, the first that passes. Assumes nothing.
use Rattle.std.proofs.Common.{◌≡◌, ℕ, zero, suc, ◌+◌, ◌*◌, ◌<◌, ◌≤◌, Bool, true, false, eqb, get_or, inl, inr, subst, List, map, length, Option, Some, None, refl, ap, ◌∙◌, sym, add-one, arith}
use denote.Param.Members.{Mut}
use denote.Ref.{Bor}
use mir.Val.{bool_byte}
use Rattle.std.specs.Array.{IsFromFnResult, IsFromFnResultFrom}
use Rattle.std.specs.Bool.{⊤}
use Rattle.std.specs.Fn.{Called, CalledAt}
use Rattle.std.specs.List.{range_with_len, fold, sum_by, FoldsTo}
use Rattle.std.specs.Option.{MatchOption}
use Rattle.std.specs.Iterator.{Drains, YieldsThen}
use Rattle.std.specs.Iterator.Adapters.{map_source, map_callee, filter_source, filter_callee, filter_steps}
use Rattle.std.specs.Iterator.Runs.{EachRunFrom}
use Rattle.std.specs.declared.iter.Filter.{Filter}
use Rattle.std.specs.declared.iter.Map.{Map}
use Rattle.std.specs.declared.ops.Range.{Range}
use Rattle.std.proofs.iter.Yields.{nat_range_steps}
use Rattle.std.proofs.lemmas.Bool.{cases_eq}
use Rattle.std.proofs.lemmas.Iterator.{first_from_Range, YieldsList, YieldsList-from_range, YieldsList-from_map, maps}
use Rattle.std.proofs.lemmas.Iterator.Consumers.{YieldsList-from_filter, sum_by_from_yields_List, fits_by_from_yields_list, count_from_yields_List}
use Rattle.std.proofs.lemmas.List.Sums.{sum-map, length-filter}
use Rattle.std.proofs.lemmas.List.FromFn.{sum_by-map-range_with_len_more}
use Rattle.theory.specs.Sums.{sum_to, one}
use Rattle.theory.specs.Prune.{marked}
use Rattle.theory.specs.Strong.{lowest_below}
use Rattle.pruning.proofs.Marking.{byte_one}
use Rattle.pruning.proofs.Totals.{sum_most}
use Rattle.pruning.proofs.Lowest.{lowest_passed, lowest_found}

sum_range : (f : ℕ → ℕ) (n : ℕ) → sum_by f (range_with_len 0 n) ≡ sum_to n f
sum_range f zero = refl
sum_range f (suc n) =
    ap (λ k. sum_by f (range_with_len 0 k)) (sym (add-one n))
    ∙ sym (sum-map f (range_with_len 0 (n + 1)))
    ∙ sum_by-map-range_with_len_more (λ x. x) f 0 n n (omega arith)
    ∙ ap (λ k. k + f n) (sum-map f (range_with_len 0 n) ∙ sum_range f n)

-- `(0..n).map(..).sum()`
module _ {F : Type 0} {g : Mut F (ℕ × Unit {0}) ℕ} {k : F} (f : ℕ → ℕ) (n : ℕ) (s : Map (Range ℕ) F) (source : map_source s ≡ record { start = 0; end = n }) (callee : map_callee s ≡ k) (gives : (x y : ℕ) (q : F) → Called g k (x, tt) y q → (q ≡ k) × (y ≡ f x)) where
  summands : YieldsList (maps nat_range_steps g) (λ y. y) s (map f (range_with_len 0 n))
  summands = YieldsList-from_map g f (YieldsList-from_range 0 n n source (omega arith)) callee gives

  pub sum_below : (total : ℕ) → ((xs : List ℕ) × (⊤ → Drains (maps nat_range_steps g) s xs) × (total ≡ fold (λ a x. a + x) 0 xs)) → total ≡ sum_to n f
  sum_below total ran = sum_by_from_yields_List f (range_with_len 0 n) s total ran summands ∙ sum_range f n

  -- no summand is above `most`
  pub sum_fits : (most top : ℕ) → ((v : ℕ) → f v ≤ most) → most * n < top → EachRunFrom (maps nat_range_steps g) s (λ p. fold (λ a x. a + x) 0 p.items < top)
  sum_fits most top h l = fits_by_from_yields_list f (range_with_len 0 n) s top summands (let e = sum_range f n in let m = sum_most f most h n in omega arith)

-- `(0..n).filter(..).count()`
pub count_below : {F : Type 0} {g : Mut F (Bor ℕ × Unit {0}) Bool} {k : F} (p : ℕ → Bool) (n : ℕ) (s : Filter (Range ℕ) F) (count : ℕ)
    → filter_source s ≡ record { start = 0; end = n } → filter_callee s ≡ k → ((x : ℕ) (b : Bool) (q : F) → CalledAt g k x b q → (q ≡ k) × (b ≡ p x))
    → ((xs : List ℕ) × Drains (filter_steps nat_range_steps g) s xs × (count ≡ length xs)) → count ≡ sum_to n (λ v. one (p v))
count_below {g = g} p n s count source callee gives ran = count_from_yields_List s count ran (YieldsList-from_filter g p (YieldsList-from_range 0 n n source (omega arith)) callee gives) ∙ length-filter p (range_with_len 0 n) ∙ sum_range (λ v. one (p v)) n

-- what `find` says over the numbers below n is the lowest that passes
none_below : (p : ℕ → Bool) (n : ℕ) → ((v : ℕ) → v < n → p v ≡ false) → lowest_below n p ≡ None
none_below p zero h = refl
none_below p (suc n) h = ap (λ k. lowest_below k p) (sym (add-one n)) ∙ lowest_passed p n (none_below p n (λ v l. h v (omega arith))) (h n (omega arith))

-- `(0..n).find(..)`
pub found_below : {F : Type 0} {g : Mut F (Bor ℕ × Unit {0}) Bool} {k : F} (p : ℕ → Bool) (n : ℕ) (t : Range ℕ) (found : Option ℕ)
    → ((x : ℕ) (b : Bool) (q : F) → CalledAt g k x b q → (q ≡ k) × (b ≡ p x))
    → ((xs : List ℕ) × (j : F) × YieldsThen nat_range_steps (record { start = 0; end = n }) xs found t × FoldsTo (λ q x r. CalledAt g q x false r) k xs j × MatchOption found ⊤ (λ x. (r : F) × CalledAt g j x true r)) → found ≡ lowest_below n p
found_below {k = k} p n t found gives ran = by found (first_from_Range _ t k found (λ v. p v ≡ true) (λ v. p v ≡ false) ran (λ x q c. sym (gives x true q c).1) (λ x q c. ((gives x false q c).0, sym (gives x false q c).1)))
  where
    by : (o : Option ℕ) → MatchOption o ((v : ℕ) → 0 ≤ v → v < n → p v ≡ false) (λ v. (0 ≤ v) × (v < n) × (p v ≡ true) × ((u : ℕ) → 0 ≤ u → u < v → p u ≡ false)) → o ≡ lowest_below n p
    by None h = sym (none_below p n (λ v l. h v (omega arith) l))
    by (Some v) h = sym (lowest_found p n v (none_below p v (λ u l. h.3 u (omega arith) l)) h.2 h.1)

-- `array::from_fn(..)`
module _ {X F : Type 0} {g : Mut F (ℕ × Unit {0}) X} {k : F} (f : ℕ → X) (xs : List X) (gives : (x : ℕ) (y : X) (q : F) → Called g k (x, tt) y q → (q ≡ k) × (y ≡ f x)) where
  made_from : (i m : ℕ) → IsFromFnResultFrom g k xs i m → (v : ℕ) (d : X) → i ≤ v → v < i + m → get_or xs v d ≡ f v
  made_from i zero made v d low high = absurd (omega arith)
  made_from i (suc m) made v d low high = elim (cases_eq v i) [
    | inl e ↦ ap (λ u. get_or xs u d) e ∙ made.2.1 d ∙ (gives i made.1 made.0 made.3).1 ∙ ap f (sym e)
    | inr e ↦ made_from (i + 1) m (subst (λ q. IsFromFnResultFrom g q xs (i + 1) m) (gives i made.1 made.0 made.3).0 made.4) v d (omega arith) (omega arith)
  ]

  pub made_at : (n : ℕ) → IsFromFnResult g k xs n → (v : ℕ) (d : X) → v < n → get_or xs v d ≡ f v
  made_at n made v d l = made_from 0 n made.each v d (omega arith) (omega arith)

-- at a byte for each test
pub marks_made : {F : Type 0} {g : Mut F (ℕ × Unit {0}) ℕ} {k : F} (p : ℕ → Bool) (n : ℕ) (bytes : List ℕ) (gives : (x y : ℕ) (q : F) → Called g k (x, tt) y q → (q ≡ k) × (y ≡ bool_byte (p x)))
    → IsFromFnResult g k bytes n → (v : ℕ) → v < n → marked bytes v ≡ p v
marks_made p n bytes gives made v l = ap (λ x. eqb x 1) (made_at (λ u. bool_byte (p u)) bytes gives n made v 0 l ∙ byte_one (p v)) ∙ of_one (p v)
  where
    of_one : (b : Bool) → eqb (one b) 1 ≡ b
    of_one true = refl
    of_one false = refl
