use Rattle.std.proofs.Common.{◌≡◌, ℕ, ◌-◌, ◌≤◌, true, List, ◌++◌, length, take, drop, replicate, sym, ap, ◌∙◌, arith, length-append}
use Rattle.std.proofs.lemmas.List.{drop_at, take_at, drop-replicate, length-replicate}
use Rattle.std.proofs.lemmas.Bool.Decides.{nat_tests}
use Rattle.network.specs.Codes.{is_code}
use Rattle.network.proofs.code.Code.new.Goals as goal

short : (text : List ℕ) → is_code text ≡ true → length text ≤ 8
short text e = grind (arith, nat_tests)

abbrev zeros : ℕ → List ℕ
zeros n = replicate n 0

-- the text at the front of eight zeros
module _ (text wrote : List ℕ) (is : wrote ≡ text) (l : length text ≤ 8) where
  rest : drop (length text - 0) (zeros 8) ≡ zeros (8 - length text)
  rest = let e : length text - 0 ≡ length text = omega arith in ap (λ n. drop n (zeros 8)) e ∙ drop-replicate (length text) 8 _

  whole : length (wrote ++ drop (length text - 0) (zeros 8)) ≡ 8
  whole =
      let a = length-append wrote (drop (length text - 0) (zeros 8)) in
      let b = ap length rest ∙ length-replicate (8 - length text) 0 in
      omega (arith, ap length is)

  padded : drop (length text) (wrote ++ drop (length text - 0) (zeros 8)) ≡ zeros (8 - length text)
  padded = drop_at wrote (drop (length text - 0) (zeros 8)) (length text) (ap length is) ∙ rest

  kept : take (length text) (wrote ++ drop (length text - 0) (zeros 8)) ≡ text
  kept = take_at wrote (drop (length text - 0) (zeros 8)) (length text) (ap length is) ∙ is

pub invariant_of-result : goal.invariant_of-result
invariant_of-result c =
    let text = c.args.text.now in
    let wrote = c.copy_from_slice.new.self in
    let is = c.copy_from_slice.ensures.after in
    let e = sym c.if-not-is_code.ensures in
    let l = short text e in
    record { whole = whole text wrote is l; within = l; spelled = ap is_code (kept text wrote is l) ∙ e; padded = padded text wrote is l }
