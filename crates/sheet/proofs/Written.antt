-- A line that is written is read as what it says, and a line that is read is as it would be written. Assumes nothing.
use Rattle.std.proofs.Common.{◌≡◌, ℕ, ◌^◌, ◌<◌, Bool, true, false, cond, not, List, [], ◌∷◌, ◌++◌, length, Some, decimal, sym, refl, ap, ◌∙◌, ⊎_elim, append_assoc, arith}
use Rattle.std.proofs.lemmas.Fmt.{digits_decimal, digits_value-decimal, length-decimal-le, decimal_nonempty, first_decimal, decimal_digit}
use Rattle.std.proofs.lemmas.Bool.{and_parts, and_from, cases_eq, le-leb}
use Rattle.std.proofs.lemmas.Bool.Decides.{nat_tests}
use Rattle.network.specs.Codes.{all, is_digit, is_code_byte}
use Rattle.network.specs.Nets.{Link}
use Rattle.sheet.specs.Numbers.{is_number, value_of, leads_with_zero}
use Rattle.sheet.specs.Lines.{node, edge}
use Rattle.sheet.specs.Readers.{is_stop, field_of, behind_field, parsed, parsed_behind}
use Rattle.sheet.specs.Writing.{node_line, edge_line}
use Rattle.sheet.proofs.Digits.{numerals}
use Rattle.sheet.proofs.Lines.{N, tab_read}
use Rattle.sheet.proofs.Forms.{node_accepted, edge_accepted}

-- a field of bytes that are no stops ends where it should
abbrev plain : List ℕ → Bool
plain bs = all (λ b. not (is_stop b)) bs

field_plain : (f : List ℕ) (end : ℕ) (rest : List ℕ) → plain f ≡ true → is_stop end ≡ true → (field_of (f ++ end ∷ rest) ≡ f) × (behind_field (f ++ end ∷ rest) ≡ end ∷ rest)
field_plain [] end rest h e = (ap (λ t. cond t [] (end ∷ field_of rest)) e, ap (λ t. cond t (end ∷ rest) (behind_field rest)) e)
field_plain (b ∷ f) end rest h e =
    let p = and_parts (not (is_stop b)) (plain f) h in
    let again = field_plain f end rest p.1 e in
    let q : is_stop b ≡ false = grind (arith, p) in
    (ap (λ t. cond t [] (b ∷ field_of (f ++ end ∷ rest))) q ∙ ap (λ l. b ∷ l) again.0, ap (λ t. cond t (b ∷ (f ++ end ∷ rest)) (behind_field (f ++ end ∷ rest))) q ∙ again.1)

digits_plain : (ds : List ℕ) → all is_digit ds ≡ true → plain ds ≡ true
digits_plain [] h = refl
digits_plain (d ∷ ds) h = let again = digits_plain ds in grind (arith, nat_tests)

pub code_plain : (ds : List ℕ) → all is_code_byte ds ≡ true → plain ds ≡ true
code_plain [] h = refl
code_plain (d ∷ ds) h = let again = code_plain ds in grind (arith, nat_tests)

-- the digits of a number, up to ten, are a number and say it
module _ (n : ℕ) (small : n < 10 ^ 10) where
  fits : n < 2 ^ 64
  fits = omega arith

  decimal_digits : all is_digit (decimal n) ≡ true
  decimal_digits = digits_decimal numerals n fits

  no_zero : leads_with_zero (decimal n) ≡ false
  no_zero = ⊎_elim
      (λ e. let one = ap length (decimal_digit n (omega arith)) in grind (arith, nat_tests))
      (λ u. let high = first_decimal n (omega arith) fits in grind (arith, nat_tests))
      (cases_eq n 0)

  pub decimal_number : is_number (decimal n) ≡ true
  decimal_number =
      let some = decimal_nonempty n fits in
      let few = length-decimal-le 10 n (omega arith) small fits in
      and_from _ _ (le-leb 1 (length (decimal n)) some) (and_from _ _ (le-leb (length (decimal n)) 10 few) (and_from _ _ (ap not no_zero) decimal_digits))

  pub decimal_says : n ≡ value_of (decimal n)
  decimal_says = sym (digits_value-decimal numerals n fits)

  pub decimal_field : (end : ℕ) (rest : List ℕ) → is_stop end ≡ true → (field_of (decimal n ++ end ∷ rest) ≡ decimal n) × (behind_field (decimal n ++ end ∷ rest) ≡ end ∷ rest)
  decimal_field end rest e = field_plain (decimal n) end rest (digits_plain (decimal n) decimal_digits) e

-- a node's line
pub node_parsed : (p : ℕ) (rest : List ℕ) → p < 10 ^ 10 → parsed_behind [] (node_line p ++ rest) ≡ Some (parsed (node p) rest)
node_parsed p rest small =
    let line : decimal p ++ 10 ∷ [] ++ rest ≡ decimal p ++ 10 ∷ rest = append_assoc (decimal p) (10 ∷ []) rest in
    let r = decimal p ++ 10 ∷ rest in
    let f = decimal_field p small 10 rest refl in
    tab_read [] (node_line p ++ rest) (decimal p ++ 10 ∷ [] ++ rest) refl
    ∙ ap (λ l. parsed_behind (N ∷ []) l) line
    ∙ node_accepted r rest p (ap is_number f.0 ∙ decimal_number p small) (decimal_says p small ∙ ap value_of (sym f.0)) f.1

-- an edge's line: its numbers and its code are small enough
pub record Writable (e : Link) : Type 0 where
  pub first : e.first < 10 ^ 10
  pub second : e.second < 10 ^ 10
  pub cost : e.cost < 10 ^ 10
  pub code : all is_code_byte e.code ≡ true

pub edge_parsed : (e : Link) (rest : List ℕ) → Writable e → parsed_behind [] (edge_line e ++ rest) ≡ Some (parsed (edge e) rest)
edge_parsed e rest w =
    let d = e.code ++ 10 ∷ rest in
    let c = decimal e.cost ++ 9 ∷ d in
    let b = decimal e.second ++ 9 ∷ c in
    let a = decimal e.first ++ 9 ∷ b in
    let whole : edge_line e ++ rest ≡ 83 ∷ 9 ∷ a = simp append_assoc in
    let fa = decimal_field e.first w.first 9 b refl in
    let fb = decimal_field e.second w.second 9 c refl in
    let fc = decimal_field e.cost w.cost 9 d refl in
    let fd = field_plain e.code 10 rest (code_plain e.code w.code) refl in
    ap (parsed_behind []) whole
    ∙ tab_read [] (83 ∷ 9 ∷ a) a refl
    ∙ edge_accepted a b fa.1 c fb.1 d fc.1 rest e.first e.second e.cost e.code
    (ap is_number fa.0 ∙ decimal_number e.first w.first) (ap is_number fb.0 ∙ decimal_number e.second w.second) (ap is_number fc.0 ∙ decimal_number e.cost w.cost)
    (decimal_says e.first w.first ∙ ap value_of (sym fa.0)) (decimal_says e.second w.second ∙ ap value_of (sym fb.0)) (decimal_says e.cost w.cost ∙ ap value_of (sym fc.0))
    (sym fd.0) fd.1
