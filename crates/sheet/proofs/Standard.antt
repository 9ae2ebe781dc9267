-- A line that is read is as it would be written. Assumes nothing.
use Rattle.std.proofs.Common.{◌≡◌, ℕ, ◌≤◌, Bool, true, false, cond, ◌&&◌, eqb, List, [], ◌∷◌, ◌++◌, length, get_or, Some, None, decimal, Option, sym, refl, ap, ◌∙◌, subst, append_assoc, arith}
use Rattle.std.specs.Option.{option_map}
use Rattle.std.proofs.lemmas.Fmt.{decimal-digits_value}
use Rattle.std.proofs.lemmas.Bool.{eqb-true, and_parts}
use Rattle.std.proofs.lemmas.Bool.Decides.{nat_tests}
use Rattle.network.specs.Codes.{all, is_digit}
use Rattle.network.specs.Nets.{link}
use Rattle.sheet.specs.Numbers.{is_number, value_of}
use Rattle.sheet.specs.Lines.{Line, Entry, node, edge, field_before, byte_before, byte_into, first_line, entry_from, is_letter}
use Rattle.sheet.specs.Readers.{parsed, then_line, parsed_behind}
use Rattle.sheet.specs.Writing.{node_line, edge_line}
use Rattle.sheet.proofs.Digits.{numerals, value_small}
use Rattle.sheet.proofs.Lines.{letter_is}

-- a number is as it would be written
module _ (ds : List ℕ) (h : is_number ds ≡ true) where
  number_parts : (all is_digit ds ≡ true) × (1 ≤ length ds) × (length ds ≤ 10) × (get_or ds 0 0 ≡ 48 → length ds ≡ 1)
  number_parts = (grind (arith, nat_tests), grind (arith, nat_tests), grind (arith, nat_tests), λ z. grind (arith, nat_tests))

  pub number_standard : decimal (value_of ds) ≡ ds
  number_standard =
      let p = number_parts in
      let small = value_small ds p.0 p.2 in
      decimal-digits_value numerals ds p.0 p.1 p.3 (omega arith)

-- fields with a tab before each
abbrev behind_tabs : List (List ℕ) → List ℕ
behind_tabs [] = []
behind_tabs (f ∷ fs) = 9 ∷ (f ++ behind_tabs fs)

-- the bytes of a line are its fields, parted by tabs, and a line feed
record Split (bs : List ℕ) (l : Line) : Type 0 where
  head : List ℕ
  tail : List (List ℕ)
  fields : l.fields ≡ head ∷ tail
  text : bs ≡ (head ++ behind_tabs tail) ++ 10 ∷ l.rest

abbrev SplitBy : List ℕ → Option Line → Type 0
SplitBy bs None = Unit {0}
SplitBy bs (Some l) = Split bs l

split_tab : (bs : List ℕ) (o : Option Line) → SplitBy bs o → SplitBy (9 ∷ bs) (option_map (field_before []) o)
split_tab bs None s = tt
split_tab bs (Some l) s = record { head = []; tail = l.fields; fields = refl; text = ap (λ t. 9 ∷ t) s.text ∙ ap (λ fs. behind_tabs fs ++ 10 ∷ l.rest) (sym s.fields) }

split_byte : (b : ℕ) (bs : List ℕ) (o : Option Line) → SplitBy bs o → SplitBy (b ∷ bs) (option_map (byte_before b) o)
split_byte b bs None s = tt
split_byte b bs (Some l) s = record { head = b ∷ s.head; tail = s.tail; fields = ap (byte_into b) s.fields; text = ap (λ t. b ∷ t) s.text }

split_at : (p q : Bool) (b : ℕ) (bs : List ℕ) → eqb b 10 ≡ p → eqb b 9 ≡ q → SplitBy bs (first_line bs) → SplitBy (b ∷ bs) (cond p (Some record { fields = [] ∷ []; rest = bs }) (option_map (cond q (field_before []) (byte_before b)) (first_line bs)))
split_at true q b bs e f s = record { head = []; tail = []; fields = refl; text = ap (λ c. c ∷ bs) (eqb-true b 10 e) }
split_at false true b bs e f s = subst (λ c. SplitBy (c ∷ bs) (option_map (field_before []) (first_line bs))) (sym (eqb-true b 9 f)) (split_tab bs (first_line bs) s)
split_at false false b bs e f s = split_byte b bs (first_line bs) s

line_split : (bs : List ℕ) → SplitBy bs (first_line bs)
line_split [] = tt
line_split (b ∷ bs) = split_at (eqb b 10) (eqb b 9) b bs refl refl (line_split bs)

abbrev pub entry_line : Entry → List ℕ
entry_line (node p) = node_line p
entry_line (edge e) = edge_line e

chosen : (t : Bool) (x e : Entry) → cond t (Some x) None ≡ Some e → (t ≡ true) × (e ≡ x)
chosen true x e h = (refl, cc)
chosen false x e h = absurd (cc)

two_fields : (f g : List ℕ) (e : Entry) → entry_from (f ∷ g ∷ []) ≡ Some e → (is_letter 78 f ≡ true) × (is_number g ≡ true) × (e ≡ node (value_of g))
two_fields f g e h =
    let c = chosen (is_letter 78 f && is_number g) (node (value_of g)) e h in
    let p = and_parts (is_letter 78 f) (is_number g) c.0 in
    (p.0, p.1, c.1)

five_fields : (f a b c d : List ℕ) (e : Entry) → entry_from (f ∷ a ∷ b ∷ c ∷ d ∷ []) ≡ Some e → (is_letter 83 f ≡ true) × (is_number a ≡ true) × (is_number b ≡ true) × (is_number c ≡ true) × (e ≡ edge (link (value_of a) (value_of b) (value_of c) d))
five_fields f a b c d e h =
    let k = chosen (is_letter 83 f && (is_number a && (is_number b && is_number c))) (edge (link (value_of a) (value_of b) (value_of c) d)) e h in
    let p = and_parts (is_letter 83 f) (is_number a && (is_number b && is_number c)) k.0 in
    let q = and_parts (is_number a) (is_number b && is_number c) p.1 in
    let r = and_parts (is_number b) (is_number c) q.1 in
    (p.0, q.0, r.0, r.1, k.1)

is_that : (c : ℕ) (f : List ℕ) → is_letter c f ≡ true → f ≡ c ∷ []
is_that c f h = let p = and_parts (eqb (length f) 1) (eqb (get_or f 0 0) c) h in letter_is f c (eqb-true (length f) 1 p.0) (eqb-true (get_or f 0 0) c p.1)

many_fields : (f a b c d g : List ℕ) (more : List (List ℕ)) → entry_from (f ∷ a ∷ b ∷ c ∷ d ∷ g ∷ more) ≡ None
many_fields f a b c d g more = grind (arith, nat_tests)

-- the fields of an entry, put together, are its line
fields_standard : (f : List ℕ) (fs : List (List ℕ)) (rest : List ℕ) (e : Entry) → entry_from (f ∷ fs) ≡ Some e → (f ++ behind_tabs fs) ++ 10 ∷ rest ≡ entry_line e ++ rest
fields_standard f [] rest e h = absurd (cc)
fields_standard f (g ∷ []) rest e h =
    let t = two_fields f g e h in
    (λ i. (is_that 78 f t.0 i ++ behind_tabs (sym (number_standard g t.1) i ∷ [])) ++ 10 ∷ rest)
    ∙ (simp append_assoc)
    ∙ ap (λ x. entry_line x ++ rest) (sym t.2)
fields_standard f (g ∷ h ∷ []) rest e k = absurd (cc)
fields_standard f (g ∷ h ∷ i ∷ []) rest e k = absurd (cc)
fields_standard f (a ∷ b ∷ c ∷ d ∷ []) rest e k =
    let t = five_fields f a b c d e k in
    (λ i. (is_that 83 f t.0 i ++ behind_tabs (sym (number_standard a t.1) i ∷ sym (number_standard b t.2) i ∷ sym (number_standard c t.3) i ∷ d ∷ [])) ++ 10 ∷ rest)
    ∙ (simp append_assoc)
    ∙ ap (λ x. entry_line x ++ rest) (sym t.4)
fields_standard f (a ∷ b ∷ c ∷ d ∷ g ∷ more) rest e k = absurd (cc (many_fields f a b c d g more))

line_standard : (bs : List ℕ) (o : Option Line) (rest : List ℕ) (e : Entry) → SplitBy bs o → then_line [] o ≡ Some (parsed e rest) → bs ≡ entry_line e ++ rest
line_standard bs None rest e s h = absurd (cc)
line_standard bs (Some l) rest e s h = s.text ∙ at_entry (entry_from l.fields) refl h
  where
    at_entry : (o : Option Entry) → entry_from l.fields ≡ o → option_map (λ x. parsed x l.rest) o ≡ Some (parsed e rest) → (s.head ++ behind_tabs s.tail) ++ 10 ∷ l.rest ≡ entry_line e ++ rest
    at_entry None is h = absurd (cc)
    at_entry (Some x) is h =
        let p : parsed x l.rest ≡ parsed e rest = cc in
        fields_standard s.head s.tail l.rest x (ap entry_from (sym s.fields) ∙ is) ∙ λ i. entry_line (p i).entry ++ (p i).rest

-- what a line was read from is what would be written of it
pub read_standard : (bs rest : List ℕ) (e : Entry) → parsed_behind [] bs ≡ Some (parsed e rest) → bs ≡ entry_line e ++ rest
read_standard bs rest e h = line_standard bs (first_line bs) rest e (line_split bs) h
