-- The fields of a line, one more at a time. Assumes nothing.
use Rattle.std.proofs.Common.{◌≡◌, ℕ, Bool, true, false, cond, ◌||◌, eqb, ◌⊎◌, List, [], ◌∷◌, ◌++◌, length, get_or, Some, None, Option, sym, refl, ap, ◌∙◌, inl, inr, ⊎_elim, append_assoc, arith}
use Rattle.std.proofs.lemmas.Bool.Decides.{nat_tests}
use Rattle.std.proofs.lemmas.Bool.{cases_eq, and_cases, true≢false}
use Rattle.std.specs.Option.{option_map}
use Rattle.network.specs.Nets.{link}
use Rattle.sheet.specs.Numbers.{is_number, value_of}
use Rattle.sheet.specs.Lines.{Line, field_before, byte_before, first_line, entry_from, node, edge}
use Rattle.sheet.specs.Readers.{is_stop, field_of, behind_field, next_is, closed_field, any_letter, parsed, then_line, parsed_behind}

-- a field, and the bytes from its end on
abbrev joined : List ℕ → List ℕ → Option Line
joined f [] = None
joined f (b ∷ bs) = cond (eqb b 10) (Some record { fields = f ∷ []; rest = bs }) (option_map (field_before f) (first_line bs))

byte_field : (b : ℕ) (f : List ℕ) (o : Option Line) → option_map (byte_before b) (option_map (field_before f) o) ≡ option_map (field_before (b ∷ f)) o
byte_field b f None = refl
byte_field b f (Some l) = refl

at_cond : (h : Line → Line) (p : Bool) (x y : Option Line) → option_map h (cond p x y) ≡ cond p (option_map h x) (option_map h y)
at_cond h true x y = refl
at_cond h false x y = refl

byte_joined : (b : ℕ) (f r : List ℕ) → option_map (byte_before b) (joined f r) ≡ joined (b ∷ f) r
byte_joined b f [] = refl
byte_joined b f (c ∷ cs) = at_cond (byte_before b) (eqb c 10) _ _ ∙ ap (cond (eqb c 10) (Some record { fields = (b ∷ f) ∷ []; rest = cs })) (byte_field b f (first_line cs))

-- whether the byte b in front is a line feed (p) or a tab (q)
splits_at : (p q : Bool) (b : ℕ) (bs f r : List ℕ) → eqb b 10 ≡ p → first_line bs ≡ joined f r → cond p (Some record { fields = [] ∷ []; rest = bs }) (option_map (cond q (field_before []) (byte_before b)) (first_line bs)) ≡ joined (cond (q || p) [] (b ∷ f)) (cond (q || p) (b ∷ bs) r)
splits_at true true b bs f r e h = sym (ap (λ t. cond t (Some record { fields = [] ∷ []; rest = bs }) (option_map (field_before []) (first_line bs))) e)
splits_at true false b bs f r e h = sym (ap (λ t. cond t (Some record { fields = [] ∷ []; rest = bs }) (option_map (field_before []) (first_line bs))) e)
splits_at false true b bs f r e h = sym (ap (λ t. cond t (Some record { fields = [] ∷ []; rest = bs }) (option_map (field_before []) (first_line bs))) e)
splits_at false false b bs f r e h = ap (option_map (byte_before b)) h ∙ byte_joined b f r

-- a line is its first field, and what its end says
line_splits : (r : List ℕ) → first_line r ≡ joined (field_of r) (behind_field r)
line_splits [] = refl
line_splits (b ∷ bs) = splits_at (eqb b 10) (eqb b 9) b bs (field_of bs) (behind_field bs) refl (line_splits bs)

then_field : (read : List (List ℕ)) (f : List ℕ) (o : Option Line) → then_line read (option_map (field_before f) o) ≡ then_line (read ++ f ∷ []) o
then_field read f None = refl
then_field read f (Some l) = ap (λ fs. option_map (λ e. parsed e l.rest) (entry_from fs)) (sym (append_assoc read (f ∷ []) l.fields))

-- a tab closes the field: it is one of the fields read
pub tab_read : (read : List (List ℕ)) (r rest : List ℕ) → behind_field r ≡ 9 ∷ rest → parsed_behind read r ≡ parsed_behind (read ++ field_of r ∷ []) rest
tab_read read r rest e = ap (then_line read) (line_splits r ∙ ap (joined (field_of r)) e) ∙ then_field read (field_of r) (first_line rest)

-- a line feed closes the field: the line is read
pub line_read : (read : List (List ℕ)) (r rest : List ℕ) → behind_field r ≡ 10 ∷ rest → parsed_behind read r ≡ option_map (λ e. parsed e rest) (entry_from (read ++ field_of r ∷ []))
line_read read r rest e = ap (then_line read) (line_splits r ∙ ap (joined (field_of r)) e)

-- the sheet ends in the field: no line feed
never_ends : (read : List (List ℕ)) (r : List ℕ) → behind_field r ≡ [] → parsed_behind read r ≡ None
never_ends read r e = ap (then_line read) (line_splits r ∙ ap (joined (field_of r)) e)

-- what ends a field
data Ends (r : List ℕ) : Type 0 where
  with_sheet : behind_field r ≡ [] → Ends r
  at_tab : (rest : List ℕ) → behind_field r ≡ 9 ∷ rest → Ends r
  at_feed : (rest : List ℕ) → behind_field r ≡ 10 ∷ rest → Ends r

ends_later : (b : ℕ) (bs : List ℕ) → is_stop b ≡ false → Ends bs → Ends (b ∷ bs)
ends_later b bs q (with_sheet e) = with_sheet (ap (λ t. cond t (b ∷ bs) (behind_field bs)) q ∙ e)
ends_later b bs q (at_tab rest e) = at_tab rest (ap (λ t. cond t (b ∷ bs) (behind_field bs)) q ∙ e)
ends_later b bs q (at_feed rest e) = at_feed rest (ap (λ t. cond t (b ∷ bs) (behind_field bs)) q ∙ e)

ends_by : (b : ℕ) (bs : List ℕ) → (b ≡ 9) ⊎ ((b ≡ 10) ⊎ (is_stop b ≡ false)) → Ends bs → Ends (b ∷ bs)
ends_by b bs (inl e) h = let q : is_stop b ≡ true = grind (arith, nat_tests) in at_tab bs (ap (λ t. cond t (b ∷ bs) (behind_field bs)) q ∙ ap (λ c. c ∷ bs) e)
ends_by b bs (inr (inl e)) h = let q : is_stop b ≡ true = grind (arith, nat_tests) in at_feed bs (ap (λ t. cond t (b ∷ bs) (behind_field bs)) q ∙ ap (λ c. c ∷ bs) e)
ends_by b bs (inr (inr q)) h = ends_later b bs q h

which_stop : (b : ℕ) → (b ≡ 9) ⊎ ((b ≡ 10) ⊎ (is_stop b ≡ false))
which_stop b = ⊎_elim inl (λ u. ⊎_elim (λ e. inr (inl e)) (λ v. let q : is_stop b ≡ false = grind (arith, nat_tests) in inr (inr q)) (cases_eq b 10)) (cases_eq b 9)

ends : (r : List ℕ) → Ends r
ends [] = with_sheet refl
ends (b ∷ bs) = ends_by b bs (which_stop b) (ends bs)

-- fields that have no form, whatever comes behind them
later_never : (read : List (List ℕ)) (f : List ℕ) (o : Option Line) → ((more : List (List ℕ)) → entry_from (read ++ f ∷ more) ≡ None) → then_line read (option_map (field_before f) o) ≡ None
later_never read f None h = refl
later_never read f (Some l) h = ap (option_map (λ e. parsed e l.rest)) (h l.fields)

never_by : (read : List (List ℕ)) (r : List ℕ) → Ends r → ((more : List (List ℕ)) → entry_from (read ++ field_of r ∷ more) ≡ None) → parsed_behind read r ≡ None
never_by read r (with_sheet e) h = never_ends read r e
never_by read r (at_tab rest e) h = ap (then_line read) (line_splits r ∙ ap (joined (field_of r)) e) ∙ later_never read (field_of r) (first_line rest) h
never_by read r (at_feed rest e) h = line_read read r rest e ∙ ap (option_map (λ e. parsed e rest)) (h [])

pub never_read : (read : List (List ℕ)) (r : List ℕ) → ((more : List (List ℕ)) → entry_from (read ++ field_of r ∷ more) ≡ None) → parsed_behind read r ≡ None
never_read read r = never_by read r (ends r)

both : {P : Type 0} → (◌≡◌ {A = Bool} true false) → P
both e = absurd (true≢false e)

-- a field that no tab closes
untabbed : (read : List (List ℕ)) (r : List ℕ) → Ends r → next_is 9 (behind_field r) ≡ false → entry_from (read ++ field_of r ∷ []) ≡ None → parsed_behind read r ≡ None
untabbed read r (with_sheet e) n h = never_ends read r e
untabbed read r (at_tab rest e) n h = both (sym (ap (next_is 9) e) ∙ n)
untabbed read r (at_feed rest e) n h = line_read read r rest e ∙ ap (option_map (λ e. parsed e rest)) h

-- a field that no line feed closes
unended_by : (read : List (List ℕ)) (r : List ℕ) → Ends r → next_is 10 (behind_field r) ≡ false → ((next : List ℕ) (more : List (List ℕ)) → entry_from (read ++ field_of r ∷ next ∷ more) ≡ None) → parsed_behind read r ≡ None
unended_by read r (with_sheet e) n h = never_ends read r e
unended_by read r (at_tab rest e) n h = tab_read read r rest e ∙ never_read (read ++ field_of r ∷ []) rest (λ more. ap entry_from (append_assoc read (field_of r ∷ []) (field_of rest ∷ more)) ∙ h (field_of rest) more)
unended_by read r (at_feed rest e) n h = both (sym (ap (next_is 10) e) ∙ n)

pub unended : (read : List (List ℕ)) (r : List ℕ) → next_is 10 (behind_field r) ≡ false → ((next : List ℕ) (more : List (List ℕ)) → entry_from (read ++ field_of r ∷ next ∷ more) ≡ None) → parsed_behind read r ≡ None
unended read r = unended_by read r (ends r)

-- a field that is not of its kind, or that its byte does not close, in a line where that leaves no form
pub not_tabbed : (kind : List ℕ → Bool) (read : List (List ℕ)) (r : List ℕ) → closed_field kind 9 r ≡ false → ((more : List (List ℕ)) → kind (field_of r) ≡ false → entry_from (read ++ field_of r ∷ more) ≡ None) → entry_from (read ++ field_of r ∷ []) ≡ None → parsed_behind read r ≡ None
not_tabbed kind read r c h g = ⊎_elim (λ k. never_read read r (λ more. h more k)) (λ n. untabbed read r (ends r) n g) (and_cases _ _ c)

pub not_ended : (kind : List ℕ → Bool) (read : List (List ℕ)) (r : List ℕ) → closed_field kind 10 r ≡ false → ((more : List (List ℕ)) → kind (field_of r) ≡ false → entry_from (read ++ field_of r ∷ more) ≡ None) → ((next : List ℕ) (more : List (List ℕ)) → entry_from (read ++ field_of r ∷ next ∷ more) ≡ None) → parsed_behind read r ≡ None
not_ended kind read r c h g = ⊎_elim (λ k. never_read read r (λ more. h more k)) (λ n. unended read r n g) (and_cases _ _ c)

-- the forms
abbrev pub N : List ℕ
N = 78 ∷ []

abbrev pub S : List ℕ
S = 83 ∷ []

pub letter_is : (f : List ℕ) (c : ℕ) → length f ≡ 1 → get_or f 0 0 ≡ c → f ≡ c ∷ []
letter_is [] c l e = absurd (omega arith)
letter_is (b ∷ []) c l e = ap (λ x. x ∷ []) e
letter_is (b ∷ d ∷ bs) c l e = absurd (omega arith)

pub no_letter : (f : List ℕ) (more : List (List ℕ)) → any_letter f ≡ false → entry_from (f ∷ more) ≡ None
no_letter f more e = grind (arith, nat_tests)

pub letter_alone : (f : List ℕ) → entry_from (f ∷ []) ≡ None
letter_alone f = grind (arith, nat_tests)

pub other_letter : (f : List ℕ) (more : List (List ℕ)) → (get_or f 0 0 ≡ 78 → ⊥) → (get_or f 0 0 ≡ 83 → ⊥) → entry_from (f ∷ more) ≡ None
other_letter f more u v = grind (arith, nat_tests)

pub node_no_prize : (f : List ℕ) (more : List (List ℕ)) → is_number f ≡ false → entry_from (N ∷ f ∷ more) ≡ None
node_no_prize f more e = grind (arith, nat_tests)

pub node_too_long : (f next : List ℕ) (more : List (List ℕ)) → entry_from (N ∷ f ∷ next ∷ more) ≡ None
node_too_long f next more = grind (arith, nat_tests)

pub node_read : (f : List ℕ) → is_number f ≡ true → entry_from (N ∷ f ∷ []) ≡ Some (node (value_of f))
node_read f e = grind (arith, nat_tests)

pub edge_no_first : (a : List ℕ) (more : List (List ℕ)) → is_number a ≡ false → entry_from (S ∷ a ∷ more) ≡ None
edge_no_first a more e = grind (arith, nat_tests)

pub edge_no_second : (a b : List ℕ) (more : List (List ℕ)) → is_number b ≡ false → entry_from (S ∷ a ∷ b ∷ more) ≡ None
edge_no_second a b more e = grind (arith, nat_tests)

pub edge_no_cost : (a b c : List ℕ) (more : List (List ℕ)) → is_number c ≡ false → entry_from (S ∷ a ∷ b ∷ c ∷ more) ≡ None
edge_no_cost a b c more e = grind (arith, nat_tests)

pub edge_too_short : (a b c : List ℕ) → (entry_from (S ∷ a ∷ []) ≡ None) × (entry_from (S ∷ a ∷ b ∷ []) ≡ None) × (entry_from (S ∷ a ∷ b ∷ c ∷ []) ≡ None)
edge_too_short a b c = (grind (arith, nat_tests), grind (arith, nat_tests), grind (arith, nat_tests))

pub edge_too_long : (a b c d next : List ℕ) (more : List (List ℕ)) → entry_from (S ∷ a ∷ b ∷ c ∷ d ∷ next ∷ more) ≡ None
edge_too_long a b c d next more = grind (arith, nat_tests)

pub edge_read : (a b c d : List ℕ) → is_number a ≡ true → is_number b ≡ true → is_number c ≡ true → entry_from (S ∷ a ∷ b ∷ c ∷ d ∷ []) ≡ Some (edge (link (value_of a) (value_of b) (value_of c) d))
edge_read a b c d p q r = grind (arith, nat_tests)
