-- A line's record, field by field: what refuses it and what it enters. Assumes nothing.
use Rattle.std.proofs.Common.{◌≡◌, ℕ, true, false, List, [], ◌∷◌, length, get_or, Some, None, Ok, Err, Result, sym, ap, ◌∙◌}
use Rattle.std.specs.Option.{option_map}
use Rattle.std.specs.Result.{IsErrAnd}
use Rattle.std.proofs.lemmas.Result.{err_from_is_err_and}
use Rattle.refusal.specs.declared.Refusal.{Refusal}
use Rattle.refusal.specs.declared.Refusal.TheVariants.{LineForm}
use Rattle.network.specs.Nets.{link}
use Rattle.sheet.specs.Numbers.{is_number, value_of}
use Rattle.sheet.specs.Lines.{node, edge}
use Rattle.sheet.specs.Readers.{field_of, behind_field, closed_field, next_is, any_letter, parsed, parsed_behind, TakesRecord}
use Rattle.network.specs.declared.entry.Entry.{Entry}
use Rattle.sheet.proofs.Lines.{N, S, not_tabbed, not_ended, tab_read, line_read, never_read, unended, letter_is, no_letter, letter_alone, other_letter, node_no_prize, node_too_long, node_read, edge_no_first, edge_no_second, edge_no_cost, edge_too_short, edge_too_long, edge_read}

-- a refusal that `?` hands on
pub handed_on : (read : List (List ℕ)) (line : ℕ) (before after : List ℕ) (why : Refusal) (r : Result Entry Refusal) → IsErrAnd r (λ e. e ≡ why) → why ≡ LineForm line → parsed_behind read before ≡ None → TakesRecord read line before r after
handed_on read line before after why r is form none = let p = err_from_is_err_and r is in rw (p.1, p.2) (form, none)

pub letter_refused : (r : List ℕ) → closed_field any_letter 9 r ≡ false → parsed_behind [] r ≡ None
letter_refused r h = not_tabbed any_letter [] r h (λ more e. no_letter (field_of r) more e) (letter_alone (field_of r))

pub other_refused : (r : List ℕ) → (get_or (field_of r) 0 0 ≡ 78 → ⊥) → (get_or (field_of r) 0 0 ≡ 83 → ⊥) → parsed_behind [] r ≡ None
other_refused r u v = never_read [] r (λ more. other_letter (field_of r) more u v)

pub node_refused : (r : List ℕ) → closed_field is_number 10 r ≡ false → parsed_behind (N ∷ []) r ≡ None
node_refused r h = not_ended is_number (N ∷ []) r h (λ more e. node_no_prize (field_of r) more e) (λ next more. node_too_long (field_of r) next more)

pub node_accepted : (r rest : List ℕ) (v : ℕ) → is_number (field_of r) ≡ true → v ≡ value_of (field_of r) → behind_field r ≡ 10 ∷ rest → parsed_behind (N ∷ []) r ≡ Some (parsed (node v) rest)
node_accepted r rest v n is e = line_read (N ∷ []) r rest e ∙ ap (option_map (λ x. parsed x rest)) (node_read (field_of r) n) ∙ ap (λ p. Some (parsed (node p) rest)) (sym is)

-- an edge's line: r, s, t and u are the bytes from each of its four fields on
module _ (r : List ℕ) where
  pub first_refused : closed_field is_number 9 r ≡ false → parsed_behind (S ∷ []) r ≡ None
  first_refused h = not_tabbed is_number (S ∷ []) r h (λ more e. edge_no_first (field_of r) more e) (edge_too_short (field_of r) [] []).0

  module _ (s : List ℕ) (tab : behind_field r ≡ 9 ∷ s) where
    to_second : parsed_behind (S ∷ []) r ≡ parsed_behind (S ∷ field_of r ∷ []) s
    to_second = tab_read (S ∷ []) r s tab

    pub second_refused : closed_field is_number 9 s ≡ false → parsed_behind (S ∷ []) r ≡ None
    second_refused h = to_second ∙ not_tabbed is_number (S ∷ field_of r ∷ []) s h (λ more e. edge_no_second (field_of r) (field_of s) more e) (edge_too_short (field_of r) (field_of s) []).1

    module _ (t : List ℕ) (tab' : behind_field s ≡ 9 ∷ t) where
      to_cost : parsed_behind (S ∷ []) r ≡ parsed_behind (S ∷ field_of r ∷ field_of s ∷ []) t
      to_cost = to_second ∙ tab_read (S ∷ field_of r ∷ []) s t tab'

      pub cost_refused : closed_field is_number 9 t ≡ false → parsed_behind (S ∷ []) r ≡ None
      cost_refused h = to_cost ∙ not_tabbed is_number (S ∷ field_of r ∷ field_of s ∷ []) t h (λ more e. edge_no_cost (field_of r) (field_of s) (field_of t) more e) (edge_too_short (field_of r) (field_of s) (field_of t)).2

      module _ (u : List ℕ) (tab'' : behind_field t ≡ 9 ∷ u) where
        to_code : parsed_behind (S ∷ []) r ≡ parsed_behind (S ∷ field_of r ∷ field_of s ∷ field_of t ∷ []) u
        to_code = to_cost ∙ tab_read (S ∷ field_of r ∷ field_of s ∷ []) t u tab''

        pub code_refused : next_is 10 (behind_field u) ≡ false → parsed_behind (S ∷ []) r ≡ None
        code_refused h = to_code ∙ unended (S ∷ field_of r ∷ field_of s ∷ field_of t ∷ []) u h (λ next more. edge_too_long (field_of r) (field_of s) (field_of t) (field_of u) next more)

        pub edge_accepted : (rest : List ℕ) (a b c : ℕ) (d : List ℕ) → is_number (field_of r) ≡ true → is_number (field_of s) ≡ true → is_number (field_of t) ≡ true → a ≡ value_of (field_of r) → b ≡ value_of (field_of s) → c ≡ value_of (field_of t) → d ≡ field_of u → behind_field u ≡ 10 ∷ rest → parsed_behind (S ∷ []) r ≡ Some (parsed (edge (link a b c d)) rest)
        edge_accepted rest a b c d x y z p q w k e =
            to_code
            ∙ line_read (S ∷ field_of r ∷ field_of s ∷ field_of t ∷ []) u rest e
            ∙ ap (option_map (λ x. parsed x rest)) (edge_read (field_of r) (field_of s) (field_of t) (field_of u) x y z)
            ∙ λ i. Some (parsed (edge (link (sym p i) (sym q i) (sym w i) (sym k i))) rest)

-- behind its letter a line says what its record says
pub behind_letter : (r s after : List ℕ) (line c : ℕ) → behind_field r ≡ 9 ∷ s → length (field_of r) ≡ 1 → get_or (field_of r) 0 0 ≡ c → (res : Result Entry Refusal) → TakesRecord ((c ∷ []) ∷ []) line s res after → TakesRecord [] line r res after
behind_letter r s after line c tab one is res h = by_answer res (tab_read [] r s tab ∙ ap (λ f. parsed_behind (f ∷ []) s) (letter_is (field_of r) c one is)) h
  where
    by_answer : (res : Result Entry Refusal) → parsed_behind [] r ≡ parsed_behind ((c ∷ []) ∷ []) s → TakesRecord ((c ∷ []) ∷ []) line s res after → TakesRecord [] line r res after
    by_answer (Ok x) same h = same ∙ h
    by_answer (Err why) same h = (h.0, same ∙ h.1)
