-- Entering a sheet line by line. Assumes nothing.
use Rattle.std.proofs.Common.{◌≡◌, ℕ, zero, suc, ◌+◌, ◌<◌, ◌≤◌, Bool, true, false, cond, eqb, List, [], ◌∷◌, length, Some, None, Ok, Err, Option, Result, refl, ap, ◌∙◌, arith}
use Rattle.std.proofs.lemmas.Bool.{true≢false}
use Rattle.std.specs.Option.{option_map}
use Rattle.refusal.specs.declared.Refusal.{Refusal}
use Rattle.refusal.specs.declared.Refusal.TheVariants.{LineForm, LineEntry}
use Rattle.network.specs.Nets.{Net, link}
use Rattle.network.specs.Entries.{node_refusal, edge_refusal, answer_of}
use Rattle.network.specs.Lists.{given, enter_answer}
use Rattle.network.specs.declared.entry.Entry.{Entry as NetworkEntry}
use Rattle.network.specs.declared.entry.Entry.TheVariants.{Node, Edge}
use Rattle.sheet.specs.Lines.{Line, Entry, field_before, byte_before, first_line, entry_from}
use Rattle.sheet.specs.Sheets.{unless_line_refused, enter_record, enter_fields, then_enter, enter_line, enter_lines}
use Rattle.sheet.specs.Readers.{is_empty, entry_in, parsed, then_line, parsed_behind}

-- the bytes behind a line are fewer
abbrev pub Shorter : ℕ → Option Line → Type 0
Shorter n None = Unit {0}
Shorter n (Some l) = length l.rest < n

shorter_mapped : (n : ℕ) (q : Bool) (b : ℕ) (o : Option Line) → Shorter n o → Shorter (suc n) (option_map (cond q (field_before []) (byte_before b)) o)
shorter_mapped n q b None h = tt
shorter_mapped n true b (Some l) h = omega arith
shorter_mapped n false b (Some l) h = omega arith

shorter_at : (p : Bool) (q : Bool) (b : ℕ) (bs : List ℕ) → Shorter (length bs) (first_line bs) → Shorter (suc (length bs)) (cond p (Some record { fields = [] ∷ []; rest = bs }) (option_map (cond q (field_before []) (byte_before b)) (first_line bs)))
shorter_at true q b bs h = omega arith
shorter_at false q b bs h = shorter_mapped (length bs) q b (first_line bs) h

pub line_shorter : (bs : List ℕ) → Shorter (length bs) (first_line bs)
line_shorter [] = tt
line_shorter (b ∷ bs) = shorter_at (eqb b 10) (eqb b 9) b bs (line_shorter bs)

-- what a line of which the reader took the entry says

fields_say : (line : ℕ) (net : Net) (o : Option Entry) (rest rest' : List ℕ) (e : Entry) → option_map (λ x. parsed x rest) o ≡ Some (parsed e rest') → (enter_fields line net o ≡ enter_record line net e) × (rest ≡ rest')
fields_say line net None rest rest' e h = absurd (cc)
fields_say line net (Some x) rest rest' e h = let p : parsed x rest ≡ parsed e rest' = cc in (ap (λ y. enter_record line net y.entry) p, ap (λ y. y.rest) p)

line_says : (line : ℕ) (net : Net) (o : Option Line) (rest : List ℕ) (e : Entry) (next : Net → List ℕ → Result Net Refusal) → then_line [] o ≡ Some (parsed e rest) → enter_line line net o next ≡ then_enter (enter_record line net e) (λ n. next n rest)
line_says line net None rest e next h = absurd (cc)
line_says line net (Some l) rest e next h = let s = fields_say line net (entry_from l.fields) l.rest rest e h in λ i. then_enter (s.0 i) (λ n. next n (s.1 i))

line_refuses : (line : ℕ) (net : Net) (o : Option Line) (next : Net → List ℕ → Result Net Refusal) → then_line [] o ≡ None → enter_line line net o next ≡ Err (LineForm line)
line_refuses line net None next h = refl
line_refuses line net (Some l) next h = no_entry (entry_from l.fields) h
  where
    no_entry : (o : Option Entry) → option_map (λ x. parsed x l.rest) o ≡ None → then_enter (enter_fields line net o) (λ n. next n l.rest) ≡ Err (LineForm line)
    no_entry None h = refl
    no_entry (Some x) h = absurd (cc)

behind_shorter : (o : Option Line) (n : ℕ) (rest : List ℕ) (e : Entry) → Shorter n o → then_line [] o ≡ Some (parsed e rest) → length rest < n
behind_shorter None n rest e s h = absurd (cc)
behind_shorter (Some l) n rest e s h = at_entry (entry_from l.fields) h
  where
    at_entry : (o : Option Entry) → option_map (λ x. parsed x l.rest) o ≡ Some (parsed e rest) → length rest < n
    at_entry None h = absurd (cc)
    at_entry (Some x) h = let p : parsed x l.rest ≡ parsed e rest = cc in omega (arith, ap (λ y. length y.rest) p)

pub parsed_shorter : (bs rest : List ℕ) (e : Entry) → parsed_behind [] bs ≡ Some (parsed e rest) → length rest < length bs
parsed_shorter bs rest e h = behind_shorter (first_line bs) (length bs) rest e (line_shorter bs) h

-- going on in another way that comes to the same
next_same : (line : ℕ) (net : Net) (n : ℕ) (o : Option Line) (next next' : Net → List ℕ → Result Net Refusal) → Shorter n o → ((m : Net) (r : List ℕ) → length r < n → next m r ≡ next' m r) → enter_line line net o next ≡ enter_line line net o next'
next_same line net n None next next' s h = refl
next_same line net n (Some l) next next' s h = at_result (enter_fields line net (entry_from l.fields))
  where
    at_result : (r : Result Net Refusal) → then_enter r (λ m. next m l.rest) ≡ then_enter r (λ m. next' m l.rest)
    at_result (Ok m) = h m l.rest s
    at_result (Err why) = refl

-- how often it may go on does not matter, where that is enough
any_most : (f g line : ℕ) (net : Net) (bs : List ℕ) → length bs ≤ f → length bs ≤ g → enter_lines f line net bs ≡ enter_lines g line net bs
any_most zero zero line net bs a b = refl
any_most zero (suc g) line net [] a b = refl
any_most zero (suc g) line net (c ∷ cs) a b = absurd (omega arith)
any_most (suc f) zero line net [] a b = refl
any_most (suc f) zero line net (c ∷ cs) a b = absurd (omega arith)
any_most (suc f) (suc g) line net [] a b = refl
any_most (suc f) (suc g) line net (c ∷ cs) a b = next_same line net (length (c ∷ cs)) (first_line (c ∷ cs)) (enter_lines f (line + 1)) (enter_lines g (line + 1)) (line_shorter (c ∷ cs)) (λ m r l. any_most f g (line + 1) m r (omega arith) (omega arith))

-- one line more, entered or refused
pub sheet_more : (line : ℕ) (net net' : Net) (bs rest : List ℕ) (e : Entry) → parsed_behind [] bs ≡ Some (parsed e rest) → enter_record line net e ≡ Ok net' → enter_lines (length bs) line net bs ≡ enter_lines (length rest) (line + 1) net' rest
sheet_more line net net' [] rest e h k = absurd (cc)
sheet_more line net net' (c ∷ cs) rest e h k =
    let l = parsed_shorter (c ∷ cs) rest e h in
    line_says line net (first_line (c ∷ cs)) rest e (enter_lines (length cs) (line + 1)) h
    ∙ ap (λ r. then_enter r (λ n. enter_lines (length cs) (line + 1) n rest)) k
    ∙ any_most (length cs) (length rest) (line + 1) net' rest (omega arith) (omega arith)

pub sheet_entry_refused : (line : ℕ) (net : Net) (bs rest : List ℕ) (e : Entry) (why : Refusal) → parsed_behind [] bs ≡ Some (parsed e rest) → enter_record line net e ≡ Err why → enter_lines (length bs) line net bs ≡ Err why
sheet_entry_refused line net [] rest e why h k = absurd (cc)
sheet_entry_refused line net (c ∷ cs) rest e why h k =
    line_says line net (first_line (c ∷ cs)) rest e (enter_lines (length cs) (line + 1)) h ∙ ap (λ r. then_enter r (λ n. enter_lines (length cs) (line + 1) n rest)) k

pub sheet_form_refused : (line : ℕ) (net : Net) (bs : List ℕ) → is_empty bs ≡ false → parsed_behind [] bs ≡ None → enter_lines (length bs) line net bs ≡ Err (LineForm line)
sheet_form_refused line net [] some h = absurd (true≢false some)
sheet_form_refused line net (c ∷ cs) some h = line_refuses line net (first_line (c ∷ cs)) (enter_lines (length cs) (line + 1)) h

by_refusal : (after : Net) (line number : ℕ) (why : Refusal) (o : Option Refusal) → answer_of o number ≡ Err why → unless_line_refused line o after ≡ Err (LineEntry line)
by_refusal after line number why None h = absurd (cc)
by_refusal after line number why (Some w) h = refl

-- a refusal of the network is the line's
pub entry_refused : (line : ℕ) (net : Net) (new : NetworkEntry) (why : Refusal) → enter_answer net (given new) ≡ Err why → enter_record line net (entry_in new) ≡ Err (LineEntry line)
entry_refused line net (Node prize) why h = by_refusal _ line (length net.prizes) why (node_refusal net prize) h
entry_refused line net (Edge first second cost code) why h = by_refusal _ line (length net.edges) why (edge_refusal net (link first second cost code.now)) h
