-- Writing and reading back. Assumes nothing.
use Rattle.std.proofs.Common.{◌≡◌, ℕ, zero, suc, ◌+◌, ◌^◌, ◌<◌, ◌≤◌, true, List, [], ◌∷◌, ◌++◌, map, length, Some, None, Ok, Option, Result, sym, refl, ap, ◌∙◌, subst, append_assoc, append-nil, arith, length-append}
use Rattle.std.specs.Option.{option_map, option_to_list}
use Rattle.std.specs.List.{flat_map, AllByRecursion}
use Rattle.std.proofs.lemmas.Bool.{and_parts, leb-true, true≢false}
use Rattle.std.proofs.lemmas.Bool.Decides.{nat_tests}
use Rattle.std.proofs.lemmas.Grind.{flat_map-append}
use Rattle.std.proofs.lemmas.List.Folds.{flat_map-map}
use Rattle.refusal.specs.declared.Refusal.{Refusal}
use Rattle.network.specs.Codes.{all}
use Rattle.network.specs.Nets.{Net, Link, empty_net, valid, valid_prize, valid_link}
use Rattle.network.specs.Entries.{node_refusal, edge_refusal, with_node, with_edge}
use Rattle.network.proofs.Entering.{valid_parts, node_keeps_valid, edge_keeps_valid}
use Rattle.sheet.specs.Lines.{Line, Entry, node, edge, first_line, entry_from}
use Rattle.sheet.specs.Sheets.{entry_refusal, with_entry, unless_line_refused, enter_fields, then_enter, enter_line, enter_lines, read_sheet}
use Rattle.sheet.specs.Readers.{parsed, then_line, parsed_behind}
use Rattle.sheet.specs.Writing.{node_line, edge_line, sheet_of}
use Rattle.sheet.specs.Rounds.{line_entries, entries_within, entries_of, is_edge, nodes_first, ReadAfterWrite, WriteAfterRead}
use Rattle.sheet.proofs.Entering.{Shorter, line_shorter, parsed_shorter, sheet_more}
use Rattle.sheet.proofs.Written.{node_parsed, edge_parsed, Writable}
use Rattle.sheet.proofs.Standard.{entry_line, read_standard}

-- a network with some entries more
abbrev entered : Net → List Entry → Net
entered net [] = net
entered net (e ∷ es) = entered (with_entry net e) es

abbrev prizes_in : List Entry → List ℕ
prizes_in [] = []
prizes_in (node p ∷ es) = p ∷ prizes_in es
prizes_in (edge e ∷ es) = prizes_in es

abbrev links_in : List Entry → List Link
links_in [] = []
links_in (node p ∷ es) = links_in es
links_in (edge e ∷ es) = e ∷ links_in es

abbrev with_lists : Net → List ℕ → List Link → Net
with_lists net ps ls = record { prizes = net.prizes ++ ps; edges = net.edges ++ ls }

entered_is : (net : Net) (es : List Entry) → entered net es ≡ with_lists net (prizes_in es) (links_in es)
entered_is net [] = λ i. record { prizes = sym (append-nil net.prizes) i; edges = sym (append-nil net.edges) i }
entered_is net (node p ∷ es) = entered_is (with_node net p) es ∙ λ i. record { prizes = append_assoc net.prizes (p ∷ []) (prizes_in es) i; edges = net.edges ++ links_in es }
entered_is net (edge e ∷ es) = entered_is (with_edge net e) es ∙ λ i. record { prizes = net.prizes ++ prizes_in es; edges = append_assoc net.edges (e ∷ []) (links_in es) i }

entry_keeps_valid : (net : Net) (e : Entry) → valid net ≡ true → entry_refusal net e ≡ None → valid (with_entry net e) ≡ true
entry_keeps_valid net (node p) v h = node_keeps_valid net p v h
entry_keeps_valid net (edge e) v h = edge_keeps_valid net e v h

-- an accepted sheet is the lines of its entries, and these make its network, which is valid
record Accepted (f : ℕ) (net : Net) (bs : List ℕ) (after : Net) : Type 0 where
  lines : bs ≡ flat_map entry_line (entries_within f bs)
  made : after ≡ entered net (entries_within f bs)
  sound : valid net ≡ true → valid after ≡ true

accepted_line : (f line : ℕ) (net after : Net) (c : ℕ) (cs : List ℕ) (l : Line) (e : Entry) → first_line (c ∷ cs) ≡ Some l → entry_from l.fields ≡ Some e → entry_refusal net e ≡ None → Accepted f (with_entry net e) l.rest after → Accepted (suc f) net (c ∷ cs) after
accepted_line f line net after c cs l e il ie none a =
    let is : entries_within (suc f) (c ∷ cs) ≡ e ∷ entries_within f l.rest = ap (λ o. line_entries o (entries_within f)) il ∙ ap (λ o. option_to_list o ++ entries_within f l.rest) ie in
    let read : parsed_behind [] (c ∷ cs) ≡ Some (parsed e l.rest) = ap (then_line []) il ∙ ap (option_map (λ x. parsed x l.rest)) ie in
    record {
      lines = read_standard (c ∷ cs) l.rest e read ∙ ap (λ r. entry_line e ++ r) a.lines ∙ ap (flat_map entry_line) (sym is);
      made = a.made ∙ ap (entered net) (sym is);
      sound = λ v. a.sound (entry_keeps_valid net e v none);
    }

module _ (f line : ℕ) (net after : Net) (c : ℕ) (cs : List ℕ) (again : (net : Net) (bs : List ℕ) → length bs ≤ f → enter_lines f (line + 1) net bs ≡ Ok after → Accepted f net bs after) (fits : length (c ∷ cs) ≤ suc f) where
  by_refusal : (l : Line) (e : Entry) (r : Option Refusal) → first_line (c ∷ cs) ≡ Some l → entry_from l.fields ≡ Some e → entry_refusal net e ≡ r → length l.rest ≤ f → then_enter (unless_line_refused line r (with_entry net e)) (λ n. enter_lines f (line + 1) n l.rest) ≡ Ok after → Accepted (suc f) net (c ∷ cs) after
  by_refusal l e None il ie none short h = accepted_line f line net after c cs l e il ie none (again (with_entry net e) l.rest short h)
  by_refusal l e (Some why) il ie none short h = absurd (cc)

  by_entry : (l : Line) (o : Option Entry) → first_line (c ∷ cs) ≡ Some l → entry_from l.fields ≡ o → length l.rest ≤ f → then_enter (enter_fields line net o) (λ n. enter_lines f (line + 1) n l.rest) ≡ Ok after → Accepted (suc f) net (c ∷ cs) after
  by_entry l None il io short h = absurd (cc)
  by_entry l (Some e) il io short h = by_refusal l e (entry_refusal net e) il io refl short h

  by_line : (o : Option Line) → first_line (c ∷ cs) ≡ o → Shorter (length (c ∷ cs)) o → enter_line line net o (enter_lines f (line + 1)) ≡ Ok after → Accepted (suc f) net (c ∷ cs) after
  by_line None il s h = absurd (cc)
  by_line (Some l) il s h = by_entry l (entry_from l.fields) il refl (omega arith) h

nothing_more : (net after : Net) → ◌≡◌ {A = Result Net Refusal} (Ok net) (Ok after) → after ≡ net
nothing_more net after h = cc

accepted : (f line : ℕ) (after net : Net) (bs : List ℕ) → length bs ≤ f → enter_lines f line net bs ≡ Ok after → Accepted f net bs after
accepted zero line after net [] l h = let e = nothing_more net after h in record { lines = refl; made = e; sound = λ v. ap valid e ∙ v }
accepted zero line after net (c ∷ cs) l h = absurd (omega arith)
accepted (suc f) line after net [] l h = let e = nothing_more net after h in record { lines = refl; made = e; sound = λ v. ap valid e ∙ v }
accepted (suc f) line after net (c ∷ cs) l h = by_line f line net after c cs (accepted f (line + 1) after) l (first_line (c ∷ cs)) refl (line_shorter (c ∷ cs)) h

-- entries with the nodes first, in the order of writing
edges_only : (es : List Entry) → all is_edge es ≡ true → (prizes_in es ≡ []) × (flat_map edge_line (links_in es) ≡ flat_map entry_line es)
edges_only [] h = (refl, refl)
edges_only (node p ∷ es) h = absurd (true≢false (sym h))
edges_only (edge e ∷ es) h = let again = edges_only es h in (again.0, ap (λ r. edge_line e ++ r) again.1)

nodes_first_lines : (es : List Entry) → nodes_first es ≡ true → flat_map node_line (prizes_in es) ++ flat_map edge_line (links_in es) ≡ flat_map entry_line es
nodes_first_lines [] h = refl
nodes_first_lines (node p ∷ es) h = append_assoc (node_line p) (flat_map node_line (prizes_in es)) (flat_map edge_line (links_in es)) ∙ ap (λ r. node_line p ++ r) (nodes_first_lines es h)
nodes_first_lines (edge e ∷ es) h = let o = edges_only es h in ap (λ ps. flat_map node_line ps ++ flat_map edge_line (e ∷ links_in es)) o.0 ∙ ap (λ r. edge_line e ++ r) o.1

-- the entries of a network, as they are written
abbrev all_entries : Net → List Entry
all_entries net = map node net.prizes ++ map edge net.edges

written_lines : (net : Net) → sheet_of net ≡ flat_map entry_line (all_entries net)
written_lines net = sym (flat_map-append entry_line (map node net.prizes) (map edge net.edges) ∙ λ i. flat_map-map entry_line node net.prizes i ++ flat_map-map entry_line edge net.edges i)

all_edges : (es : List Link) → all is_edge (map edge es) ≡ true
all_edges [] = refl
all_edges (e ∷ es) = all_edges es

edges_nodes_first : (es : List Link) → nodes_first (map edge es) ≡ true
edges_nodes_first [] = refl
edges_nodes_first (e ∷ es) = all_edges es

written_nodes_first : (ps : List ℕ) (es : List Link) → nodes_first (map node ps ++ map edge es) ≡ true
written_nodes_first [] es = edges_nodes_first es
written_nodes_first (p ∷ ps) es = written_nodes_first ps es

lists_back : (ps : List ℕ) (es : List Link) → (prizes_in (map node ps ++ map edge es) ≡ ps) × (links_in (map node ps ++ map edge es) ≡ es)
lists_back [] [] = (refl, refl)
lists_back [] (e ∷ es) = let again = lists_back [] es in (again.0, ap (λ r. e ∷ r) again.1)
lists_back (p ∷ ps) es = let again = lists_back ps es in (ap (λ r. p ∷ r) again.0, again.1)

-- entries that can be written
abbrev Good : Entry → Type 0
Good (node p) = p < 10 ^ 10
Good (edge e) = Writable e

entry_parsed : (e : Entry) (rest : List ℕ) → Good e → parsed_behind [] (entry_line e ++ rest) ≡ Some (parsed e rest)
entry_parsed (node p) rest g = node_parsed p rest g
entry_parsed (edge e) rest g = edge_parsed e rest g

good_link : (n : ℕ) (e : Link) → n ≤ 256 → valid_link n e ≡ true → Writable e
good_link n e l h = record { first = grind (arith, nat_tests); second = grind (arith, nat_tests); cost = grind (arith, nat_tests); code = grind (arith, nat_tests) }

good_nodes : (ps : List ℕ) (more : List Entry) → all valid_prize ps ≡ true → AllByRecursion Good more → AllByRecursion Good (map node ps ++ more)
good_nodes [] more h g = g
good_nodes (p ∷ ps) more h g = let q = and_parts (valid_prize p) (all valid_prize ps) h in let l = leb-true p 1000000000 q.0 in (omega arith, good_nodes ps more q.1 g)

good_edges : (n : ℕ) (es : List Link) → n ≤ 256 → all (valid_link n) es ≡ true → AllByRecursion Good (map edge es)
good_edges n [] l h = tt
good_edges n (e ∷ es) l h = let q = and_parts (valid_link n e) (all (valid_link n) es) h in (good_link n e l q.0, good_edges n es l q.1)

all_good : (net : Net) → valid net ≡ true → AllByRecursion Good (all_entries net)
all_good net h =
    let v = valid_parts net h in
    let few = leb-true (length net.prizes) 256 v.few_nodes in
    good_nodes net.prizes (map edge net.edges) v.prizes_within (good_edges (length net.prizes) net.edges few v.links_valid)

-- the entries of lines that are written are those written
entries_here : (o : Option Line) (rest : List ℕ) (e : Entry) (next : List ℕ → List Entry) → then_line [] o ≡ Some (parsed e rest) → line_entries o next ≡ e ∷ next rest
entries_here None rest e next h = absurd (cc)
entries_here (Some l) rest e next h = at_entry (entry_from l.fields) h
  where
    at_entry : (o : Option Entry) → option_map (λ x. parsed x l.rest) o ≡ Some (parsed e rest) → option_to_list o ++ next l.rest ≡ e ∷ next rest
    at_entry None h = absurd (cc)
    at_entry (Some x) h = let p : parsed x l.rest ≡ parsed e rest = cc in λ i. (p i).entry ∷ next (p i).rest

entries_first : (f : ℕ) (bs rest : List ℕ) (e : Entry) → 0 < length bs → parsed_behind [] bs ≡ Some (parsed e rest) → entries_within (suc f) bs ≡ e ∷ entries_within f rest
entries_first f [] rest e l h = absurd (omega arith)
entries_first f (c ∷ cs) rest e l h = entries_here (first_line (c ∷ cs)) rest e (entries_within f) h

entries_written : (f : ℕ) (es : List Entry) → AllByRecursion Good es → length (flat_map entry_line es) ≤ f → entries_within f (flat_map entry_line es) ≡ es
entries_written zero [] g l = refl
entries_written (suc f) [] g l = refl
entries_written zero (e ∷ es) g l = let s = parsed_shorter (entry_line e ++ flat_map entry_line es) (flat_map entry_line es) e (entry_parsed e (flat_map entry_line es) g.0) in absurd (omega arith)
entries_written (suc f) (e ∷ es) g l =
    let r = flat_map entry_line es in
    let p = entry_parsed e r g.0 in
    let s = parsed_shorter (entry_line e ++ r) r e p in
    entries_first f (entry_line e ++ r) r e (omega arith) p ∙ ap (λ t. e ∷ t) (entries_written f es g.1 (omega arith))

-- entries that are not refused, one after the other
abbrev Taken : Net → List Entry → Type 0
Taken net [] = Unit {0}
Taken net (e ∷ es) = (entry_refusal net e ≡ None) × Taken (with_entry net e) es

lines_entered : (es : List Entry) (line : ℕ) (net : Net) → AllByRecursion Good es → Taken net es → enter_lines (length (flat_map entry_line es)) line net (flat_map entry_line es) ≡ Ok (entered net es)
lines_entered [] line net g t = refl
lines_entered (e ∷ es) line net g t =
    let r = flat_map entry_line es in
    sheet_more line net (with_entry net e) (entry_line e ++ r) r e (entry_parsed e r g.0) (ap (λ o. unless_line_refused line o (with_entry net e)) t.0)
    ∙ lines_entered es (line + 1) (with_entry net e) g.1 t.1

node_taken : (net : Net) (p : ℕ) → length net.prizes < 256 → valid_prize p ≡ true → node_refusal net p ≡ None
node_taken net p l h = grind (arith, nat_tests)

edge_taken : (net : Net) (e : Link) → length net.edges < 1024 → valid_link (length net.prizes) e ≡ true → edge_refusal net e ≡ None
edge_taken net e l h = grind (arith, nat_tests)

nodes_taken : (done todo : List ℕ) (more : List Entry) → length done + length todo ≤ 256 → all valid_prize todo ≡ true → Taken (record { prizes = done ++ todo; edges = [] }) more → Taken (record { prizes = done; edges = [] }) (map node todo ++ more)
nodes_taken done [] more l h t = subst (λ ps. Taken (record { prizes = ps; edges = [] }) more) (append-nil done) t
nodes_taken done (p ∷ ps) more l h t =
    let q = and_parts (valid_prize p) (all valid_prize ps) h in
    let one = length-append done (p ∷ []) in
    (node_taken (record { prizes = done; edges = [] }) p (omega arith) q.0, nodes_taken (done ++ p ∷ []) ps more (omega arith) q.1 (subst (λ xs. Taken (record { prizes = xs; edges = [] }) more) (sym (append_assoc done (p ∷ []) ps)) t))

edges_taken : (ps : List ℕ) (done todo : List Link) → length done + length todo ≤ 1024 → all (valid_link (length ps)) todo ≡ true → Taken (record { prizes = ps; edges = done }) (map edge todo)
edges_taken ps done [] l h = tt
edges_taken ps done (e ∷ es) l h =
    let q = and_parts (valid_link (length ps) e) (all (valid_link (length ps)) es) h in
    let one = length-append done (e ∷ []) in
    (edge_taken (record { prizes = ps; edges = done }) e (omega arith) q.0, edges_taken ps (done ++ e ∷ []) es (omega arith) q.1)

all_taken : (net : Net) → valid net ≡ true → Taken empty_net (all_entries net)
all_taken net h =
    let v = valid_parts net h in
    let few = leb-true (length net.prizes) 256 v.few_nodes in
    let fewer = leb-true (length net.edges) 1024 v.few_edges in
    nodes_taken [] net.prizes (map edge net.edges) (omega arith) v.prizes_within (edges_taken net.prizes [] net.edges (omega arith) v.links_valid)

pub read_after_write : (net : Net) → valid net ≡ true → ReadAfterWrite net
read_after_write net h =
    let back = lists_back net.prizes net.edges in
    ap read_sheet (written_lines net)
    ∙ lines_entered (all_entries net) 1 empty_net (all_good net h) (all_taken net h)
    ∙ ap Ok (entered_is empty_net (all_entries net) ∙ λ i. record { prizes = back.0 i; edges = back.1 i })

pub write_after_read : (bytes : List ℕ) → WriteAfterRead bytes
write_after_read bytes net h =
    let a = accepted (length bytes) 1 net empty_net bytes (omega arith) h in
    let es = entries_of bytes in
    let sound = a.sound refl in (
      λ first. ap sheet_of (a.made ∙ entered_is empty_net es) ∙ nodes_first_lines es first ∙ sym a.lines,
      λ same. ap (λ b. nodes_first (entries_of b)) (sym same ∙ written_lines net) ∙ ap nodes_first (entries_written _ (all_entries net) (all_good net sound) (omega arith)) ∙ written_nodes_first net.prizes net.edges,
    )
