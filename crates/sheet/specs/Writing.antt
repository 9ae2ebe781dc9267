-- A network written as a sheet: its nodes, then its edges, by number.
use Rattle.std.specs.Prelude.{ℕ, Bool, cond, List, [], ◌∷◌, ◌++◌, length, drop, Ok, Err, decimal, Result, nat_lt}
use Rattle.std.specs.List.{flat_map}
use Rattle.refusal.specs.declared.Refusal.{Refusal}
use Rattle.refusal.specs.declared.Refusal.TheVariants.{ListTooShort}
use Rattle.network.specs.Nets.{Net, Link}
use Rattle.network.specs.Edges.{link_of}
use Rattle.network.specs.declared.edge.Edge.{Edge}

-- `N`, the prize
abbrev pub node_line : ℕ → List ℕ
node_line prize = 78 ∷ 9 ∷ (decimal prize ++ 10 ∷ [])

-- `S`, the ends, the cost, the code
abbrev pub edge_line : Link → List ℕ
edge_line e = 83 ∷ 9 ∷ (decimal e.first ++ 9 ∷ (decimal e.second ++ 9 ∷ (decimal e.cost ++ 9 ∷ (e.code ++ 10 ∷ []))))

-- the line of an edge of the code's
abbrev pub line_of : Edge → List ℕ
line_of e = edge_line (link_of e)

abbrev pub sheet_of : Net → List ℕ
sheet_of net = flat_map node_line net.prizes ++ flat_map edge_line net.edges

-- a list shorter than the text refuses
abbrev pub no_room : Net → List ℕ → Bool
no_room net out = nat_lt (length out) (length (sheet_of net))

abbrev pub write_answer : Net → List ℕ → Result ℕ Refusal
write_answer net out = cond (no_room net out) (Err ListTooShort) (Ok (length (sheet_of net)))

-- the text at the front, and what was behind it; all as it was after a refusal
abbrev pub write_after : Net → List ℕ → List ℕ
write_after net out = cond (no_room net out) out (sheet_of net ++ drop (length (sheet_of net)) out)
