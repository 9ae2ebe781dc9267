-- An edge of the code's list stands at its number in the network. Assumes nothing.
use Rattle.std.proofs.Common.{◌≡◌, ℕ, ◌<◌, List, map, length, get_or, sym, ap, ◌∙◌}
use Rattle.std.proofs.lemmas.List.{length-map, get_or-map}
use Rattle.network.specs.Nets.{Net}
use Rattle.network.specs.Edges.{link_of}
use Rattle.network.specs.declared.edge.Edge.{Edge}
use Rattle.theory.specs.Nets.{edge_count, no_link}

pub edges_counted : (net : Net) (es : List Edge) → map link_of es ≡ net.edges → length es ≡ edge_count net
edges_counted net es same = sym (length-map es link_of) ∙ ap length same

pub link_at : (net : Net) (es : List Edge) (s : ℕ) (e : Edge) → map link_of es ≡ net.edges → s < length es → e ≡ get_or es s e → link_of e ≡ get_or net.edges s no_link
link_at net es s e same l is = ap link_of is ∙ sym (get_or-map link_of es s e no_link l) ∙ ap (λ ls. get_or ls s no_link) same
