-- An edge read from the code's list has the ends and the cost of its number. Assumes nothing.
use Rattle.std.proofs.Common.{◌≡◌, ℕ, ◌<◌, List, map, length, get_or, ap}
use Rattle.network.specs.Nets.{Net}
use Rattle.network.specs.Edges.{link_of}
use Rattle.network.specs.declared.edge.Edge.{Edge}
use Rattle.theory.specs.Nets.{first_end, second_end, cost}
use Rattle.pruning.proofs.Links.{edges_counted, link_at}

pub record EdgeRead (net : Net) (s : ℕ) (e : Edge) : Type 0 where
  pub first : e.first ≡ first_end net s
  pub second : e.second ≡ second_end net s
  pub cost : e.cost ≡ cost net s

pub edge_read : (net : Net) (es : List Edge) (s : ℕ) (e : Edge) → map link_of es ≡ net.edges → s < length es → e ≡ get_or es s e → EdgeRead net s e
edge_read net es s e same l is =
    let link = link_at net es s e same l is in
    record { first = ap (λ k. k.first) link; second = ap (λ k. k.second) link; cost = ap (λ k. k.cost) link }

-- what a read of an edge asks for
pub ruleset edge_reads = (edges_counted, edge_read)
