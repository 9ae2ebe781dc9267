use Rattle.std.proofs.Common.{length, sym, ◌∙◌, arith}
use Rattle.std.proofs.lemmas.Bool.{le-ltb}
use Rattle.network.specs.Networks.{net_of}
use Rattle.theory.specs.Growth.{grow}
use Rattle.theory.specs.Prune.{grown_edge, marked}
use Rattle.theory.proofs.Bools.{only}
use Rattle.pruning.proofs.Links.{edges_counted}
use Rattle.growth.proofs.TreeMarks.{grown_edge_below, edge_grown}
use Rattle.growth.proofs.snapshot.Snapshot.is_tree_edge.Goals as goal

pub returns-then-s-edges : goal.returns-then-s-edges
returns-then-s-edges c =
    let s = c.args.self.now in
    let n = s.network.now in
    c.is_among.ensures ∙ edge_grown (net_of n) n.valid s.tables.now.steps s.tables.now s.shown (marked c.args.nodes.now) c.requires c.args.s

pub returns-else-s-edges : goal.returns-else-s-edges
returns-else-s-edges c =
    let s = c.args.self.now in
    let n = s.network.now in
    let net = net_of n in
    let count = edges_counted net c.edges.result.now c.edges.ensures in
    let l = c.if-s-edges.false in
    le-ltb c.args.s (length c.edges.result.now) l ∙ sym (only (grown_edge net (grow net s.tables.now.steps).slots c.args.s) (λ e. let below = grown_edge_below net n.valid s.tables.now.steps c.args.s e in omega arith))
