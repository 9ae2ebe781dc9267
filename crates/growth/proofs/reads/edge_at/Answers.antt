use Rattle.std.proofs.Common.{ap, arith}
use Rattle.network.specs.Networks.{net_of}
use Rattle.theory.proofs.Valid.{fine}
use Rattle.pruning.proofs.Links.{edges_counted, link_at}
use Rattle.growth.proofs.reads.edge_at.Goals as goal

pub returns : goal.returns
returns c =
    let net = net_of c.args.network.now in
    let es = c.edges.result.now in
    let n = edges_counted net es c.edges.ensures in
    let same = link_at net es c.args.s c.index-edges-s.result c.edges.ensures (omega (arith, c.requires)) c.index-edges-s.is in
    let first = ap (λ k. k.first) same in
    let second = ap (λ k. k.second) same in
    let f = fine net c.args.network.now.valid in
    let few = f.few_nodes in
    let a = f.firsts c.args.s c.requires in
    let b = f.seconds c.args.s c.requires in
    record { first = first; second = second; within = (omega arith, omega arith); cost = ap (λ k. k.cost) same }
