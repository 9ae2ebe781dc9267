use Rattle.std.proofs.Common.{rules, tests, arith}
use Rattle.network.specs.Networks.{net_of}
use Rattle.theory.specs.Growth.{grow}
use Rattle.theory.specs.Prune.{grown_node}
use Rattle.theory.proofs.Valid.{fine}
use Rattle.pruning.proofs.Ranges.{marks_made}
use Rattle.growth.proofs.TreeMarks.{grown_below, marks_whole}
use Rattle.growth.proofs.snapshot.Snapshot.grown_nodes.Goals as goal

pub returns : goal.returns
returns c =
    let n = c.args.self.now.network.now in
    let net = net_of n in
    let k = c.args.self.now.tables.now.steps in
    let p = grown_node (grow net k).slots in
    let few = (fine net n.valid).few_nodes in
    marks_whole 256 p c.from_fn.result c.from_fn.ensures.items.long
    (marks_made p 256 c.from_fn.result (λ x y q k. search (rules, tests)) c.from_fn.ensures.items)
    (λ v e. let below = grown_below net n.valid k v e in omega arith)
