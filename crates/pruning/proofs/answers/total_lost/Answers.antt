use Rattle.std.proofs.Common.{cond, rules, tests, ap, ◌∙◌, arith}
use Rattle.network.specs.Networks.{net_of}
use Rattle.theory.specs.Sums.{sum_to}
use Rattle.theory.specs.Nets.{prize}
use Rattle.theory.specs.Prune.{marked}
use Rattle.theory.proofs.Valid.{fine}
use Rattle.pruning.proofs.Totals.{either_most}
use Rattle.pruning.proofs.Ranges.{sum_below, sum_fits}
use Rattle.pruning.proofs.answers.total_lost.Goals as goal

pub sum-requires-clause-fits : goal.sum-requires-clause-fits
sum-requires-clause-fits c =
    let net = net_of c.args.network.now in
    let N = marked c.args.nodes.now in
    let f = fine net c.args.network.now.valid in
    let few = f.few_nodes in
    let n = c.node_count.ensures in
    sum_fits (λ v. cond (N v) 0 (prize net v)) c.node_count.result c.map.result c.map.ensures.source c.map.ensures.closure (λ x y q k. search (rules, tests)) 1000000000 _ (λ v. either_most (N v) 0 (prize net v) 1000000000 (omega arith) (f.prizes v)) (omega arith)

pub returns : goal.returns
returns c =
    let net = net_of c.args.network.now in
    let N = marked c.args.nodes.now in
    sum_below (λ v. cond (N v) 0 (prize net v)) c.node_count.result c.map.result c.map.ensures.source c.map.ensures.closure (λ x y q k. search (rules, tests)) c.sum.result c.sum.ensures.ran
    ∙ ap (λ n. sum_to n (λ v. cond (N v) 0 (prize net v))) c.node_count.ensures
