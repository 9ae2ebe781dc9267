use Rattle.std.proofs.Common.{◌++◌, drop, ap, ◌∙◌, rules, tests, arith}
use Rattle.std.proofs.lemmas.List.{length-take-le}
use Rattle.theory.specs.Nets.{node_count, edge_count}
use Rattle.theory.specs.Prune.{marks, marked}
use Rattle.pruning.specs.Trees.{net_under, edges_in}
use Rattle.pruning.proofs.Written.{marked_front, answer_same}
use Rattle.pruning.proofs.writing.write_plan.Goals as goal

pub returns-clause-answer : goal.returns-clause-answer
returns-clause-answer c =
    let net = net_under c.args.tree.now in
    let K = marked c.args.tree.now.nodes.now in
    let E = edges_in c.args.tree.now in
    let n = length-take-le c.node_count.result c.args.nodes_out.now (omega (arith, c.requires.nodes)) ∙ c.node_count.ensures in
    let m = length-take-le c.edge_count.result c.args.edges_out.now (omega (arith, c.requires.edges)) ∙ c.edge_count.ensures in
    let nodes = c.write_marks.ensures K (λ v b k. search (rules, tests)) ∙ ap (λ j. marks j K) n in
    let edges = c.write_marks-2.ensures E (λ s b k. search (rules, tests)) ∙ ap (λ j. marks j E) m in
    let nodes-rest = drop c.node_count.result c.args.nodes_out.now in
    let edges-rest = drop c.edge_count.result c.args.edges_out.now in
    c.plan_answer.ensures
    ∙ answer_same net (marked (c.write_marks.new.out ++ nodes-rest)) K (marked (c.write_marks-2.new.out ++ edges-rest)) E
    (λ v l. ap (λ ms. marked (ms ++ nodes-rest) v) nodes ∙ marked_front (node_count net) K nodes-rest v l)
    (λ s l. ap (λ ms. marked (ms ++ edges-rest) s) edges ∙ marked_front (edge_count net) E edges-rest s l)
