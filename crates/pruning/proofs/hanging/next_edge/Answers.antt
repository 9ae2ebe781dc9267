use Rattle.std.proofs.Common.{ℕ, ◌&&◌, rules, tests, ap, ◌∙◌}
use Rattle.network.specs.Networks.{net_of}
use Rattle.theory.specs.Sums.{differ}
use Rattle.theory.specs.Nets.{first_end, second_end}
use Rattle.theory.specs.Prune.{marked}
use Rattle.theory.specs.Strong.{lowest_below}
use Rattle.pruning.proofs.Ranges.{found_below}
use Rattle.pruning.proofs.hanging.next_edge.Goals as goal

pub returns : goal.returns
returns c =
    let net = net_of c.args.network.now in
    let H = marked c.args.placed.now in
    let out = λ (s : ℕ). marked c.args.edges.now s && differ (H (first_end net s)) (H (second_end net s)) in
    found_below out c.edge_count.result _ c.find.result (λ x b q k. search (rules, tests)) c.find.ensures.ran
    ∙ ap (λ n. lowest_below n out) c.edge_count.ensures
