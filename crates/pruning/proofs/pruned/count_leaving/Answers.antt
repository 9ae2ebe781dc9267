use Rattle.std.proofs.Common.{ℕ, ◌&&◌, rules, tests, ap, ◌∙◌}
use Rattle.theory.specs.Sums.{sum_to, one, differ}
use Rattle.theory.specs.Nets.{first_end, second_end}
use Rattle.theory.specs.Prune.{marked}
use Rattle.pruning.specs.Trees.{net_under, edges_in}
use Rattle.pruning.proofs.Ranges.{count_below}
use Rattle.pruning.proofs.pruned.count_leaving.Goals as goal

pub returns : goal.returns
returns c =
    let tree = c.args.tree.now in
    let M = marked c.args.members.now in
    let out = λ (s : ℕ). edges_in tree s && differ (M (first_end (net_under tree) s)) (M (second_end (net_under tree) s)) in
    count_below out c.edge_count.result c.filter.result c.count.result c.filter.ensures.source c.filter.ensures.closure (λ x b q k. search (rules, tests)) c.count.ensures.ran
    ∙ ap (λ n. sum_to n (λ s. one (out s))) c.edge_count.ensures
