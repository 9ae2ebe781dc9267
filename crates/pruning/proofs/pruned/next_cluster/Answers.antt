use Rattle.std.proofs.Common.{length, rules, tests}
use Rattle.pruning.specs.Pruned.{prunable_at}
use Rattle.pruning.specs.Trees.{net_under, edges_in}
use Rattle.pruning.proofs.Ranges.{found_below}
use Rattle.pruning.proofs.pruned.next_cluster.Goals as goal

pub returns : goal.returns
returns c =
    let tree = c.args.tree.now in
    let shapes = c.args.shapes.now in
    found_below (prunable_at (net_under tree) shapes (edges_in tree)) (length shapes) _ c.find.result (λ x b q k. search (rules, tests)) c.find.ensures.ran
