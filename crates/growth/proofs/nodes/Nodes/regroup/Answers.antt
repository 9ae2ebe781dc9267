use Rattle.std.proofs.Common.{get_or, set, ◌∙◌, arith}
use Rattle.std.proofs.lemmas.List.Edits.{map_over_more}
use Rattle.std.proofs.lemmas.List.{get_or_default}
use Rattle.growth.proofs.InPlace.{still_long}
use Rattle.growth.specs.NodeTables.{unplaced, moved}
use Rattle.growth.proofs.nodes.Nodes.regroup.Goals as goal

pub loop-node-preserved : goal.loop-node-preserved
loop-node-preserved c =
    let l = c.loop-node in
    let xs = c.args.self.now.list in
    let ys = l.node-items in
    let i = l.node-index in
    let x = get_or ys i unplaced in
    let whole = c.args.self.now.whole in
    let long = still_long (moved c.args.first c.args.second c.args.new) xs ys i l.invariant (omega arith) in
    (λ k. set ys i (record { cluster = c.regrouped-node.ensures k; depth = x.depth })) ∙ map_over_more (moved c.args.first c.args.second c.args.new) xs ys i x (omega arith) l.invariant (get_or_default ys i unplaced x (omega arith))
