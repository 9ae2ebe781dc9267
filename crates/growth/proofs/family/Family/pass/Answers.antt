use Rattle.std.proofs.Common.{get_or, set, ap, ◌∙◌, arith}
use Rattle.std.proofs.lemmas.List.Edits.{map_over_more}
use Rattle.std.proofs.lemmas.List.{get_or_default}
use Rattle.growth.specs.Records.{vacant, widened}
use Rattle.growth.proofs.InPlace.{still_long}
use Rattle.growth.proofs.family.Family.pass.Goals as goal

pub loop-cluster-preserved : goal.loop-cluster-preserved
loop-cluster-preserved c =
    let l = c.loop-cluster in
    let xs = c.args.self.now.clusters in
    let ys = l.cluster-items in
    let i = l.cluster-index in
    let x = get_or ys i vacant in
    let whole = c.args.self.now.whole in
    let long = still_long (widened c.args.by) xs ys i l.invariant (omega arith) in
    ap (set ys i) c.grow.ensures ∙ map_over_more (widened c.args.by) xs ys i x (omega arith) l.invariant (get_or_default ys i vacant x (omega arith))
