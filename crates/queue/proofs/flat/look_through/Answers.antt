-- Entry by entry, the earlier one is what a look through the table finds.
use Rattle.std.proofs.Common.{None, ◌∙◌, rules}
use Rattle.std.proofs.lemmas.Iterator.{YieldsList-from_slice}
use Rattle.std.proofs.lemmas.Iterator.Consumers.{YieldsList-from_enumerate, fold_from_yields_List}
use Rattle.queue.proofs.Scans.{look, scan_fold}
use Rattle.queue.proofs.flat.look_through.Goals as goal

pub returns : goal.returns
returns c =
    let t = c.args.times.now in
    fold_from_yields_List _ look None c.fold.result c.fold.ensures.ran (YieldsList-from_enumerate (YieldsList-from_slice t (cc)) (cc)) (λ a x b q k. search rules)
    ∙ scan_fold None 0 t
