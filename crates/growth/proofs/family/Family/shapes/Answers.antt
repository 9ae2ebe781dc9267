use Rattle.std.proofs.Common.{ℕ, map, get_or, sym, ◌∙◌, rules, arith}
use Rattle.std.proofs.lemmas.List.{ext_get_or, length-map, get_or-map}
use Rattle.pruning.specs.declared.shape.Shape.{Shape}
use Rattle.pruning.specs.Pruned.{no_shape}
use Rattle.pruning.proofs.Ranges.{made_at}
use Rattle.growth.specs.Records.{vacant}
use Rattle.growth.specs.Plans.{shape_of}
use Rattle.growth.proofs.family.Family.shapes.Goals as goal

pub returns : goal.returns
returns c =
    let cs = c.args.self.now.clusters in
    let ss = c.from_fn.result in
    let whole = c.args.self.now.whole in
    let made = c.from_fn.ensures.items in
    let shape : ℕ → Shape = λ v. shape_of (get_or cs v vacant) in
    ext_get_or no_shape ss (map shape_of cs) (made.long ∙ sym (length-map cs shape_of ∙ whole))
    (λ k l. made_at shape ss (λ x y q k. search rules) 511 made k no_shape (omega arith) ∙ sym (get_or-map shape_of cs k vacant no_shape (omega arith)))
