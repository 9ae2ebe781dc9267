use Rattle.std.proofs.Common.{ℕ, ◌+◌, ◌||◌, eqb, replicate, ap, ◌∙◌, arith}
use Rattle.std.proofs.lemmas.List.{length-replicate}
use Rattle.theory.specs.Prune.{marked}
use Rattle.pruning.specs.Pruned.{member}
use Rattle.pruning.proofs.Marking.{get_or_zeros}
use Rattle.pruning.proofs.Opening.{held_none, held_more}
use Rattle.pruning.proofs.members.members_of.Goals as goal

pub loop-d-init : goal.loop-d-init
loop-d-init c =
    let shapes = c.args.shapes.now in
    let d = c.args.c in
    let long = length-replicate {A = ℕ} 511 0 in
    let few = c.requires.few in
    λ v l.
    (λ i. eqb (get_or_zeros 256 v i) 1 || held_more shapes v (marked (replicate 511 0)) (marked c.mark.new.marks) d (d + 1) (omega arith) (λ u b. c.mark.ensures u (omega arith)) i)
    ∙ ap (λ b. b || member shapes d v) (held_none shapes v (marked (replicate 511 0)) (d + 1) (λ u b. ap (λ x. eqb x 1) (get_or_zeros 511 u)))
