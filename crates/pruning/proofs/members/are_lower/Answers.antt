use Rattle.std.proofs.Common.{◌&&◌, ◌||◌, ltb, Some, sym, ap, ◌∙◌, arith}
use Rattle.std.proofs.lemmas.Bool.{and_left, lt-ltb, le-ltb, ltb-true}
use Rattle.pruning.specs.Pruned.{member}
use Rattle.pruning.proofs.Levels.{member_is}
use Rattle.pruning.proofs.members.are_lower.Goals as goal

pub returns-then-first-c : goal.returns-then-first-c
returns-then-first-c c =
    let shapes = c.args.shapes.now in
    let k = c.args.c in
    let p = c.args.first in
    let q = c.args.second in
    record {
      lower = λ e. (c.if-first-c.true, ltb-true q k e);
      nodes = λ v. member_is shapes k v (Some (p, q)) c.requires ∙ ap (λ b. (b && ltb q k) && (member shapes p v || member shapes q v)) (lt-ltb p k c.if-first-c.true);
    }

pub returns-else-first-c : goal.returns-else-first-c
returns-else-first-c c =
    let shapes = c.args.shapes.now in
    let k = c.args.c in
    let p = c.args.first in
    let q = c.args.second in
    let above = le-ltb p k c.if-first-c.false in
    record {
      lower = λ e. (let l = ltb-true p k e in omega arith, let l = ltb-true p k e in omega arith);
      nodes = λ v. member_is shapes k v (Some (p, q)) c.requires ∙ ap (λ b. (b && ltb q k) && (member shapes p v || member shapes q v)) above ∙ sym (and_left (ltb p k) (member shapes p v || member shapes q v) above);
    }
