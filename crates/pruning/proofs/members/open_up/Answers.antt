use Rattle.std.proofs.Common.{◌≡◌, Bool, true, ◌&&◌, ◌||◌, eqb, None, sym, refl, ap, ◌∙◌, arith}
use Rattle.theory.specs.Prune.{marked}
use Rattle.pruning.specs.Pruned.{member, held_below}
use Rattle.pruning.proofs.Levels.{member_is}
use Rattle.pruning.proofs.Opening.{held_more}
use Rattle.pruning.proofs.members.open_up.Goals as goal

alone : (n h e : Bool) → ((n || e) || h) ≡ (n || (h || (true && e)))
alone n h e = grind arith

parted : (n h a b : Bool) → (n || ((h || a) || b)) ≡ (n || (h || (true && (true && (a || b)))))
parted n h a b = grind arith

pub returns-in-None : goal.returns-in-None
returns-in-None c = λ v l.
    let shapes = c.args.shapes.now in
    let d = c.args.d in
    let N = marked c.args.nodes.now v in
    let H = held_below shapes d (marked c.args.inside.now) v in
    let inside = c.if-not-is_marked.ensures in
    ap (λ b. b || H) (c.mark.ensures v l)
    ∙ alone N H (eqb d v)
    ∙ (λ i. N || (H || (inside i && sym (member_is shapes d v None c.in-None.is) i)))

pub returns-then-are_lower : goal.returns-then-are_lower
returns-then-are_lower c = λ v l.
    let shapes = c.args.shapes.now in
    let d = c.args.d in
    let N = marked c.args.nodes.now v in
    let M = marked c.args.inside.now in
    let H = held_below shapes d M v in
    let p = c.in-Some.first in
    let q = c.in-Some.second in
    let inside = c.if-not-is_marked.ensures in
    let lower = c.are_lower.ensures.lower c.if-are_lower.true in
    let one_more = held_more shapes v M (λ u. M u || eqb p u) p d lower.0 (λ u b. refl) in
    let two-more = held_more shapes v (λ u. M u || eqb p u) (marked c.mark_both.new.marks) q d lower.1 (λ u b. c.mark_both.ensures u (omega arith)) in
    let nodes = c.are_lower.ensures.nodes v ∙ ap (λ r. r && (member shapes p v || member shapes q v)) c.if-are_lower.true in
    ap (λ b. N || b) (two-more ∙ ap (λ b. b || member shapes q v) one_more)
    ∙ parted N H (member shapes p v) (member shapes q v)
    ∙ (λ i. N || (H || (inside i && sym nodes i)))
