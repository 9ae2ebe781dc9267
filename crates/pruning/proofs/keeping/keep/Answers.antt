use Rattle.std.proofs.Common.{◌≡◌, ◌+◌, eqb, ◌∷◌, get_or, set, take, replicate, sym, ap, ◌∙◌, arith}
use Rattle.std.proofs.lemmas.List.{take_more, take_all}
use Rattle.network.specs.Networks.{net_of}
use Rattle.theory.specs.Prune.{marked}
use Rattle.theory.specs.Strong.{kept}
use Rattle.theory.proofs.Valid.{fine}
use Rattle.pruning.specs.Branches.{branch_of, newest_first, by_node}
use Rattle.pruning.specs.declared.branch.Branch.{Branch}
use Rattle.pruning.proofs.Marking.{byte_one}
use Rattle.pruning.proofs.Hung.{newest_more}
use Rattle.pruning.proofs.Kept.{inside_at, keep_starts, keep_more}
use Rattle.pruning.proofs.keeping.keep.Goals as goal

-- what a read beyond the list would give
abbrev none : Branch
none = record { child = 0; parent = 0; edge = 0 }

pub loop-next-init : goal.loop-next-init
loop-next-init c =
    let root = c.args.root in
    ap (λ x. marked (set (replicate 256 0) root x)) (byte_one (eqb root c.args.best)) ∙ keep_starts (net_of c.args.network.now) (by_node c.args.table.now) root c.args.best c.requires.root

pub is_kept-requires : goal.is_kept-requires
is_kept-requires c =
    let net = net_of c.args.network.now in
    let f = fine net c.args.network.now.valid in
    let in' = inside_at net f c.requires.rooted.0 c.args.branches.now c.requires.rooted.1 c.loop-next.next-index none (omega arith) in
    let few = f.few_nodes in
    let l = in'.child in
    record { edge = in'.edge; child = omega (arith, c.requires.table) }

pub bounds-above-next : goal.bounds-above-next
bounds-above-next c =
    let net = net_of c.args.network.now in
    let f = fine net c.args.network.now.valid in
    let l = (inside_at net f c.requires.rooted.0 c.args.branches.now c.requires.rooted.1 c.loop-next.next-index none (omega arith)).child in
    let few = f.few_nodes in
    omega arith

pub loop-next-preserved : goal.loop-next-preserved
loop-next-preserved c =
    let net = net_of c.args.network.now in
    let f = fine net c.args.network.now.valid in
    let bs = c.args.branches.now in
    let i = c.loop-next.next-index in
    let above = c.loop-next.above in
    let W = by_node c.args.table.now in
    let next = get_or bs i none in
    let l = (inside_at net f c.requires.rooted.0 bs c.requires.rooted.1 i none (omega arith)).child in
    let few = f.few_nodes in
    let long = c.loop-next-test.array_long in
    let more : newest_first (take (i + 1) bs) ≡ branch_of next ∷ newest_first (take i bs) = ap newest_first (take_more bs i none (omega arith)) ∙ newest_more (take i bs) next in
    ap (λ x. marked (set above next.child x)) (byte_one c.is_kept.result)
    ∙ keep_more net W c.args.root c.args.best above (branch_of next) (newest_first (take i bs)) c.is_kept.result (omega arith) c.loop-next.invariant c.is_kept.ensures
    ∙ ap (kept net W c.args.root c.args.best) (sym more)

pub returns : goal.returns
returns c = c.loop-next.invariant ∙ ap (λ bs. kept (net_of c.args.network.now) (by_node c.args.table.now) c.args.root c.args.best (newest_first bs)) (take_all c.loop-next.next-index c.args.branches.now (omega arith))
