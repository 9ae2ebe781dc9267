use Rattle.std.proofs.Common.{◌≡◌, ℕ, suc, ◌+◌, ◌-◌, length, replicate, sym, ap, ◌∙◌, subst, arith}
use Rattle.std.proofs.lemmas.List.{length-set}
use Rattle.network.specs.Networks.{net_of}
use Rattle.theory.specs.Nets.{node_count}
use Rattle.theory.specs.Prune.{marked}
use Rattle.theory.specs.Strong.{hung, next_edge, hang_from}
use Rattle.theory.proofs.Valid.{fine}
use Rattle.pruning.specs.Branches.{branch_of, newest_first}
use Rattle.pruning.proofs.Hung.{Hanging, placed_root, newest_more, hang_done, next_within, hanging_more}
use Rattle.pruning.proofs.hanging.hang.Goals as goal

pub loop-init : goal.loop-init
loop-init c =
    let net = net_of c.args.network.now in
    let E = marked c.args.edges.now in
    let root = c.args.root in
    let all : c.node_count-end.result - 0 ≡ node_count net = omega arith in
    let none = c.new-branches.ensures in (
      ap length none,
      record {
        long = length-set {A = ℕ} (replicate 256 0) root 1;
        nodes = placed_root root c.requires ∙ ap (λ bs. hung root (newest_first bs)) (sym none);
        whole = λ i. hang_from (all i) net E root (newest_first (none i));
      },
    )

pub returns-in_default : goal.returns-in_default
returns-in_default c =
    let net = net_of c.args.network.now in
    let E = marked c.args.edges.now in
    let root = c.args.root in
    let h = c.loop.invariant.1 in
    let k = c.node_count-end.result - (c.loop.counter + 1) in
    let bs = newest_first c.loop.branches.items in
    let left : c.node_count-end.result - c.loop.counter ≡ suc k = omega arith in
    sym (hang_done net E root k bs (ap (next_edge net E) (sym h.nodes) ∙ sym c.next_edge.ensures ∙ c.in_default.is)) ∙ ap (λ j. hang_from j net E root bs) (sym left) ∙ h.whole

pub branch_at-next-requires : goal.branch_at-next-requires
branch_at-next-requires c = next_within (net_of c.args.network.now) (marked c.args.edges.now) (marked c.loop.placed) c.in-Some.s (sym c.next_edge.ensures ∙ c.in-Some.is)

pub loop-preserved : goal.loop-preserved
loop-preserved c =
    let net = net_of c.args.network.now in
    let E = marked c.args.edges.now in
    let root = c.args.root in
    let k = c.node_count-end.result - (c.loop.counter + 1) in
    let left : c.node_count-end.result - c.loop.counter ≡ suc k = omega arith in
    let bs = newest_first c.loop.branches.items in
    let next = c.branch_at-next.result in
    let was : Hanging net E root (suc k) c.loop.placed bs = subst (λ j. Hanging net E root j c.loop.placed bs) left c.loop.invariant.1 in
    let more = ap newest_first c.push.ensures.items ∙ newest_more c.loop.branches.items next in
    (omega arith, subst (Hanging net E root k _) (sym more) (hanging_more net (fine net c.args.network.now.valid) E root k c.loop.placed bs was c.in-Some.s (sym c.next_edge.ensures ∙ c.in-Some.is) (branch_of next) c.branch_at-next.ensures))
