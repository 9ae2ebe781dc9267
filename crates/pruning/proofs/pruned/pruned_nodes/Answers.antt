use Rattle.std.proofs.Common.{◌≡◌, suc, ◌+◌, ◌-◌, not, ◌&&◌, length, sym, ap, ◌∙◌, rules, tests, arith}
use Rattle.network.specs.Networks.{net_of}
use Rattle.theory.specs.Nets.{node_count}
use Rattle.theory.specs.Prune.{marked}
use Rattle.theory.proofs.Valid.{fine}
use Rattle.theory.proofs.Hanging.{lowest_some}
use Rattle.pruning.specs.Pruned.{member, prunable_at, except, prune_in}
use Rattle.pruning.specs.Written.{edges_among}
use Rattle.pruning.proofs.Ranges.{marks_made}
use Rattle.pruning.proofs.Turns.{turn_next, turn_done, prune_same}
use Rattle.pruning.proofs.pruned.pruned_nodes.Goals as goal

pub loop-init : goal.loop-init
loop-init c =
    let net = net_of c.args.network.now in
    let f = fine net c.args.network.now.valid in
    let few = f.few_nodes in
    let shapes = c.args.shapes.now in
    let E = marked c.args.chosen.now in
    let N = marked c.args.tree_nodes.now in
    let M = marked c.from_fn-nodes.result in
    let all : c.node_count-end.result - 0 ≡ node_count net = omega arith in
    λ v l. ap (λ k. prune_in k net shapes E M v) all
    ∙ prune_same net f shapes E (node_count net) M N (λ u b. marks_made N 256 c.from_fn-nodes.result (λ x y q k. search (rules, tests)) c.from_fn-nodes.ensures.items u (omega arith)) v l

pub returns-in_default : goal.returns-in_default
returns-in_default c =
    let net = net_of c.args.network.now in
    let shapes = c.args.shapes.now in
    let E = marked c.args.chosen.now in
    let M = marked c.loop.nodes in
    let k = c.node_count-end.result - (c.loop.counter + 1) in
    let turns : c.node_count-end.result - c.loop.counter ≡ suc k = omega arith in
    λ v l. sym (ap (λ P. P v) (turn_done net shapes E k M (sym c.next_cluster.ensures ∙ c.in_default.is))) ∙ ap (λ j. prune_in j net shapes E M v) (sym turns) ∙ c.loop.invariant v l

pub members_of-requires-clause-listed : goal.members_of-requires-clause-listed
members_of-requires-clause-listed c =
    let net = net_of c.args.network.now in
    let shapes = c.args.shapes.now in
    (lowest_some (length shapes) (prunable_at net shapes (edges_among net (marked c.args.chosen.now) (marked c.loop.nodes))) c.in-Some.c (sym c.next_cluster.ensures ∙ c.in-Some.is)).0

pub loop-preserved : goal.loop-preserved
loop-preserved c =
    let net = net_of c.args.network.now in
    let f = fine net c.args.network.now.valid in
    let few = f.few_nodes in
    let shapes = c.args.shapes.now in
    let E = marked c.args.chosen.now in
    let M = marked c.loop.nodes in
    let L = member shapes c.in-Some.c in
    let k = c.node_count-end.result - (c.loop.counter + 1) in
    let turns : c.node_count-end.result - c.loop.counter ≡ suc k = omega arith in
    λ v l. prune_same net f shapes E k (marked c.take_away-nodes.result) (except M L) (λ u b. c.take_away-nodes.ensures u (omega arith) ∙ ap (λ x. M u && not x) (c.members_of.ensures u (omega arith))) v l
    ∙ sym (ap (λ P. P v) (turn_next net shapes E k M c.in-Some.c (sym c.next_cluster.ensures ∙ c.in-Some.is)))
    ∙ ap (λ j. prune_in j net shapes E M v) (sym turns)
    ∙ c.loop.invariant v l

pub returns-after-loop : goal.returns-after-loop
returns-after-loop c =
    let none : c.node_count-end.result - c.loop.counter ≡ 0 = omega arith in
    λ v l. ap (λ j. prune_in j (net_of c.args.network.now) c.args.shapes.now (marked c.args.chosen.now) (marked c.loop.nodes) v) (sym none) ∙ c.loop.invariant v l
