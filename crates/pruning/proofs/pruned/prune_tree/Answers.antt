use Rattle.std.proofs.Common.{◌≡◌, ℕ, ◌<◌, cond, Ok, Err, sym, ap, ◌∙◌}
use Rattle.refusal.specs.declared.Refusal.TheVariants.{ListTooShort}
use Rattle.network.specs.Networks.{net_of}
use Rattle.theory.specs.Nets.{node_count, edge_count}
use Rattle.theory.specs.Prune.{marked}
use Rattle.theory.proofs.Valid.{fine}
use Rattle.pruning.specs.Answers.{answer_of}
use Rattle.pruning.specs.Pruned.{heeded, pruned_in, plan_in}
use Rattle.pruning.specs.Written.{edges_among, unless_short}
use Rattle.pruning.proofs.Written.{plan_same, among_same}
use Rattle.pruning.proofs.pruned.prune_tree.Goals as goal

pub returns : goal.returns
returns c =
    let net = net_of c.args.network.now in
    let E = marked c.args.chosen.now in
    let K = marked c.pruned_nodes-nodes.result in
    let N = marked c.args.tree_nodes.now in
    let M = pruned_in net (heeded c.args.shapes.now) N E in
    let same : (v : ℕ) → v < node_count net → K v ≡ M v = (λ v l. c.pruned_nodes-nodes.ensures v l ∙ ap (λ s. pruned_in net s N E v) c.first_shapes.ensures.value) in
    let plan = plan_same net K M (edges_among net E K) (edges_among net E M) same (among_same net (fine net c.args.network.now.valid) E K M same) in
    let room = c.in_ok-check_room.ensures.ok in
    let w = c.write_plan.ensures in
    record {
      answer = ap Ok (w.answer ∙ ap answer_of plan) ∙ ap (λ short. cond short (Err ListTooShort) (Ok (answer_of (plan_in net (heeded c.args.shapes.now) N E)))) (sym room);
      nodes = w.nodes ∙ λ i. unless_short (sym room i) (plan i).node_marks (node_count net) c.args.nodes_out.now;
      edges = w.edges ∙ λ i. unless_short (sym room i) (plan i).edge_marks (edge_count net) c.args.edges_out.now;
    }
