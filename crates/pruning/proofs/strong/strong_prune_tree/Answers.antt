use Rattle.std.proofs.Common.{cond, Ok, Err, sym, ap, ◌∙◌}
use Rattle.refusal.specs.declared.Refusal.TheVariants.{ListTooShort}
use Rattle.network.specs.Networks.{net_of}
use Rattle.theory.specs.Nets.{node_count, edge_count}
use Rattle.theory.specs.Prune.{marked}
use Rattle.pruning.specs.Answers.{answer_of}
use Rattle.pruning.specs.Written.{plan_among, unless_short}
use Rattle.pruning.specs.Strong.{strong_plan_in}
use Rattle.pruning.proofs.strong.strong_prune_tree.Goals as goal

pub returns : goal.returns
returns c =
    let net = net_of c.args.network.now in
    let plan = ap (plan_among net (marked c.args.tree_edges.now)) c.strong_nodes-nodes.ensures in
    let room = c.in_ok-check_room.ensures.ok in
    let w = c.write_plan.ensures in
    record {
      answer = ap Ok (w.answer ∙ ap answer_of plan) ∙ ap (λ short. cond short (Err ListTooShort) (Ok (answer_of (strong_plan_in net (marked c.args.tree_nodes.now) (marked c.args.tree_edges.now))))) (sym room);
      nodes = w.nodes ∙ λ i. unless_short (sym room i) (plan i).node_marks (node_count net) c.args.nodes_out.now;
      edges = w.edges ∙ λ i. unless_short (sym room i) (plan i).edge_marks (edge_count net) c.args.edges_out.now;
    }
