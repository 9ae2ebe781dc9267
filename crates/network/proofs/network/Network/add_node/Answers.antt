use Rattle.std.proofs.Common.{vec_items, ap, ◌∙◌, arith}
use Rattle.network.specs.Nets.{valid}
use Rattle.network.specs.Edges.{net_from}
use Rattle.network.specs.Networks.{net_of}
use Rattle.network.proofs.Entering.{node_keeps_valid, not_refused}
use Rattle.network.proofs.network.Network.add_node.Goals as goal

pub invariant_of-self : goal.invariant_of-self
invariant_of-self c =
    let was = c.args.self.now in
    let told = c.push_reserved.ensures in
    record {
      valid = ap (λ ps. valid (net_from ps (vec_items was.edges))) told.items ∙ node_keeps_valid (net_of was) c.args.prize was.valid (not_refused _ c.in_ok-check_node.ensures);
      nodes_room = omega arith;
      edges_room = omega arith;
    }
