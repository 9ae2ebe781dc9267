use Rattle.std.proofs.Common.{◌+◌, ◌*◌, ap, ◌∙◌, arith}
use Rattle.theory.specs.Nets.{node_count}
use Rattle.theory.specs.Growth.{ended}
use Rattle.growth.specs.Grown.{network_of, steps_of}
use Rattle.growth.proofs.Endings.{ends_once, ends_at_last}
use Rattle.growth.proofs.engine.Growth.grow_to_end.Goals as goal

pub returns : goal.returns
returns g c =
    let s = c.args.self.now in
    let net = network_of s in
    let h = c.grow.ensures in
    let count = ap (λ x. node_count (network_of x)) c.self.view_is in
    let at = steps_of s + c.most_steps-most.result in
    let over = ends_at_last net s.entered at (omega (arith, c.most_steps-most.ensures)) in
    record {
      network = h.network;
      state = h.state ∙ ends_once net at (2 * node_count net) over (ends_at_last net s.entered (2 * node_count net) (omega arith));
      ended = ap ended h.state ∙ over;
      laws = h.laws;
    }
