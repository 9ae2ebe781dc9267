use Rattle.std.proofs.Common.{sym, ap, ◌∙◌}
use Rattle.network.specs.Networks.{net_of}
use Rattle.theory.specs.Growth.{step}
use Rattle.theory.proofs.Laws.{laws_hold}
use Rattle.growth.specs.Grown.{network_of, state_of, next_due}
use Rattle.growth.proofs.Calls.{next_state, next_shown, next_queue}
use Rattle.growth.proofs.engine.Growth.advance.Goals as goal

pub invariant_of-grown : goal.invariant_of-grown
invariant_of-grown g c =
    let s = c.self.inside in
    let due = c.requires ∙ ap (λ x. next_due (network_of x) (state_of x)) (sym c.self.view_is) in
    record { shown = next_shown _ s.network.valid s.tables _ c.self.invariant c.args.time c.args.number due c.happen.new.self c.happen.ensures }

pub invariant_of-self : goal.invariant_of-self
invariant_of-self g c =
    let s = c.self.inside in
    let due = c.requires ∙ ap (λ x. next_due (network_of x) (state_of x)) (sym c.self.view_is) in
    let sound = c.self.invariant in
    let m = c.happen.new.self in
    record {
      shown = next_shown _ s.network.valid s.tables _ sound c.args.time c.args.number due m c.happen.ensures;
      due = next_queue _ s.network.valid s.tables _ sound c.args.time c.args.number due m c.happen.ensures _ c.refresh.ensures;
    }

pub returns : goal.returns
returns g c =
    let s = c.self.inside in
    let due = c.requires ∙ ap (λ x. next_due (network_of x) (state_of x)) (sym c.self.view_is) in
    let m = c.happen.new.self in
    record {
      network = ap network_of c.self.view_is;
      state = next_state _ s.network.valid s.tables _ c.self.invariant c.args.time c.args.number due m c.happen.ensures ∙ ap (λ x. step (network_of x) (state_of x)) c.self.view_is;
      laws = laws_hold (net_of s.network) s.network.valid m.steps;
    }
