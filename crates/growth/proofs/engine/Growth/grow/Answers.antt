use Rattle.std.proofs.Common.{◌≡◌, ℕ, suc, ◌+◌, true, sym, refl, ap, ◌∙◌, arith}
use Rattle.network.specs.Nets.{Net}
use Rattle.theory.specs.Growth.{State, ended, step, grow}
use Rattle.theory.proofs.Laws.{laws_hold}
use Rattle.growth.specs.Grown.{network_of, steps_of}
use Rattle.growth.proofs.Endings.{still}
use Rattle.growth.proofs.engine.Growth.grow.Goals as goal

pub loop-init : goal.loop-init
loop-init g c =
    let s = c.args.self.now in
    let none : s.steps ≡ s.steps + 0 = omega arith in
    (refl, ap (grow s.network) none)

-- a step further from the same network
further : (net next : Net) (k i : ℕ) (st after : State) → next ≡ net → st ≡ grow net (k + i) → after ≡ step next st → after ≡ grow net (k + (i + 1))
further net next k i st after same e is =
    let more : suc (k + i) ≡ k + (i + 1) = omega arith in
    is ∙ (λ j. step (same j) (e j)) ∙ ap (grow net) more

pub returns-then-has_ended : goal.returns-then-has_ended
returns-then-has_ended g c =
    let s = c.args.self.now in
    let net = network_of s in
    let l = c.loop.self in
    let left = c.loop-test.true in
    let over : ended (grow net (steps_of s + c.loop.counter)) ≡ true = sym (ap ended c.loop.invariant.1) ∙ sym c.has_ended.ensures ∙ c.if-has_ended.true in
    record {
      network = c.loop.invariant.0;
      state = c.loop.invariant.1 ∙ sym (still net (steps_of s + c.loop.counter) over (steps_of s + c.args.steps) (omega arith));
      laws = laws_hold (network_of l) l.entered (steps_of l);
    }

pub returns : goal.returns
returns g c =
    let s = c.args.self.now in
    let l = c.loop.self in
    let all : steps_of s + c.loop.counter ≡ steps_of s + c.args.steps = omega arith in
    record {
      network = c.loop.invariant.0;
      state = c.loop.invariant.1 ∙ ap (grow (network_of s)) all;
      laws = laws_hold (network_of l) l.entered (steps_of l);
    }
