use Rattle.std.proofs.Common.{◌≡◌, ◌+◌, sym, ◌∙◌, arith}
use Rattle.theory.specs.Growth.{grow}
use Rattle.theory.proofs.Laws.{laws_hold}
use Rattle.growth.specs.Grown.{network_of, steps_of}
use Rattle.growth.proofs.runs.run.Goals as goal

pub returns : goal.returns
returns g c =
    let h = c.grow.ensures in
    let first = c.start-growth.ensures in
    let all : steps_of c.start-growth.result + c.args.steps ≡ c.args.steps = omega (arith, first.steps) in
    record {
      network = h.network ∙ first.network ∙ c.entered_anew.ensures;
      state = h.state ∙ λ i. grow (sym h.network i) (all i);
      laws = laws_hold (network_of c.grow.new.self) c.grow.new.self.entered c.args.steps;
    }
