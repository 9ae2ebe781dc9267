use Rattle.theory.proofs.Laws.{laws_hold}
use Rattle.growth.specs.Grown.{network_of, steps_of}
use Rattle.growth.proofs.engine.Growth.step.Goals as goal

pub returns-in_err-time-clause-laws : goal.returns-in_err-time-clause-laws
returns-in_err-time-clause-laws g c = let s = c.args.self.now in laws_hold (network_of s) s.entered (steps_of s)
