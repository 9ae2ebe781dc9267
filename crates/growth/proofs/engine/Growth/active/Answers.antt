use Rattle.std.proofs.Common.{◌∙◌, ap}
use Rattle.theory.specs.Growth.{active_count}
use Rattle.growth.specs.Grown.{state_of}
use Rattle.growth.proofs.Calls.{active_is}
use Rattle.growth.proofs.engine.Growth.active.Goals as goal

pub returns : goal.returns
returns g c =
    let s = c.self.inside in
    c.growing.ensures ∙ active_is _ s.network.valid s.tables _ c.self.invariant ∙ ap (λ x. active_count (state_of x)) c.self.view_is
