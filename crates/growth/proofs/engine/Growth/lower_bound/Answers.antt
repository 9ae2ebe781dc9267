use Rattle.std.proofs.Common.{◌-◌, ◌∙◌, ap, arith}
use Rattle.network.specs.Networks.{net_of}
use Rattle.theory.specs.Growth.{lower_bound}
use Rattle.theory.proofs.Laws.{numbers_stay_small, lower_bound_holds}
use Rattle.growth.specs.Grown.{network_of, steps_of, state_of}
use Rattle.growth.proofs.engine.Growth.lower_bound.Goals as goal

pub bound-requires : goal.bound-requires
bound-requires g c =
    let s = c.self.inside in
    let ahead = (numbers_stay_small (net_of s.network) s.network.valid s.tables.steps).ahead in
    let shown = c.self.invariant.shown.shown in
    omega (arith, shown.time, shown.moats)

pub returns : goal.returns
returns g c =
    let s = c.args.self.now in
    let shown = c.self.invariant.shown.shown in
    record { answer = c.bound.ensures ∙ (λ i. shown.moats i - shown.time i) ∙ ap (λ x. lower_bound (state_of x)) c.self.view_is; law = lower_bound_holds (network_of s) s.entered (steps_of s) }
