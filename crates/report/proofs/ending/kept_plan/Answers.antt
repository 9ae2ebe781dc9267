use Rattle.std.proofs.Common.{◌∙◌}
use Rattle.theory.specs.Prune.{plan}
use Rattle.growth.specs.Grown.{network_of, state_of}
use Rattle.report.specs.Reports.{with_marks}
use Rattle.report.proofs.Marks.{kept_found}
use Rattle.report.proofs.ending.kept_plan.Goals as goal

pub returns : goal.returns
returns g c =
    let s = c.args.growth.now in
    let net = network_of s in
    let st = state_of s in
    let h = c.prune-answer.ensures in
    c.with_marks.ensures
    ∙ (λ i. with_marks (h.answer i) (h.nodes i) (h.edges i))
    ∙ kept_found net s.entered st c.requires (plan net st)
