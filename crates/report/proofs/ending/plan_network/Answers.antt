use Rattle.std.proofs.Common.{ap, ◌∙◌}
use Rattle.report.specs.Reports.{grown, report_answer}
use Rattle.report.proofs.ending.plan_network.Goals as goal

pub returns : goal.returns
returns g c =
    let h = c.final_report-report.ensures in
    let given = c.start-growth.ensures.network in
    record { answer = h.answer ∙ ap report_answer given; network = h.network ∙ given; state = h.state ∙ ap grown given; laws = h.laws }
