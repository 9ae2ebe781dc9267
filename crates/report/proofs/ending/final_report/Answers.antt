use Rattle.std.proofs.Common.{◌≡◌, false, eqb, Ok, Err, sym, ap, ◌∙◌}
use Rattle.std.proofs.lemmas.Bool.{cond-false}
use Rattle.refusal.specs.declared.Refusal.TheVariants.{NoNode}
use Rattle.theory.specs.Nets.{node_count}
use Rattle.theory.specs.Growth.{lower_bound}
use Rattle.theory.specs.Prune.{plan}
use Rattle.theory.specs.Strong.{strong_plan}
use Rattle.growth.specs.Grown.{network_of, state_of}
use Rattle.report.specs.Reports.{kept_of, report_of}
use Rattle.report.proofs.Marks.{found}
use Rattle.report.proofs.ending.final_report.Goals as goal

pub returns : goal.returns
returns g c =
    let h = c.grow_to_end.ensures in
    let s = c.grow_to_end.new.self in
    let net = network_of c.args.growth.now in
    let a = found (eqb (node_count (network_of s)) 0) c.in_ok-plan.plan (kept_of (network_of s) (plan (network_of s) (state_of s))) c.in_ok-plan.ensures in
    let b = found (eqb (node_count (network_of s)) 0) c.in_ok-strong.strong (kept_of (network_of s) (strong_plan (network_of s) (state_of s))) c.in_ok-strong.ensures in
    let some : eqb (node_count net) 0 ≡ false = ap (λ n. eqb (node_count n) 0) (sym h.network) ∙ a.0 in
    record {
      answer = (λ i. Ok (record {
        steps = (c.steps.ensures ∙ ap (λ st. st.steps) h.state) i;
        lower_bound = (c.lower_bound.ensures.answer ∙ ap lower_bound h.state) i;
        plan = (a.1 ∙ λ j. kept_of (h.network j) (plan (h.network j) (h.state j))) i;
        strong = (b.1 ∙ λ j. kept_of (h.network j) (strong_plan (h.network j) (h.state j))) i;
      }))
          ∙ sym (cond-false (eqb (node_count net) 0) (Err NoNode) (Ok (report_of net)) some);
      network = h.network;
      state = h.state;
      laws = h.laws;
    }
