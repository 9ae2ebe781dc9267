use Rattle.std.proofs.Common.{Err, sym, ap, ◌∙◌}
use Rattle.std.proofs.lemmas.Result.{err_from_is_err_and}
use Rattle.network.proofs.Entering.{not_refused, refused_with}
use Rattle.network.specs.Networks.{net_of}
use Rattle.theory.specs.Growth.{grow}
use Rattle.theory.specs.Strong.{strong_plan}
use Rattle.theory.proofs.Laws.{laws_hold}
use Rattle.growth.specs.Grown.{network_of, steps_of, state_of}
use Rattle.growth.specs.Plans.{no_plan}
use Rattle.growth.proofs.Planning.{refused_answer, refused_nodes, refused_edges, planned_answer, planned_nodes, planned_edges, strong_plan_shown}
use Rattle.growth.proofs.engine.Growth.strong_prune.Goals as goal

pub returns-in_err-check_plan : goal.returns-in_err-check_plan
returns-in_err-check_plan g c =
    let s = c.args.self.now in
    let net = network_of s in
    let st = state_of s in
    let nodes = c.args.nodes_out.now in
    let edges = c.args.edges_out.now in
    let p = err_from_is_err_and c.from_residual.result c.from_residual.ensures.1 in
    let no = refused_with _ _ c.in_err-check_plan.ensures in
    record {
      answer = p.1 ∙ ap Err p.2 ∙ refused_answer net st (strong_plan net st) nodes edges _ no;
      nodes = refused_nodes net st (strong_plan net st) nodes edges _ no;
      edges = refused_edges net st (strong_plan net st) nodes edges _ no;
      laws = laws_hold net s.entered (steps_of s);
    }

pub returns : goal.returns
returns g c =
    let s = c.self.inside in
    let net = net_of s.network in
    let st = grow net s.tables.steps in
    let nodes = c.args.nodes_out.now in
    let edges = c.args.edges_out.now in
    let none = sym (not_refused _ c.in_ok-check_plan.ensures) ∙ ap (λ x. no_plan (network_of x) (state_of x)) (sym c.self.view_is) in
    let same = strong_plan_shown net s.network.valid s.tables.steps s.tables c.self.invariant.shown c.grown_nodes-nodes.result c.grown_edges-edges.result c.grown_nodes-nodes.ensures c.grown_edges-edges.ensures none in
    rw (← c.self.view_is) (record {
      answer = c.strong_prune_tree.ensures.answer ∙ planned_answer net st (strong_plan net st) _ same nodes edges none;
      nodes = c.strong_prune_tree.ensures.nodes ∙ planned_nodes net st (strong_plan net st) _ same nodes edges none;
      edges = c.strong_prune_tree.ensures.edges ∙ planned_edges net st (strong_plan net st) _ same nodes edges none;
      laws = laws_hold net s.network.valid s.tables.steps;
    })
