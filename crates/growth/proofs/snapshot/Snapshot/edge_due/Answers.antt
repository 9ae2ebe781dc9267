use Rattle.std.proofs.Common.{◌-◌, ◌*◌, sym, ◌∙◌, arith}
use Rattle.network.specs.Networks.{net_of}
use Rattle.theory.specs.Due.{slack_due}
use Rattle.theory.specs.Growth.{grow}
use Rattle.theory.proofs.Laws.{formed_by_number, numbers_stay_small}
use Rattle.theory.proofs.Valid.{fine}
use Rattle.growth.proofs.Slacks.{Between, depths_at, between}
use Rattle.growth.proofs.snapshot.Snapshot.edge_due.Goals as goal
use Rattle.growth.proofs.snapshot.Snapshot.edge_due.Goals.{After-edge_at-edge}

read : (c : goal.After-edge_at-edge) →
    Between (net_of c.args.self.now.network.now) c.args.self.now.tables.now (grow (net_of c.args.self.now.network.now) c.args.self.now.tables.now.steps) c.args.s c.edge_at-edge.result.first c.edge_at-edge.result.second c.edge_at-edge.result.cost
read c =
    let net = net_of c.args.self.now.network.now in
    let t = c.args.self.now.tables.now in
    let valid = c.args.self.now.network.now.valid in
    between net t (grow net t.steps) (fine net valid) (formed_by_number net valid t.steps) (numbers_stay_small net valid t.steps) c.args.self.now.shown c.args.s _ _ _ c.requires c.edge_at-edge.ensures.first c.edge_at-edge.ensures.second c.edge_at-edge.ensures.cost

pub returns-then-first-second : goal.returns-then-first-second
returns-then-first-second c = sym ((read (goal.at.returns-then-first-second c).After-edge_at-edge).one c.if-first-second.true)

pub overflow_add-first : goal.overflow_add-first
overflow_add-first c = let b = (read (goal.at.overflow_add-first c).After-edge_at-edge).fits in omega arith

pub overflow_mul-edge : goal.overflow_mul-edge
overflow_mul-edge c = let b = (read (goal.at.overflow_mul-edge c).After-edge_at-edge).fits in omega arith

pub overflow_sub-edge : goal.overflow_sub-edge
overflow_sub-edge c = (read (goal.at.overflow_sub-edge c).After-edge_at-edge).within c.if-first-second.false

pub slack_due-requires : goal.slack_due-requires
slack_due-requires c = let b = (read (goal.at.slack_due-requires c).After-edge_at-edge).fits in omega arith

pub returns : goal.returns
returns c =
    let t = c.args.self.now.tables.now in
    let e = c.edge_at-edge.result in
    c.slack_due.ensures
    ∙ (λ i. slack_due (c.grows.ensures i) (c.grows-2.ensures i) t.time (2 * e.cost - depths_at t e.first e.second))
    ∙ (read (goal.at.returns c).After-edge_at-edge).due c.if-first-second.false
