use Rattle.std.proofs.Common.{◌≡◌, length, sym, ap, ◌∙◌, arith}
use Rattle.std.proofs.lemmas.Bool.{le-ltb}
use Rattle.network.specs.Networks.{net_of}
use Rattle.theory.specs.Nets.{node_count}
use Rattle.theory.specs.Growth.{grow}
use Rattle.theory.specs.Prune.{grown_node}
use Rattle.theory.proofs.Bools.{only}
use Rattle.growth.proofs.TreeMarks.{grown_below, node_grown}
use Rattle.growth.proofs.snapshot.Snapshot.is_grown.Goals as goal

pub returns-then-v-prizes : goal.returns-then-v-prizes
returns-then-v-prizes c =
    let s = c.args.self.now in
    let n = s.network.now in
    let net = net_of n in
    let count : length c.prizes.result.now ≡ node_count net = ap length c.prizes.ensures in
    let l = c.if-v-prizes.true in
    c.grows.ensures ∙ node_grown net n.valid s.tables.now.steps s.tables.now s.shown c.args.v (omega arith)

pub returns-else-v-prizes : goal.returns-else-v-prizes
returns-else-v-prizes c =
    let s = c.args.self.now in
    let n = s.network.now in
    let net = net_of n in
    let count : length c.prizes.result.now ≡ node_count net = ap length c.prizes.ensures in
    let l = c.if-v-prizes.false in
    le-ltb c.args.v (length c.prizes.result.now) l ∙ sym (only (grown_node (grow net s.tables.now.steps).slots c.args.v) (λ e. let below = grown_below net n.valid s.tables.now.steps c.args.v e in omega arith))
