use Rattle.std.proofs.Common.{◌≡◌, ◌+◌, get_or, None, sym, ap, ◌∙◌, arith}
use Rattle.network.specs.Networks.{net_of}
use Rattle.theory.specs.Growth.{grow}
use Rattle.theory.proofs.Valid.{fine}
use Rattle.theory.proofs.Table.{table_cluster, table_edge}
use Rattle.pruning.proofs.Links.{edges_counted}
use Rattle.growth.specs.Refreshed.{dues_after}
use Rattle.theory.specs.Clusters.Slot.{inside}
use Rattle.theory.specs.Due.{cluster_due}
use Rattle.growth.proofs.Numbered.{of_cluster, of_edge}
use Rattle.growth.proofs.Catching.{none_beyond}
use Rattle.growth.proofs.snapshot.Snapshot.due.Goals as goal

pub returns-in-Deactivated : goal.returns-in-Deactivated
returns-in-Deactivated c =
    let net = net_of c.args.self.now.network.now in
    let st = grow net c.args.self.now.tables.now.steps in
    let h = of_cluster c.args.number c.in-Deactivated.cluster c.in-Deactivated.ensures in
    c.cluster_due.ensures ∙ ap (λ k. cluster_due net st.time (get_or st.slots k inside)) h.1 ∙ sym (table_cluster net st.time st.slots c.args.number h.0)

pub returns-then-edge-edges : goal.returns-then-edge-edges
returns-then-edge-edges c =
    let n = c.args.self.now.network.now in
    let net = net_of n in
    let st = grow net c.args.self.now.tables.now.steps in
    let h = of_edge c.args.number c.in-Merged.edge c.in-Merged.ensures in
    let count = edges_counted net c.edges.result.now c.edges.ensures in
    let beyond = c.if-edge-edges.true in
    sym (none_beyond net (fine net n.valid) st.time st.slots c.args.number h.0 (omega arith))

pub returns-else-edge-edges : goal.returns-else-edge-edges
returns-else-edge-edges c =
    let n = c.args.self.now.network.now in
    let net = net_of n in
    let st = grow net c.args.self.now.tables.now.steps in
    let number = c.args.number in
    let edge = c.in-Merged.edge in
    let few = (fine net n.valid).few_edges in
    let count = edges_counted net c.edges.result.now c.edges.ensures in
    let l = c.if-edge-edges.false in
    let h = of_edge number edge c.in-Merged.ensures in
    let at : 511 + edge ≡ number = omega arith in
    c.edge_due.ensures ∙ sym (table_edge net st.time st.slots edge (omega arith)) ∙ ap (λ j. get_or (dues_after net c.args.self.now.tables.now.steps) j None) at
