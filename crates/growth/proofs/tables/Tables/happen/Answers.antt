use Rattle.std.proofs.Common.{◌≡◌, ℕ, ◌+◌, ◌<◌, map, length, set, sym, refl, ap, ◌∙◌, subst, arith}
use Rattle.network.specs.Networks.{net_of}
use Rattle.theory.specs.Nets.{node_count, edge_count, first_end, second_end}
use Rattle.theory.specs.Growth.{grow}
use Rattle.theory.proofs.Valid.{fine}
use Rattle.growth.specs.Records.{inactivated, at_record, merged_records}
use Rattle.growth.specs.NodeTables.{moved, cluster_at}
use Rattle.growth.specs.Events.{Passed}
use Rattle.growth.specs.declared.tables.Tables.{Tables}
use Rattle.growth.proofs.Entries.{number_below, edge_known}
use Rattle.growth.proofs.Fitting.{steps_small, later, moats_fit, depths_fit, total_fits, room, first_is, second_is, first_below, second_below}
use Rattle.growth.proofs.Numbered.{of_cluster, of_edge}
use Rattle.growth.proofs.Happening.{shows_deactivated, shows_merged}
use Rattle.growth.proofs.tables.Tables.happen.Goals as goal

pub pass-requires : goal.pass-requires
pass-requires c =
    let n = c.args.network.now in
    let net = net_of n in
    let t = c.args.self.now in
    let k = t.steps in
    let shows = c.requires.shown in
    let same : length c.prizes.result.now ≡ node_count net = ap length c.prizes.ensures in
    let few = (fine net n.valid).few_nodes in
    let s = steps_small net n.valid k t shows in
    record {
      few = omega arith;
      later = later net n.valid k t shows c.args.time c.args.number c.requires.going c.requires.first;
      moats = moats_fit net n.valid k t shows c.args.time c.args.number c.requires.going c.requires.first;
      depths = λ w l. depths_fit net n.valid k t shows c.args.time c.args.number c.requires.going c.requires.first w (omega arith);
      total = total_fits net n.valid k t shows c.args.time c.args.number c.requires.going c.requires.first;
      steps = omega arith;
    }

passes : (n m : ℕ) (to : ℕ) (t u : Tables) → n ≡ m → Passed n to t u → Passed m to t u
passes n m to t u e p = subst (λ x. Passed x to t u) e p

pub returns-in-Deactivated : goal.returns-in-Deactivated
returns-in-Deactivated c =
    let h = of_cluster c.args.number c.in-Deactivated.cluster c.in-Deactivated.ensures in
    let n = c.args.network.now in
    let net = net_of n in
    let t = c.args.self.now in
    shows_deactivated net n.valid t.steps c.args.time c.args.number c.requires.going c.requires.first t c.pass.new.self _ c.requires.shown
    (passes _ (node_count net) c.args.time t c.pass.new.self (ap length c.prizes.ensures) c.pass.ensures)
    h.0 (c.deactivate.ensures.clusters ∙ ap (at_record inactivated c.pass.new.self.family.clusters) h.1) c.deactivate.ensures.formed refl refl refl refl refl

pub edge_at-ends-requires : goal.edge_at-ends-requires
edge_at-ends-requires c =
    let h = of_edge c.args.number c.in-Merged.edge c.in-Merged.ensures in
    let n = c.args.network.now in
    let st = grow (net_of n) c.args.self.now.steps in
    subst (λ e. e < edge_count (net_of n)) (sym h.1) (edge_known (net_of n) (fine (net_of n) n.valid) st.time st.slots c.args.time c.args.number c.requires.first h.0)

pub bounds-self-ends-in-Merged : goal.bounds-self-ends-in-Merged
bounds-self-ends-in-Merged c = omega (arith, c.edge_at-ends.ensures.within)

-- a node's maximal cluster, as the table has it after time has passed
after_passing : (n to : ℕ) (t m : Tables) → Passed n to t m → (v w d : ℕ) → v ≡ w → cluster_at t.nodes.list w ≡ d → cluster_at m.nodes.list v ≡ d
after_passing n to t m p v w d e is = ap (cluster_at m.nodes.list) e ∙ p.memberships w ∙ is

pub merge-new-requires : goal.merge-new-requires
merge-new-requires c =
    let n = c.args.network.now in
    let net = net_of n in
    let t = c.args.self.now in
    let h = of_edge c.args.number c.in-Merged.edge c.in-Merged.ensures in
    let high = h.0 in
    let a = after_passing _ c.args.time t c.pass.new.self c.pass.ensures c.edge_at-ends.result.first _ _ (c.edge_at-ends.ensures.first ∙ ap (first_end net) h.1) (first_is net n.valid t.steps t c.requires.shown c.args.time c.args.number c.requires.going c.requires.first high) in
    let b = after_passing _ c.args.time t c.pass.new.self c.pass.ensures c.edge_at-ends.result.second _ _ (c.edge_at-ends.ensures.second ∙ ap (second_end net) h.1) (second_is net n.valid t.steps t c.requires.shown c.args.time c.args.number c.requires.going c.requires.first high) in
    let la = first_below net n.valid t.steps t c.requires.shown c.args.time c.args.number c.requires.going c.requires.first high in
    let lb = second_below net n.valid t.steps t c.requires.shown c.args.time c.args.number c.requires.going c.requires.first high in
    let free = room net n.valid t.steps t c.requires.shown c.args.time c.args.number c.requires.going c.requires.first high in
    let count = c.requires.shown.shown.count in
    (omega arith, omega arith, omega (arith, c.pass.ensures.formed))

pub bounds-self-edge : goal.bounds-self-edge
bounds-self-edge c =
    let h = of_edge c.args.number c.in-Merged.edge c.in-Merged.ensures in
    let n = c.args.network.now in
    let st = grow (net_of n) c.args.self.now.steps in
    let a = number_below (net_of n) (fine (net_of n) n.valid) st.time st.slots c.args.time c.args.number c.requires.first in
    omega arith

pub returns-in-Merged : goal.returns-in-Merged
returns-in-Merged c =
    let n = c.args.network.now in
    let net = net_of n in
    let t = c.args.self.now in
    let m = c.pass.new.self in
    let h = of_edge c.args.number c.in-Merged.edge c.in-Merged.ensures in
    let high = h.0 in
    let first = cluster_at m.nodes.list c.edge_at-ends.result.first in
    let second = cluster_at m.nodes.list c.edge_at-ends.result.second in
    let a = after_passing _ c.args.time t m c.pass.ensures c.edge_at-ends.result.first _ _ (c.edge_at-ends.ensures.first ∙ ap (first_end net) h.1) (first_is net n.valid t.steps t c.requires.shown c.args.time c.args.number c.requires.going c.requires.first high) in
    let b = after_passing _ c.args.time t m c.pass.ensures c.edge_at-ends.result.second _ _ (c.edge_at-ends.ensures.second ∙ ap (second_end net) h.1) (second_is net n.valid t.steps t c.requires.shown c.args.time c.args.number c.requires.going c.requires.first high) in
    let count : m.family.formed ≡ length (grow net t.steps).slots = c.pass.ensures.formed ∙ c.requires.shown.shown.count in
    shows_merged net n.valid t.steps c.args.time c.args.number c.requires.going c.requires.first t m _ c.requires.shown
    (passes _ (node_count net) c.args.time t m (ap length c.prizes.ensures) c.pass.ensures)
    high
    (room net n.valid t.steps t c.requires.shown c.args.time c.args.number c.requires.going c.requires.first high)
    (c.merge-new.ensures.clusters ∙ λ i. merged_records m.family.clusters (count i) (a i) (b i))
    (c.merge-new.ensures.formed ∙ ap (λ x. x + 1) count)
    (c.regroup.ensures ∙ λ i. map (moved (a i) (b i) ((c.merge-new.ensures.number ∙ count) i)) m.nodes.list)
    (ap (λ e. set m.chosen.marks e 1) h.1) refl refl refl
