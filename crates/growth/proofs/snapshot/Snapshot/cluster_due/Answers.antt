use Rattle.std.proofs.Common.{◌≡◌, ℕ, ◌+◌, ◌-◌, true, length, get_or, Some, sym, ap, ◌∙◌, arith}
use Rattle.network.specs.Networks.{net_of}
use Rattle.network.specs.declared.network.Network.{Network}
use Rattle.theory.specs.Clusters.Slot.{inside}
use Rattle.theory.specs.Growth.{grow}
use Rattle.theory.proofs.Laws.{formed_by_number, numbers_stay_small}
use Rattle.growth.specs.NodeTables.{grows_at}
use Rattle.growth.specs.Shown.{ShowsAll}
use Rattle.growth.specs.Sums.{prizes_in}
use Rattle.growth.specs.declared.tables.Tables.{Tables}
use Rattle.growth.proofs.Growing.{grows_shown}
use Rattle.growth.proofs.Surpluses.{Running, prizes_of, idle_due, falls_shown, inner_fits, running}
use Rattle.growth.proofs.snapshot.Snapshot.cluster_due.Goals as goal
use Rattle.growth.proofs.snapshot.Snapshot.cluster_due.Goals.{After-inner_moats-moats}

-- a cluster that grows, in the tables of a network
grown : (n : Network) (t : Tables) (c : ℕ) → ShowsAll (net_of n) t (grow (net_of n) t.steps) → grows_at t.family.clusters c ≡ true → Running (net_of n) t (grow (net_of n) t.steps) c
grown n t c shows h =
    let net = net_of n in
    let st = grow net t.steps in
    let formed = formed_by_number net n.valid t.steps in
    running net t st formed shows (numbers_stay_small net n.valid t.steps) c (sym (grows_shown net t st formed shows c) ∙ h)

pub returns-then-not-grows : goal.returns-then-not-grows
returns-then-not-grows c =
    let net = net_of c.args.self.now.network.now in
    let t = c.args.self.now.tables.now in
    let st = grow net t.steps in
    let formed = formed_by_number net c.args.self.now.network.now.valid t.steps in
    sym (idle_due net st.time (get_or st.slots c.args.c inside) (sym (grows_shown net t st formed c.args.self.now.shown c.args.c) ∙ sym c.grows.ensures ∙ c.if-not-grows.true))

pub inner_moats-moats-requires : goal.inner_moats-moats-requires
inner_moats-moats-requires c =
    let n = c.args.self.now.network.now in
    let net = net_of n in
    let t = c.args.self.now.tables.now in
    let st = grow net t.steps in
    let formed = formed_by_number net n.valid t.steps in
    let small = numbers_stay_small net n.valid t.steps in
    let g = grown n t c.args.c c.args.self.now.shown (sym c.grows.ensures ∙ c.if-not-grows.false) in
    let l = g.formed in
    let count = c.args.self.now.shown.shown.count in
    record { there = omega arith; falls = falls_shown net t st formed c.args.self.now.shown; fits = inner_fits net t st formed c.args.self.now.shown small }

-- what the two calls answer, in the network's words
prizes_are : (c : After-inner_moats-moats) → c.doubled_prizes-prizes.result ≡ prizes_of (net_of c.args.self.now.network.now) c.args.self.now.tables.now c.args.c
prizes_are c = c.doubled_prizes-prizes.ensures ∙ ap (λ ps. prizes_in ps c.args.self.now.tables.now.nodes.list c.args.c (length ps)) c.prizes.ensures

due : (c : After-inner_moats-moats) → Running (net_of c.args.self.now.network.now) c.args.self.now.tables.now (grow (net_of c.args.self.now.network.now) c.args.self.now.tables.now.steps) c.args.c
due c = grown c.args.self.now.network.now c.args.self.now.tables.now c.args.c c.args.self.now.shown (sym c.grows.ensures ∙ c.if-not-grows.false)

pub overflow_sub-result : goal.overflow_sub-result
overflow_sub-result c = let d = (goal.at.overflow_sub-result c).After-inner_moats-moats in let p = prizes_are d in let m = c.inner_moats-moats.ensures in omega (arith, (due d).within)

pub overflow_add-result : goal.overflow_add-result
overflow_add-result c = let d = (goal.at.overflow_add-result c).After-inner_moats-moats in let p = prizes_are d in let m = c.inner_moats-moats.ensures in omega (arith, (due d).fits)

pub returns : goal.returns
returns c = let d = (goal.at.returns c).After-inner_moats-moats in (λ i. Some (c.args.self.now.tables.now.time + (prizes_are d i - c.inner_moats-moats.ensures i))) ∙ sym (due d).due
