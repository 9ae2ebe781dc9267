-- Inner moats and doubled prizes, from tables that show a state of growth.
use Rattle.std.proofs.Common.{◌≡◌, ℕ, zero, suc, ◌+◌, ◌-◌, ◌^◌, ◌<◌, ◌≤◌, true, false, cond, eqb, List, length, get_or, Some, None, Option, sym, refl, ap, ◌∙◌, ⊎_elim, arith}
use Rattle.std.proofs.lemmas.Bool.{cases_lt, cond-true, cond-false}
use Rattle.network.specs.Nets.{Net}
use Rattle.theory.specs.Nets.{node_count, doubled_prize}
use Rattle.theory.specs.Clusters.{Slot, Every, Deep, cluster_active, moat, over, inner}
use Rattle.theory.specs.Clusters as theory
use Rattle.theory.specs.Clusters.Slot.{maximal, inside}
use Rattle.theory.specs.Due.{slot_active, active_at, surplus, cluster_due}
use Rattle.theory.specs.Numbers.{cluster_of, parts_of, moat_of, inner_of, told}
use Rattle.theory.specs.Growth.{State}
use Rattle.theory.specs.ByNumber.{Parted, Formed}
use Rattle.theory.specs.Laws.{Small, most_prizes}
use Rattle.theory.proofs.Inside.{deep_inside}
use Rattle.theory.proofs.Numbers.{cluster_of_in}
use Rattle.theory.proofs.Slots.{maximal_below, maximal_all}
use Rattle.theory.proofs.Sums.{sum_to_same}
use Rattle.growth.specs.Moats.{Falls, reach, parts_at, moat_at, inner_moats}
use Rattle.growth.specs.Shown.{ShowsAll}
use Rattle.growth.specs.Sums.{prizes_in}
use Rattle.growth.specs.declared.tables.Tables.{Tables}
use Rattle.growth.proofs.Levels.{inner_moats_parts}

-- what holds of every cluster holds of the one of a number
every_of : (P : theory.Cluster → Type 0) (ts : List Slot) (c : ℕ) (u : theory.Cluster) → Every P ts → cluster_of ts c ≡ Some u → P u
every_of P ts c u all e = let i = cluster_of_in ts c u e in deep_inside P i.3 (maximal_all (Deep P) ts i.0 i.1 all i.2)

parted_falls : (ts : List Slot) (n c : ℕ) (o : Option (ℕ × ℕ)) → Parted ts n c o → reach o ≤ c
parted_falls ts n c None h = omega arith
parted_falls ts n c (Some p) h = let a = h.0 in let b = h.1 in omega arith

-- a slot that is not active has no due time; an active one has a maximal cluster
pub idle_due : (net : Net) (time : ℕ) (x : Slot) → slot_active x ≡ false → cluster_due net time x ≡ None
idle_due net time inside h = refl
idle_due net time (maximal u) h = cond-false (cluster_active u) (Some (time + surplus net u)) None h

active_due : (net : Net) (time : ℕ) (x : Slot) → slot_active x ≡ true → (u : theory.Cluster) × (x ≡ maximal u) × (cluster_due net time x ≡ Some (time + surplus net u))
active_due net time inside h = let z : ◌≡◌ {A = ℕ} 0 1 = cc in absurd (omega arith)
active_due net time (maximal u) h = (u, refl, cond-true (cluster_active u) (Some (time + surplus net u)) None h)

-- the doubled prizes of the nodes that the tables have in cluster c
abbrev pub prizes_of : Net → Tables → ℕ → ℕ
prizes_of net t c = prizes_in net.prizes t.nodes.list c (node_count net)

-- an active maximal cluster, from the tables: its surplus is not below 0, and its due time fits
pub record Running (net : Net) (t : Tables) (st : State) (c : ℕ) : Type 0 where
  pub formed : c < length st.slots
  pub within : inner_moats t.family.clusters c ≤ prizes_of net t c
  pub fits : t.time + (prizes_of net t c - inner_moats t.family.clusters c) < 2 ^ 64
  pub due : cluster_due net st.time (get_or st.slots c inside) ≡ Some (t.time + (prizes_of net t c - inner_moats t.family.clusters c))

module _ (net : Net) (t : Tables) (st : State) (formed : Formed (node_count net) st.slots) (shows : ShowsAll net t st) where
  parts_shown : (c : ℕ) → c < length st.slots → parts_at t.family.clusters c ≡ parts_of st.slots c
  parts_shown c l = ap (λ r. r.parts) (shows.shown.records c l)

  parts_past : (c : ℕ) → length st.slots ≤ c → parts_at t.family.clusters c ≡ None
  parts_past c l = ap (λ r. r.parts) (shows.vacants c l)

  pub falls_shown : Falls t.family.clusters
  falls_shown c = ⊎_elim
      (λ l. let e = ap reach (parts_shown c l) in let h = parted_falls st.slots (node_count net) c (parts_of st.slots c) (formed.parted c l) in omega arith)
      (λ l. let e = ap reach (parts_past c l) in omega arith)
      (cases_lt c (length st.slots))

  -- by the parts, whose numbers are lower
  inner_below : (n c : ℕ) → c < n → c < length st.slots → inner_moats t.family.clusters c ≡ inner_of st.slots c
  inner_below zero c b l = absurd (omega arith)
  inner_below (suc n) c b l = by (parts_of st.slots c) (parts_shown c l) (formed.parted c l) (λ a h. inner_below n a (omega arith) (omega arith))
    where
      own : moat_at t.family.clusters c ≡ moat_of st.slots c
      own = ap (λ r. r.moat) (shows.shown.records c l)

      by : (o : Option (ℕ × ℕ)) → parts_at t.family.clusters c ≡ o → Parted st.slots (node_count net) c o →
          ((a : ℕ) → a < c → inner_moats t.family.clusters a ≡ inner_of st.slots a) → inner_moats t.family.clusters c ≡ inner_of st.slots c
      by None e h ih = inner_moats_parts t.family.clusters falls_shown c None e ∙ own ∙ sym h.1
      by (Some p) e h ih =
          let k = inner_moats_parts t.family.clusters falls_shown c (Some p) e in
          let a = ih p.0 h.0 in
          let d = ih p.1 h.1 in
          let m = own in
          let w = h.2 in
          omega arith

  inner_shown : (c : ℕ) → c < length st.slots → inner_moats t.family.clusters c ≡ inner_of st.slots c
  inner_shown c l = inner_below (c + 1) c (omega arith) l

  prizes_shown : (c : ℕ) (u : theory.Cluster) → get_or st.slots c inside ≡ maximal u → prizes_of net t c ≡ over (doubled_prize net) u
  prizes_shown c u e =
      sum_to_same (node_count net) _ _ (λ v l. ap (λ k. cond (eqb k c) (doubled_prize net v) 0) (shows.shown.memberships v l))
      ∙ sym (formed.sums c u e (doubled_prize net))

  module _ (small : Small net st) where
    bounds : (c : ℕ) (u : theory.Cluster) → cluster_of st.slots c ≡ Some u → (moat u ≤ inner u) × (inner u ≤ over (doubled_prize net) u) × (over (doubled_prize net) u ≤ most_prizes)
    bounds c u e = every_of (λ w. (moat w ≤ inner w) × (inner w ≤ over (doubled_prize net) w) × (over (doubled_prize net) w ≤ most_prizes)) st.slots c u small.inners e

    pub inner_fits : (c : ℕ) → inner_moats t.family.clusters c < 2 ^ 64
    inner_fits c = ⊎_elim
        (λ l.
        let f = formed.clusters c l in
        let b = bounds c f.0 f.1 in
        let e = inner_shown c l in
        let i = ap (told inner 0) f.1 in
        omega arith)
        (λ l.
        let e = inner_moats_parts t.family.clusters falls_shown c None (parts_past c l) in
        let m = ap (λ r. r.moat) (shows.vacants c l) in
        omega arith)
        (cases_lt c (length st.slots))

    pub running : (c : ℕ) → active_at st.slots c ≡ true → Running net t st c
    running c h =
        let f = active_due net st.time (get_or st.slots c inside) h in
        let u = f.0 in
        let l = maximal_below st.slots c u f.1 in
        let at = formed.shown c u f.1 in
        let b = bounds c u at in
        let i : inner_moats t.family.clusters c ≡ inner u = inner_shown c l ∙ ap (told inner 0) at in
        let p = prizes_shown c u f.1 in
        let now = shows.shown.time in
        let time = small.time in
        let same : st.time + surplus net u ≡ t.time + (prizes_of net t c - inner_moats t.family.clusters c) = omega arith in
        record { formed = l; within = omega arith; fits = omega arith; due = f.2 ∙ ap Some same }
