-- One step of growth, seen from the earliest due time: how far time moves, that it may, and what happens then.
use Rattle.std.proofs.Common.{◌≡◌, ℕ, ◌+◌, ◌-◌, ◌*◌, ◌/◌, ◌%◌, ◌<◌, ◌≤◌, Bool, true, false, cond, ltb, ◌≢◌, List, get_or, Some, None, Option, sym, refl, ap, ◌∙◌, subst, inl, inr, mul-le-mul_left, arith}
use Rattle.std.proofs.lemmas.Bool.{cases_Bool, cases_eq, cases_lt, cond-true, cond-false, both_ways, lt-ltb, le-ltb}
use Rattle.network.specs.Nets.{Net}
use Rattle.theory.specs.Sums.{one, differ}
use Rattle.theory.specs.Nets.{node_count, edge_count, first_end, second_end, doubled_prize, doubled_cost}
use Rattle.theory.specs.Clusters.{Cluster, Slot, cluster_active, holds, over, inner, splits, Deep, over_maximal, depth, load}
use Rattle.theory.specs.Clusters.Slot.{maximal, inside}
use Rattle.theory.specs.Due.{surplus, slack, maximal_of, cluster_due, slack_due, edge_due, due_times}
use Rattle.theory.specs.Growth.{widen, pass, deactivate, merge, happen}
use Rattle.theory.proofs.Bools.{one_true, one_false, same_true, same_false}
use Rattle.theory.proofs.Families.{maximal_plus, maximal_le, deep_head}
use Rattle.theory.proofs.Slots.{maximal_below, maximal_all, maximal_at, all_maximal, pass_maximal, widen_holds, widen_over, widen_inner, widen_active}
use Rattle.theory.proofs.Sharing.{apart, its_maximal, lone_sum, depth_in, load_between}
use Rattle.theory.proofs.Invariant.{Made, Sits, Inv, May, load_rate, inv_pass, inv_deactivate, widen_dep}
use Rattle.theory.proofs.Merging.{inv_merge}
use Rattle.theory.proofs.Valid.{Fine}
use Rattle.theory.proofs.Table.{table_cluster, table_edge, table_past, maximal_of_is, edge_due_is, edge_due_none}

-- the ends of an edge with their maximal clusters
pub record Ends (net : Net) (ts : List Slot) (s : ℕ) : Type 0 where
  pub p : ℕ
  pub l : Cluster
  pub pl : get_or ts p inside ≡ maximal l
  pub la : holds l (first_end net s) ≡ true
  pub q : ℕ
  pub r : Cluster
  pub qr : get_or ts q inside ≡ maximal r
  pub rb : holds r (second_end net s) ≡ true

pub ends_of : (net : Net) → Fine net → (time : ℕ) (ts : List Slot) → Inv net time ts → (s : ℕ) → s < edge_count net → Ends net ts s
ends_of net f time ts h s l =
    let a = its_maximal (node_count net) ts h.shared (first_end net s) (f.firsts s l) in
    let b = its_maximal (node_count net) ts h.shared (second_end net s) (f.seconds s l) in
    record { p = a.0; l = a.1; pl = a.2; la = a.3; q = b.0; r = b.1; qr = b.2; rb = b.3 }

-- what the earliest entry of a table says
abbrev First : List (Option ℕ) → ℕ → ℕ → Type 0
First table t k = (get_or table k None ≡ Some t) × ((j s : ℕ) → get_or table j None ≡ Some s → t ≤ s)

-- an event, d after the state ts
pub data Event (net : Net) (ts : List Slot) (d : ℕ) (us : List Slot) : Type 0 where
  deactivates : (c : ℕ) (t : Cluster) → get_or ts c inside ≡ maximal t → cluster_active t ≡ true → over (doubled_prize net) t ≡ inner t + d → us ≡ deactivate (pass d ts) c → Event net ts d us
  merges : (e : ℕ) (x : Ends net ts e) → x.p ≢ x.q → e < edge_count net → (cluster_active x.l ≡ false → cluster_active x.r ≡ false → ⊥) →
      doubled_cost net e ≡ depth ts (first_end net e) + depth ts (second_end net e) + (cond (cluster_active x.l) d 0 + cond (cluster_active x.r) d 0) → us ≡ merge (pass d ts) x.p x.q e → Event net ts d us

-- an event is the one of an entry's number
abbrev pub Under : {net : Net} {ts : List Slot} {d : ℕ} {us : List Slot} → ℕ → Event net ts d us → Type 0
Under k (deactivates c t e g tight is) = (k < 511) × (c ≡ k)
Under k (merges e x ne known some-active tight is) = (511 ≤ k) × (e ≡ k - 511)

same_some : (x y : ℕ) → ◌≡◌ {A = Option ℕ} (Some x) (Some y) → x ≡ y
same_some x y e = cc

pub not_some : (x : ℕ) → ◌≡◌ {A = Option ℕ} None (Some x) → ⊥
not_some x e = let z : ◌≡◌ {A = ℕ} 0 1 = cc in omega arith

-- a cluster's entry
pub due_cluster : (net : Net) (time : ℕ) (x : Slot) (t : ℕ) → cluster_due net time x ≡ Some t → (u : Cluster) × (x ≡ maximal u) × (cluster_active u ≡ true) × (t ≡ time + surplus net u)
due_cluster net time inside t e = absurd (not_some t e)
due_cluster net time (maximal u) t e = elim (cases_Bool (cluster_active u)) [
  | inl k ↦ (u, refl, k, same_some t (time + surplus net u) (sym e ∙ cond-true (cluster_active u) (Some (time + surplus net u)) None k))
  | inr k ↦ absurd (not_some t (sym (cond-false (cluster_active u) (Some (time + surplus net u)) None k) ∙ e))
]

-- an edge's entry: how much later, and how fast its slack runs out
pub data Meeting (a b : Bool) (time left t : ℕ) : Type 0 where
  both_active : a ≡ true → b ≡ true → t ≡ time + left / 2 → Meeting a b time left t
  first_active : a ≡ true → b ≡ false → t ≡ time + left → Meeting a b time left t
  second_active : a ≡ false → b ≡ true → t ≡ time + left → Meeting a b time left t

pub meeting : (a b : Bool) (time left t : ℕ) → slack_due a b time left ≡ Some t → Meeting a b time left t
meeting true true time left t e = both_active refl refl (same_some t (time + left / 2) (sym e))
meeting true false time left t e = first_active refl refl (same_some t (time + left) (sym e))
meeting false true time left t e = second_active refl refl (same_some t (time + left) (sym e))
meeting false false time left t e = absurd (not_some t e)

module _ (net : Net) (f : Fine net) (time : ℕ) (ts : List Slot) (h : Inv net time ts) where
  pub owned : (c : ℕ) (t : Cluster) → get_or ts c inside ≡ maximal t → inner t ≤ over (doubled_prize net) t
  owned c t e = (deep_head (Made net) t (maximal_all (Deep (Made net)) ts c t h.made e)).0

  pub sits : (c : ℕ) (t : Cluster) → get_or ts c inside ≡ maximal t → Sits time t
  sits c t e = maximal_all (Sits time) ts c t h.sits e

  -- every maximal cluster's number has an entry
  pub below_511 : (c : ℕ) (t : Cluster) → get_or ts c inside ≡ maximal t → c < 511
  below_511 c t e =
      let a = maximal_below ts c t e in
      let b = maximal_at (λ u. 1) ts c t e in
      let k = h.sized in
      let m = f.few_nodes in
      omega arith

  pub edge_depths : (s : ℕ) → s < edge_count net → (x : Ends net ts s) → x.p ≢ x.q → depth ts (first_end net s) + depth ts (second_end net s) ≤ doubled_cost net s
  edge_depths s l x ne =
      let a = load_between (node_count net) net ts h.shared s x.p x.q x.l x.r x.pl x.qr ne x.la x.rb in
      let b = h.loads s l in
      omega arith

  -- with both active the slack is even
  pub even_slack : (s : ℕ) → s < edge_count net → (x : Ends net ts s) → x.p ≢ x.q → cluster_active x.l ≡ true → cluster_active x.r ≡ true → slack net ts s % 2 ≡ 0
  even_slack s l x ne a b =
      let u = (sits x.p x.l x.pl).deepest a in
      let v = (sits x.q x.r x.qr).deepest b in
      let i = (sits x.p x.l x.pl).even u.0 (first_end net s) u.1 x.la in
      let j = (sits x.q x.r x.qr).even v.0 (second_end net s) v.1 x.rb in
      let y = depth_in (node_count net) ts h.shared x.p x.l (first_end net s) x.pl x.la in
      let z = depth_in (node_count net) ts h.shared x.q x.r (second_end net s) x.qr x.rb in
      let k = edge_depths s l x ne in
      let u₂ = u.2 in
      let v₂ = v.2 in
      let w : slack net ts s % 2 ≡ 0 = omega arith in w

  -- how fast an edge fills: by the maximal clusters of its ends
  splits_le : (x y : Bool) → one (differ x y) ≤ one x + one y
  splits_le true true = omega arith
  splits_le true false = omega arith
  splits_le false true = omega arith
  splits_le false false = omega arith

  pub active_holding : (c : ℕ) (t : Cluster) (v : ℕ) → get_or ts c inside ≡ maximal t → holds t v ≡ true → over_maximal (λ u. cond (cluster_active u) (one (holds u v)) 0) ts ≡ cond (cluster_active t) 1 0
  active_holding c t v e k =
      lone_sum (λ u. cond (cluster_active u) (one (holds u v)) 0) ts c t e
      (λ d u g ne. nothing (cluster_active u) (one (holds u v)) (one_false (holds u v) (apart (node_count net) ts h.shared c d t u v e g (λ x. ne (sym x)) k)))
      ∙ ap (λ z. cond (cluster_active t) z 0) (one_true (holds t v) k)
    where
      nothing : (b : Bool) (z : ℕ) → z ≡ 0 → cond b z 0 ≡ 0
      nothing true z g = g
      nothing false z g = refl

  rate_le : (s : ℕ) (x : Ends net ts s) → load_rate net ts s ≤ cond (cluster_active x.l) 1 0 + cond (cluster_active x.r) 1 0
  rate_le s x =
      let a = first_end net s in
      let b = second_end net s in
      let A : Cluster → ℕ = λ u. cond (cluster_active u) (one (holds u a)) 0 in
      let B : Cluster → ℕ = λ u. cond (cluster_active u) (one (holds u b)) 0 in
      let i = maximal_le (λ u. Unit {0}) (λ u. cond (cluster_active u) (one (splits u a b)) 0) (λ u. A u + B u) (λ u z. each (cluster_active u) (one (splits u a b)) (one (holds u a)) (one (holds u b)) (splits_le (holds u a) (holds u b))) ts (all_maximal (λ u. Unit {0}) ts (λ c t e. tt)) in
      let j = maximal_plus A B ts in
      let k = active_holding x.p x.l a x.pl x.la in
      let m = active_holding x.q x.r b x.qr x.rb in
      omega arith
    where
      each : (b : Bool) (x y z : ℕ) → x ≤ y + z → cond b x 0 ≤ cond b y 0 + cond b z 0
      each true x y z g = g
      each false x y z g = omega arith

  -- an edge inside one maximal cluster does not fill
  rate_none : (s : ℕ) (x : Ends net ts s) → x.p ≡ x.q → load_rate net ts s ≡ 0
  rate_none s x e = lone_sum (λ u. cond (cluster_active u) (one (splits u a b)) 0) ts x.p x.l x.pl
      (λ d u g ne. nothing (cluster_active u) (splits u a b) (same_false (holds u a) (holds u b) (out a x.la d u g ne) (out b l_b d u g ne)))
      ∙ nothing (cluster_active x.l) (splits x.l a b) (same_true (holds x.l a) (holds x.l b) x.la l_b)
    where
      a : ℕ
      a = first_end net s

      b : ℕ
      b = second_end net s

      l_b : holds x.l b ≡ true
      l_b = let g : maximal x.r ≡ maximal x.l = sym x.qr ∙ ap (λ c. get_or ts c inside) (sym e) ∙ x.pl in subst (λ y. slot_has y ≡ true) g x.rb
        where
          slot_has : Slot → Bool
          slot_has (maximal t) = holds t b
          slot_has inside = false

      out : (v : ℕ) → holds x.l v ≡ true → (d : ℕ) (u : Cluster) → get_or ts d inside ≡ maximal u → d ≢ x.p → holds u v ≡ false
      out v k d u g ne = apart (node_count net) ts h.shared x.p d x.l u v x.pl g (λ z. ne (sym z)) k

      nothing : (c z : Bool) → z ≡ false → cond c (one z) 0 ≡ 0
      nothing true z g = one_false z g
      nothing false z g = refl

  module _ (t k : ℕ) (first : First (due_times net time ts) t k) where
    -- time may move to the earliest entry
    pub may : May net (t - time) ts
    may = record { edges = edges; clusters = clusters }
      where
        clusters : (c : ℕ) (u : Cluster) → get_or ts c inside ≡ maximal u → cluster_active u ≡ true → inner u + (t - time) ≤ over (doubled_prize net) u
        clusters c u e g =
            let a = first.1 c (time + surplus net u) (table_cluster net time ts c (below_511 c u e) ∙ ap (cluster_due net time) e ∙ cond-true (cluster_active u) (Some (time + surplus net u)) None g) in
            let b = owned c u e in
            omega arith

        between : (s : ℕ) → s < edge_count net → (x : Ends net ts s) → x.p ≢ x.q → load net ts s + (t - time) * load_rate net ts s ≤ doubled_cost net s
        between s l x ne =
            let m = load_between (node_count net) net ts h.shared s x.p x.q x.l x.r x.pl x.qr ne x.la x.rb in
            let d = edge_depths s l x ne in
            let rate = mul-le-mul_left (t - time) (rate_le s x) in
            by (cluster_active x.l) (cluster_active x.r) refl refl m d rate
          where
            entry : (w : ℕ) → slack_due (cluster_active x.l) (cluster_active x.r) time (slack net ts s) ≡ Some w → t ≤ w
            entry w e = first.1 (511 + s) w (table_edge net time ts s (let z = f.few_edges in omega arith) ∙ edge_due_is (node_count net) ts h.shared net time s x.p x.q x.l x.r x.pl x.qr x.la x.rb ne ∙ e)

            by : (y z : Bool) → cluster_active x.l ≡ y → cluster_active x.r ≡ z → load net ts s ≡ depth ts (first_end net s) + depth ts (second_end net s) →
                depth ts (first_end net s) + depth ts (second_end net s) ≤ doubled_cost net s →
                (t - time) * load_rate net ts s ≤ (t - time) * (cond (cluster_active x.l) 1 0 + cond (cluster_active x.r) 1 0) →
                load net ts s + (t - time) * load_rate net ts s ≤ doubled_cost net s
            by true true i j m d rate =
                let w = entry (time + slack net ts s / 2) (ap (λ y. slack_due y (cluster_active x.r) time (slack net ts s)) i ∙ ap (λ z. slack_due true z time (slack net ts s)) j) in
                let r : (t - time) * (cond (cluster_active x.l) 1 0 + cond (cluster_active x.r) 1 0) ≡ (t - time) * 2 = ap (λ y. (t - time) * (cond y 1 0 + cond (cluster_active x.r) 1 0)) i ∙ ap (λ y. (t - time) * (1 + cond y 1 0)) j in
                omega arith
            by true false i j m d rate =
                let w = entry (time + slack net ts s) (ap (λ y. slack_due y (cluster_active x.r) time (slack net ts s)) i ∙ ap (λ z. slack_due true z time (slack net ts s)) j) in
                let r : (t - time) * (cond (cluster_active x.l) 1 0 + cond (cluster_active x.r) 1 0) ≡ (t - time) * 1 = ap (λ y. (t - time) * (cond y 1 0 + cond (cluster_active x.r) 1 0)) i ∙ ap (λ y. (t - time) * (1 + cond y 1 0)) j in
                omega arith
            by false true i j m d rate =
                let w = entry (time + slack net ts s) (ap (λ y. slack_due y (cluster_active x.r) time (slack net ts s)) i ∙ ap (λ z. slack_due false z time (slack net ts s)) j) in
                let r : (t - time) * (cond (cluster_active x.l) 1 0 + cond (cluster_active x.r) 1 0) ≡ (t - time) * 1 = ap (λ y. (t - time) * (cond y 1 0 + cond (cluster_active x.r) 1 0)) i ∙ ap (λ y. (t - time) * (0 + cond y 1 0)) j in
                omega arith
            by false false i j m d rate =
                let r : (t - time) * (cond (cluster_active x.l) 1 0 + cond (cluster_active x.r) 1 0) ≡ (t - time) * 0 = ap (λ y. (t - time) * (cond y 1 0 + cond (cluster_active x.r) 1 0)) i ∙ ap (λ y. (t - time) * (0 + cond y 1 0)) j in
                omega arith

        edges : (s : ℕ) → s < edge_count net → load net ts s + (t - time) * load_rate net ts s ≤ doubled_cost net s
        edges s l =
            let x = ends_of net f time ts h s l in
            elim (cases_eq x.p x.q) [
              | inl e ↦ let z : (t - time) * load_rate net ts s ≡ (t - time) * 0 = ap (λ y. (t - time) * y) (rate_none s x e) in let b = h.loads s l in omega arith
              | inr ne ↦ between s l x ne
            ]

    -- the event's time is not before the present one
    pub record Happens : Type 0 where
      pub later : time ≤ t
      pub event : Event net ts (t - time) (happen (ltb k 511) net (pass (t - time) ts) k)
      pub under : Under k event

    pub happens : Happens
    happens = elim (cases_lt k 511) [
      | inl l ↦ cluster l (due_cluster net time (get_or ts k inside) t (sym (table_cluster net time ts k l) ∙ first.0))
      | inr l ↦ elim (cases_lt k 1535) [
        | inl l' ↦ edge l (sym (table_edge net time ts (k - 511) (omega arith)) ∙ ap (λ j. get_or (due_times net time ts) j None) (let z : 511 + (k - 511) ≡ k = omega arith in z) ∙ first.0)
        | inr l' ↦ absurd (not_some t (sym (table_past net time ts k l') ∙ first.0))
      ]
    ]
      where
        cluster : k < 511 → (u : Cluster) × (get_or ts k inside ≡ maximal u) × (cluster_active u ≡ true) × (t ≡ time + surplus net u) → Happens
        cluster l (u, e, g, at) = record {
          later = omega arith;
          event = deactivates k u e g (let b = owned k u e in omega arith) (ap (λ b. happen b net (pass (t - time) ts) k) (lt-ltb k 511 l));
          under = (l, refl);
        }

        s : ℕ
        s = k - 511

        edge : 511 ≤ k → edge_due net time ts s ≡ Some t → Happens
        edge l e = elim (cases_lt s (edge_count net)) [
          | inr past ↦ absurd (not_some t (sym (edge_due_none net time ts s (ap (maximal_of ts) (f.unknown s past))) ∙ e))
          | inl known ↦ go known (ends_of net f time ts h s known)
        ]
          where
            go : s < edge_count net → Ends net ts s → Happens
            go known x = elim (cases_eq x.p x.q) [
              | inl same ↦ absurd (not_some t (sym (edge_due_none net time ts s (at_p ∙ same ∙ sym at_q)) ∙ e))
              | inr ne ↦ meets_at ne (meeting (cluster_active x.l) (cluster_active x.r) time (slack net ts s) t (sym (edge_due_is (node_count net) ts h.shared net time s x.p x.q x.l x.r x.pl x.qr x.la x.rb ne) ∙ e))
            ]
              where
                at_p : maximal_of ts (first_end net s) ≡ x.p
                at_p = maximal_of_is (node_count net) ts h.shared x.p x.l (first_end net s) x.pl x.la

                at_q : maximal_of ts (second_end net s) ≡ x.q
                at_q = maximal_of_is (node_count net) ts h.shared x.q x.r (second_end net s) x.qr x.rb

                us : List Slot
                us = pass (t - time) ts

                next : Inv net (time + (t - time)) us
                next = inv_pass net time (t - time) ts h may

                becomes : happen (ltb k 511) net us k ≡ merge us x.p x.q s
                becomes =
                    ap (λ b. happen b net us k) (le-ltb k 511 l)
                    ∙ ap (λ c. merge us c (maximal_of us (second_end net s)) s) (maximal_of_is (node_count net) us next.shared x.p (widen (t - time) x.l) (first_end net s) (pass_maximal (t - time) ts x.p x.l x.pl) (widen_holds (t - time) x.l (first_end net s) ∙ x.la))
                    ∙ ap (λ c. merge us x.p c s) (maximal_of_is (node_count net) us next.shared x.q (widen (t - time) x.r) (second_end net s) (pass_maximal (t - time) ts x.q x.r x.qr) (widen_holds (t - time) x.r (second_end net s) ∙ x.rb))

                meets_at : x.p ≢ x.q → Meeting (cluster_active x.l) (cluster_active x.r) time (slack net ts s) t → Happens
                meets_at ne (both_active a b at) =
                    let d = edge_depths s known x ne in
                    let v = even_slack s known x ne a b in
                    let i = cond-true (cluster_active x.l) (t - time) 0 a in
                    let j = cond-true (cluster_active x.r) (t - time) 0 b in
                    record { later = omega arith; event = merges s x ne known (λ c g. both_ways (cluster_active x.l) c a) (omega arith) becomes; under = (l, refl) }
                meets_at ne (first_active a b at) =
                    let d = edge_depths s known x ne in
                    let i = cond-true (cluster_active x.l) (t - time) 0 a in
                    let j = cond-false (cluster_active x.r) (t - time) 0 b in
                    record { later = omega arith; event = merges s x ne known (λ c g. both_ways (cluster_active x.l) c a) (omega arith) becomes; under = (l, refl) }
                meets_at ne (second_active a b at) =
                    let d = edge_depths s known x ne in
                    let i = cond-false (cluster_active x.l) (t - time) 0 a in
                    let j = cond-true (cluster_active x.r) (t - time) 0 b in
                    record { later = omega arith; event = merges s x ne known (λ c g. both_ways (cluster_active x.r) g b) (omega arith) becomes; under = (l, refl) }

-- an event keeps what growth keeps
pub inv_event : (net : Net) (time d : ℕ) (ts us : List Slot) → Inv net time ts → May net d ts → Event net ts d us → Inv net (time + d) us
inv_event net time d ts us h m (deactivates c t e g tight is) =
    subst (Inv net (time + d)) (sym is) (inv_deactivate net (time + d) (pass d ts) c (widen d t) (inv_pass net time d ts h m) (pass_maximal d ts c t e)
    (let a = widen_over d (doubled_prize net) t in let b = widen_inner d t in let z = cond-true (cluster_active t) d 0 g in omega arith))
inv_event net time d ts us h m (merges e x ne known some-active tight is) =
    subst (Inv net (time + d)) (sym is) (inv_merge net (time + d) (pass d ts) x.p x.q e (widen d x.l) (widen d x.r) (inv_pass net time d ts h m)
    (pass_maximal d ts x.p x.l x.pl) (pass_maximal d ts x.q x.r x.qr) ne known
    (widen_holds d x.l (first_end net e) ∙ x.la) (widen_holds d x.r (second_end net e) ∙ x.rb)
    (λ i j. some-active (sym (widen_active d x.l) ∙ i) (sym (widen_active d x.r) ∙ j))
    (let a = widen_dep d x.l (first_end net e) x.la in let b = widen_dep d x.r (second_end net e) x.rb in
    let y = depth_in (node_count net) ts h.shared x.p x.l (first_end net e) x.pl x.la in
    let z = depth_in (node_count net) ts h.shared x.q x.r (second_end net e) x.qr x.rb in omega arith))
