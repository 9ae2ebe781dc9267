-- Between two steps only the due times at the event's clusters change.
use Rattle.std.proofs.Common.{◌≡◌, ℕ, ◌+◌, ◌-◌, ◌/◌, ◌<◌, ◌≤◌, Bool, true, false, cond, eqb, ltb, ◌≢◌, List, [], ◌∷◌, length, get_or, Some, None, sym, refl, ap, ◌∙◌, subst, inl, inr, arith}
use Rattle.std.proofs.lemmas.Bool.{cases_eq, cases_lt, cond-true, cond-false, eq-eqb, both_ways, or_parts, lt-ltb, le-ltb}
use Rattle.std.proofs.lemmas.List.{get_or-set_other, get_or_past}
use Rattle.network.specs.Nets.{Net}
use Rattle.theory.specs.Nets.{node_count, edge_count, first_end, second_end, doubled_prize}
use Rattle.theory.specs.Clusters.{Cluster, Slot, cluster_active, holds, over, inner}
use Rattle.theory.specs.Clusters.Cluster.{merged}
use Rattle.theory.specs.Clusters.Slot.{maximal, inside}
use Rattle.theory.specs.Due.{earliest, surplus, slack, maximal_of, cluster_due, slack_due, edge_due, due_times, among, event_clusters}
use Rattle.theory.specs.Growth.{fresh, widen, widen_slot, inactivate, pass, advance, unless_ended, ended, step, grow}
use Rattle.theory.specs.Laws.{DueKept}
use Rattle.theory.proofs.Slots.{deactivate_is, join, merge_is, join_other, join_length, widen_holds, widen_active, widen_over, widen_inner, pass_at, pass_maximal, pass_length}
use Rattle.theory.proofs.Sharing.{depth_in}
use Rattle.theory.proofs.Invariant.{Inv, May, widen_dep}
use Rattle.theory.proofs.Valid.{Fine}
use Rattle.theory.proofs.Earliest.{Earliest, earliest_stands}
use Rattle.theory.proofs.Table.{table_cluster, table_edge, maximal_of_is, edge_due_is, edge_due_none}
use Rattle.theory.proofs.Steps.{Ends, ends_of, Event, Under, edge_depths, may, happens, inv_event}
use Rattle.theory.proofs.Steps.Event.{deactivates, merges}
use Rattle.theory.proofs.Runs.{kept}

-- the numbers of the clusters of an event
abbrev clusters_of : {net : Net} {ts : List Slot} {d : ℕ} {us : List Slot} → Event net ts d us → List ℕ
clusters_of (deactivates c t e g tight is) = c ∷ []
clusters_of {ts = ts} (merges e x ne known some-active tight is) = x.p ∷ x.q ∷ length ts ∷ []

under_clusters : (net : Net) (time : ℕ) (ts us : List Slot) (d k : ℕ) → Inv net time ts → (ev : Event net ts d us) → Under k ev → event_clusters net ts k ≡ clusters_of ev
under_clusters net time ts us d k h (deactivates c t e g tight is) (l, same) = cond-true (ltb k 511) (k ∷ []) _ (lt-ltb k 511 l) ∙ ap (λ i. i ∷ []) (sym same)
under_clusters net time ts us d k h (merges e x ne known some-active tight is) (l, same) =
    cond-false (ltb k 511) (k ∷ []) _ (le-ltb k 511 l)
    ∙ ap (λ s. maximal_of ts (first_end net s) ∷ maximal_of ts (second_end net s) ∷ length ts ∷ []) (sym same)
    ∙ ap (λ c. c ∷ maximal_of ts (second_end net e) ∷ length ts ∷ []) (maximal_of_is (node_count net) ts h.shared x.p x.l (first_end net e) x.pl x.la)
    ∙ ap (λ c. x.p ∷ c ∷ length ts ∷ []) (maximal_of_is (node_count net) ts h.shared x.q x.r (second_end net e) x.qr x.rb)

not_among : (c d : ℕ) (ds : List ℕ) → among c (d ∷ ds) ≡ false → (c ≢ d) × (among c ds ≡ false)
not_among c d ds h = let p = or_parts (eqb c d) (among c ds) h in ((λ e. both_ways (eqb c d) p.0 (eq-eqb c d e)), p.1)

-- away from the event a slot only gains time
slot_kept : (net : Net) (ts us : List Slot) (d : ℕ) (ev : Event net ts d us) (c : ℕ) → among c (clusters_of ev) ≡ false → get_or us c inside ≡ widen_slot d (get_or ts c inside)
slot_kept net ts us d (deactivates k t e g tight is) c h =
    let at = pass_maximal d ts k t e in
    ap (λ vs. get_or vs c inside) (is ∙ deactivate_is (pass d ts) k (widen d t) at) ∙ get_or-set_other (pass d ts) k c (maximal (inactivate (widen d t))) inside (not_among c k [] h).0 ∙ pass_at d ts c
slot_kept net ts us d (merges e x ne known some-active tight is) c h =
    ap (λ vs. get_or vs c inside) (is ∙ merge_is (pass d ts) x.p x.q e (widen d x.l) (widen d x.r) at_p at_q) ∙ elim (cases_lt c (length ts)) [
      | inl l ↦ join_other (pass d ts) x.p x.q (widen d x.l) (widen d x.r) new at_p at_q ne c (let z = pass_length d ts in omega arith) a.0 b.0 ∙ pass_at d ts c
      | inr l ↦ get_or_past (join (pass d ts) x.p x.q new) c inside (let z = join_length (pass d ts) x.p x.q (widen d x.l) (widen d x.r) new at_p at_q ne in let y = pass_length d ts in let w = k.0 in omega arith)
          ∙ sym (ap (widen_slot d) (get_or_past ts c inside l))
    ]
  where
    at_p : get_or (pass d ts) x.p inside ≡ maximal (widen d x.l)
    at_p = pass_maximal d ts x.p x.l x.pl

    at_q : get_or (pass d ts) x.q inside ≡ maximal (widen d x.r)
    at_q = pass_maximal d ts x.q x.r x.qr

    new : Cluster
    new = merged fresh (length (pass d ts)) e (widen d x.l) (widen d x.r)

    a : (c ≢ x.p) × (among c (x.q ∷ length ts ∷ []) ≡ false)
    a = not_among c x.p (x.q ∷ length ts ∷ []) h

    b : (c ≢ x.q) × (among c (length ts ∷ []) ≡ false)
    b = not_among c x.q (length ts ∷ []) a.1

    k : (c ≢ length ts) × (among c [] ≡ false)
    k = not_among c (length ts) [] b.1

-- what runs out keeps its end
cluster_kept : (net : Net) (time d : ℕ) (x : Slot) → ((t : Cluster) → x ≡ maximal t → cluster_active t ≡ true → inner t + d ≤ over (doubled_prize net) t) → cluster_due net (time + d) (widen_slot d x) ≡ cluster_due net time x
cluster_kept net time d inside f = refl
cluster_kept net time d (maximal t) f =
    ap (λ b. cond b (Some (time + d + surplus net (widen d t))) None) (widen_active d t) ∙ by (cluster_active t) refl
  where
    by : (b : Bool) → cluster_active t ≡ b → cond b (Some (time + d + surplus net (widen d t))) None ≡ cond b (Some (time + surplus net t)) None
    by false e = refl
    by true e =
        let a = widen_over d (doubled_prize net) t in
        let i = widen_inner d t in
        let z = cond-true (cluster_active t) d 0 e in
        let k = f t refl e in
        ap Some (let w : time + d + surplus net (widen d t) ≡ time + surplus net t = omega arith in w)

slack_due_kept : (a b : Bool) (time d old new : ℕ) → new + (cond a d 0 + cond b d 0) ≡ old → slack_due a b (time + d) new ≡ slack_due a b time old
slack_due_kept true true time d old new e = ap Some (let w : time + d + new / 2 ≡ time + old / 2 = omega arith in w)
slack_due_kept true false time d old new e = ap Some (let w : time + d + new ≡ time + old = omega arith in w)
slack_due_kept false true time d old new e = ap Some (let w : time + d + new ≡ time + old = omega arith in w)
slack_due_kept false false time d old new e = refl

module _ (net : Net) (f : Fine net) (time d : ℕ) (ts us : List Slot) (h : Inv net time ts) (m : May net d ts) (ev : Event net ts d us) where
  next : Inv net (time + d) us
  next = inv_event net time d ts us h m ev

  edge_kept : (s : ℕ) → among (maximal_of ts (first_end net s)) (clusters_of ev) ≡ false → among (maximal_of ts (second_end net s)) (clusters_of ev) ≡ false → edge_due net (time + d) us s ≡ edge_due net time ts s
  edge_kept s i j = elim (cases_lt s (edge_count net)) [
    | inr past ↦ edge_due_none net (time + d) us s (ap (maximal_of us) (f.unknown s past)) ∙ sym (edge_due_none net time ts s (ap (maximal_of ts) (f.unknown s past)))
    | inl known ↦ go known (ends_of net f time ts h s known)
  ]
    where
      go : s < edge_count net → Ends net ts s → edge_due net (time + d) us s ≡ edge_due net time ts s
      go known x = elim (cases_eq x.p x.q) [
        | inl same ↦ edge_due_none net (time + d) us s (maximal_of_is n us next.shared x.p l' a pl' la' ∙ same ∙ sym (maximal_of_is n us next.shared x.q r' b qr' rb')) ∙ sym (edge_due_none net time ts s (at_p ∙ same ∙ sym at_q))
        | inr ne ↦
            edge_due_is n us next.shared net (time + d) s x.p x.q l' r' pl' qr' la' rb' ne
            ∙ ap (λ z. slack_due z (cluster_active r') (time + d) (slack net us s)) (widen_active d x.l)
            ∙ ap (λ z. slack_due (cluster_active x.l) z (time + d) (slack net us s)) (widen_active d x.r)
            ∙ slack_due_kept (cluster_active x.l) (cluster_active x.r) time d (slack net ts s) (slack net us s) (runs ne)
            ∙ sym (edge_due_is n ts h.shared net time s x.p x.q x.l x.r x.pl x.qr x.la x.rb ne)
      ]
        where
          n : ℕ
          n = node_count net

          a : ℕ
          a = first_end net s

          b : ℕ
          b = second_end net s

          l' : Cluster
          l' = widen d x.l

          r' : Cluster
          r' = widen d x.r

          at_p : maximal_of ts (first_end net s) ≡ x.p
          at_p = maximal_of_is (node_count net) ts h.shared x.p x.l (first_end net s) x.pl x.la

          at_q : maximal_of ts (second_end net s) ≡ x.q
          at_q = maximal_of_is (node_count net) ts h.shared x.q x.r (second_end net s) x.qr x.rb

          pl' : get_or us x.p inside ≡ maximal (widen d x.l)
          pl' = slot_kept net ts us d ev x.p (ap (λ c. among c (clusters_of ev)) (sym at_p) ∙ i) ∙ ap (widen_slot d) x.pl

          qr' : get_or us x.q inside ≡ maximal (widen d x.r)
          qr' = slot_kept net ts us d ev x.q (ap (λ c. among c (clusters_of ev)) (sym at_q) ∙ j) ∙ ap (widen_slot d) x.qr

          la' : holds (widen d x.l) (first_end net s) ≡ true
          la' = widen_holds d x.l (first_end net s) ∙ x.la

          rb' : holds (widen d x.r) (second_end net s) ≡ true
          rb' = widen_holds d x.r (second_end net s) ∙ x.rb

          runs : x.p ≢ x.q → slack net us s + (cond (cluster_active x.l) d 0 + cond (cluster_active x.r) d 0) ≡ slack net ts s
          runs ne =
              let da = depth_in (node_count net) ts h.shared x.p x.l (first_end net s) x.pl x.la in
              let db = depth_in (node_count net) ts h.shared x.q x.r (second_end net s) x.qr x.rb in
              let da' = depth_in (node_count net) us next.shared x.p (widen d x.l) (first_end net s) pl' la' in
              let db' = depth_in (node_count net) us next.shared x.q (widen d x.r) (second_end net s) qr' rb' in
              let ra = widen_dep d x.l (first_end net s) x.la in
              let rb = widen_dep d x.r (second_end net s) x.rb in
              let y : Ends net us s = record { p = x.p; l = widen d x.l; pl = pl'; la = la'; q = x.q; r = widen d x.r; qr = qr'; rb = rb' } in
              let z = edge_depths net f (time + d) us next s known y ne in
              omega arith

pub due_times_kept : (net : Net) → Fine net → (k time number : ℕ) → ended (grow net k) ≡ false →
    earliest (due_times net (grow net k).time (grow net k).slots) ≡ Some (time, number) → DueKept net (grow net k) number
due_times_kept net f k time number go on =
    let st = grow net k in
    let h = kept net f k in
    let T = due_times net st.time st.slots in
    let least : Earliest T (Some (time, number)) = subst (Earliest T) on (earliest_stands T) in
    let first : (get_or T number None ≡ Some time) × ((j s : ℕ) → get_or T j None ≡ Some s → time ≤ s) = (least.0, λ j s e. (least.1 j s e).0) in
    let m = may net f st.time st.slots h time number first in
    let x = happens net f st.time st.slots h time number first in
    let d = time - st.time in
    let st' = advance net st (Some (time, number)) in
    let is : step net st ≡ st' = ap (λ b. unless_ended b net st) go ∙ ap (advance net st) on in
    let later : st.time + d ≡ time = let z = x.later in omega arith in
    let away : (c : ℕ) → among c (event_clusters net st.slots number) ≡ false → among c (clusters_of x.event) ≡ false = λ c i. ap (among c) (sym (under_clusters net st.time st.slots st'.slots d number h x.event x.under)) ∙ i in
    record {
      clusters = λ c l i.
          ap (λ s. get_or (due_times net s.time s.slots) c None) is
          ∙ table_cluster net time st'.slots c l
          ∙ ap (cluster_due net time) (slot_kept net st.slots st'.slots d x.event c (away c i))
          ∙ ap (λ t. cluster_due net t (widen_slot d (get_or st.slots c inside))) (sym later)
          ∙ cluster_kept net st.time d (get_or st.slots c inside) (λ t e g. m.clusters c t e g)
          ∙ sym (table_cluster net st.time st.slots c l);
      edges = λ s l i j.
          ap (λ w. get_or (due_times net w.time w.slots) (511 + s) None) is
          ∙ table_edge net time st'.slots s l
          ∙ ap (λ t. edge_due net t st'.slots s) (sym later)
          ∙ edge_kept net f st.time d st.slots st'.slots h m x.event s (away (maximal_of st.slots (first_end net s)) i) (away (maximal_of st.slots (second_end net s)) j)
          ∙ sym (table_edge net st.time st.slots s l);
    }
