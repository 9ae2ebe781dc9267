-- After an event and the refresh of its entries the queue's table has the due times of the next state.
use Rattle.std.proofs.Common.{◌≡◌, ℕ, ◌+◌, ◌-◌, ◌<◌, ◌≤◌, Bool, true, false, cond, ◌||◌, eqb, ltb, ◌⊎◌, List, [], ◌∷◌, length, get_or, Some, None, Option, sym, refl, ap, ◌∙◌, subst, inl, inr, ⊎_elim, arith}
use Rattle.std.proofs.lemmas.Bool.{cases_lt, cases_Bool, lt-ltb, le-ltb, ne_eqb, eqb-false, or_parts, or_from, cond-true, cond-false}
use Rattle.network.specs.Nets.{Net, valid}
use Rattle.theory.specs.Nets.{node_count, edge_count, first_end, second_end}
use Rattle.theory.specs.Clusters.{Slot}
use Rattle.theory.specs.Due.{earliest, due_times, maximal_of, among, event_clusters}
use Rattle.theory.specs.Numbers.{parts_of}
use Rattle.theory.specs.Growth.{State, ended, step, grow}
use Rattle.theory.specs.Laws.{DueKept}
use Rattle.theory.specs.ByNumber.{Formed, Stepped}
use Rattle.theory.proofs.Laws.{formed_by_number, step_by_number, due_times_kept}
use Rattle.theory.proofs.Table.{table_length}
use Rattle.theory.proofs.Valid.{fine}
use Rattle.growth.specs.Moats.{parts_at}
use Rattle.growth.specs.Shown.{ShowsAll}
use Rattle.growth.specs.Refreshed.{dues_after, Right, is_at, newest, touched, changed, parts_list, Refreshed}
use Rattle.growth.specs.declared.tables.Tables.{Tables}
use Rattle.growth.proofs.Catching.{all_right, none_beyond}
use Rattle.growth.proofs.Entries.{cluster_known}
use Rattle.growth.specs.NodeTables.{cluster_at}

-- the three clusters of a merge, in any order
turned : (x y z : Bool) → (z || (x || (y || false))) ≡ (x || (y || (z || false)))
turned true true true = refl
turned true true false = refl
turned true false true = refl
turned true false false = refl
turned false true true = refl
turned false true false = refl
turned false false true = refl
turned false false false = refl

or_last : (x y z : Bool) → (x || (y || false)) ≡ false → z ≡ false → (x || (y || (z || false))) ≡ false
or_last true y z e h = e
or_last false true z e h = e
or_last false false z e h = or_from z false h refl

module _ (net : Net) (v : valid net ≡ true) (k to number : ℕ) (going : ended (grow net k) ≡ false)
    (is : earliest (dues_after net k) ≡ Some (to, number)) (m : Tables) (shows : ShowsAll net m (step net (grow net k))) where
  abbrev st : State
  st = grow net k

  abbrev ts : List Slot
  ts = st.slots

  abbrev next : State
  next = step net st

  abbrev dues : List (Option ℕ)
  dues = due_times net next.time next.slots

  formed : Formed (node_count net) ts
  formed = formed_by_number net v k

  stepped : Stepped net st next to number
  stepped = step_by_number net v k to number going is

  kept : DueKept net st number
  kept = due_times_kept net v k to number going is

  -- one step more is accepted
  pub one_more : m.steps ≡ st.steps + 1
  one_more = shows.shown.steps ∙ stepped.steps

  pub some_formed : 1 ≤ m.family.formed
  some_formed = let e = shows.shown.count in let n = stepped.count in ⊎_elim
      (λ l. let h = cluster_known net (fine net v) st.time ts to number is l in omega arith)
      (λ l. let z : ◌≡◌ {A = ℕ} (cond (ltb number 511) 0 1) 1 = cond-false (ltb number 511) 0 1 (le-ltb number 511 l) in omega arith)
      (cases_lt number 511)

  module _ (low : number < 511) where
    low_clusters : event_clusters net ts number ≡ number ∷ []
    low_clusters = cond-true (ltb number 511) (number ∷ []) _ (lt-ltb number 511 low)

    low_touched : touched m number ≡ number ∷ []
    low_touched = cond-true (ltb number 511) (number ∷ []) _ (lt-ltb number 511 low)

    low_stays : (w : ℕ) → w < node_count net → maximal_of next.slots w ≡ maximal_of ts w
    low_stays w l = stepped.memberships w l ∙ ap (λ ms. cond (among (maximal_of ts w) ms) (length ts) (maximal_of ts w)) (cond-true (ltb number 511) [] _ (lt-ltb number 511 low))

    low_away : (w : ℕ) → w < node_count net → eqb (cluster_at m.nodes.list w) (changed m number) ≡ false → among (maximal_of ts w) (event_clusters net ts number) ≡ false
    low_away w l e =
        ap (among (maximal_of ts w)) low_clusters
        ∙ or_from (eqb (maximal_of ts w) number) false
        (ap (λ c. eqb c number) (sym (shows.shown.memberships w l ∙ low_stays w l)) ∙ ap (eqb (cluster_at m.nodes.list w)) (sym (cond-true (ltb number 511) number (newest m) (lt-ltb number 511 low))) ∙ e)
        refl

  module _ (high : 511 ≤ number) where
    abbrev p : ℕ
    p = maximal_of ts (first_end net (number - 511))

    abbrev q : ℕ
    q = maximal_of ts (second_end net (number - 511))

    newest_is : newest m ≡ length ts
    newest_is =
        let e = shows.shown.count in
        let n = stepped.count in
        let z : ◌≡◌ {A = ℕ} (cond (ltb number 511) 0 1) 1 = cond-false (ltb number 511) 0 1 (le-ltb number 511 high) in
        omega arith

    new_parts : parts_at m.family.clusters (newest m) ≡ Some (p, q)
    new_parts =
        let f = some_formed in
        let e = shows.shown.count in
        ap (λ r. r.parts) (shows.shown.records (newest m) (omega arith)) ∙ ap (parts_of next.slots) newest_is ∙ stepped.new_parts high

    high_touched : touched m number ≡ length ts ∷ p ∷ q ∷ []
    high_touched = cond-false (ltb number 511) (number ∷ []) _ (le-ltb number 511 high) ∙ λ i. newest_is i ∷ parts_list (new_parts i)

    high_clusters : event_clusters net ts number ≡ p ∷ q ∷ length ts ∷ []
    high_clusters = cond-false (ltb number 511) (number ∷ []) _ (le-ltb number 511 high)

    high_same : (c : ℕ) → among c (touched m number) ≡ among c (event_clusters net ts number)
    high_same c = ap (among c) high_touched ∙ turned (eqb c p) (eqb c q) (eqb c (length ts)) ∙ ap (among c) (sym high_clusters)

    moved : (w : ℕ) → w < node_count net → maximal_of next.slots w ≡ cond (eqb (maximal_of ts w) p || (eqb (maximal_of ts w) q || false)) (length ts) (maximal_of ts w)
    moved w l = stepped.memberships w l ∙ ap (λ ms. cond (among (maximal_of ts w) ms) (length ts) (maximal_of ts w)) (cond-false (ltb number 511) [] (p ∷ q ∷ []) (le-ltb number 511 high))

    high_away : (w : ℕ) → w < node_count net → eqb (cluster_at m.nodes.list w) (changed m number) ≡ false → among (maximal_of ts w) (event_clusters net ts number) ≡ false
    high_away w l e = ap (among (maximal_of ts w)) high_clusters ∙ or_last (eqb (maximal_of ts w) p) (eqb (maximal_of ts w) q) (eqb (maximal_of ts w) (length ts)) (by (cases_Bool (eqb (maximal_of ts w) p || (eqb (maximal_of ts w) q || false)))) beyond
      where
        beyond : eqb (maximal_of ts w) (length ts) ≡ false
        beyond = ne_eqb (maximal_of ts w) (length ts) (let b = (formed.memberships w l).1 in omega arith)

        differs : eqb (maximal_of next.slots w) (length ts) ≡ false
        differs = ap (λ c. eqb c (length ts)) (sym (shows.shown.memberships w l)) ∙ ap (eqb (cluster_at m.nodes.list w)) (sym (cond-false (ltb number 511) number (newest m) (le-ltb number 511 high) ∙ newest_is)) ∙ e

        by : ((eqb (maximal_of ts w) p || (eqb (maximal_of ts w) q || false)) ≡ true) ⊎ ((eqb (maximal_of ts w) p || (eqb (maximal_of ts w) q || false)) ≡ false) → (eqb (maximal_of ts w) p || (eqb (maximal_of ts w) q || false)) ≡ false
        by (inl t) = absurd (eqb-false (maximal_of next.slots w) (length ts) differs (moved w l ∙ cond-true _ (length ts) (maximal_of ts w) t))
        by (inr f) = f

  -- an end that is not at the event now was not at it before
  away : (w : ℕ) → w < node_count net → eqb (cluster_at m.nodes.list w) (changed m number) ≡ false → among (maximal_of ts w) (event_clusters net ts number) ≡ false
  away w l e = ⊎_elim (λ h. low_away h w l e) (λ h. high_away h w l e) (cases_lt number 511)

  untouched : (c : ℕ) → among c (touched m number) ≡ false → among c (event_clusters net ts number) ≡ false
  untouched c e = ⊎_elim (λ h. ap (among c) (low_clusters h ∙ sym (low_touched h)) ∙ e) (λ h. sym (high_same h c) ∙ e) (cases_lt number 511)

  module _ (T U : List (Option ℕ)) (before : T ≡ dues_after net k) (fresh : Refreshed net m number dues T U) where
    right_cluster : (c : ℕ) → c < 511 → Right dues U c
    right_cluster c l = ⊎_elim
        (fresh.clusters c)
        (λ e. fresh.keeps c (ap (λ t. get_or t c None) before ∙ sym (kept.clusters c l (untouched c e))))
        (cases_Bool (among c (touched m number)))

    right_edge : (s : ℕ) → s < edge_count net → Right dues U (511 + s)
    right_edge s l = ⊎_elim
        (fresh.edges s l)
        (λ e. let both = or_parts (eqb (cluster_at m.nodes.list (first_end net s)) (changed m number)) (eqb (cluster_at m.nodes.list (second_end net s)) (changed m number)) e in
        let few = (fine net v).few_edges in
        fresh.keeps (511 + s) (ap (λ t. get_or t (511 + s) None) before ∙ sym (kept.edges s (omega arith) (away (first_end net s) ((fine net v).firsts s l) both.0) (away (second_end net s) ((fine net v).seconds s l) both.1))))
        (cases_Bool (is_at net m (changed m number) s))

    right_beyond : (j : ℕ) → 511 ≤ j → edge_count net ≤ j - 511 → Right dues U j
    right_beyond j h l = fresh.keeps j (ap (λ t. get_or t j None) before ∙ none_beyond net (fine net v) st.time ts j h l ∙ sym (none_beyond net (fine net v) next.time next.slots j h l))

    right_from : (j : ℕ) → 511 ≤ j → Right dues U j
    right_from j h = ⊎_elim
        (λ l. let at : 511 + (j - 511) ≡ j = omega arith in subst (Right dues U) at (right_edge (j - 511) l))
        (right_beyond j h)
        (cases_lt (j - 511) (edge_count net))

    pub up_to_date : U ≡ dues
    up_to_date = all_right dues U fresh.sized (table_length net next.time next.slots) (λ j l. ⊎_elim (right_cluster j) (right_from j) (cases_lt j 511))
