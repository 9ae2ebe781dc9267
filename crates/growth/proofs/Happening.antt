-- After an event the tables show the next state: first what time does to them, then a deactivation or a merge.
use Rattle.std.proofs.Common.{◌≡◌, ℕ, ◌+◌, ◌-◌, ◌*◌, ◌<◌, ◌≤◌, Bool, true, false, cond, not, ◌&&◌, ◌||◌, eqb, ltb, ◌≢◌, List, [], ◌∷◌, map, length, get_or, set, Some, sym, refl, ap, ◌∙◌, ⊎_elim, arith}
use Rattle.std.proofs.lemmas.List.{get_or-map, get_or_past, get_or-set_other}
use Rattle.std.proofs.lemmas.Bool.{cases_lt, cases_eq, lt-ltb, le-ltb, eq-eqb, ne_eqb, or_from, cond-true, cond-false}
use Rattle.network.specs.Nets.{Net, valid}
use Rattle.theory.specs.Sums.{one}
use Rattle.theory.specs.Nets.{node_count, first_end, second_end}
use Rattle.theory.specs.Clusters.{Slot, depth}
use Rattle.theory.specs.Clusters as theory
use Rattle.theory.specs.Clusters.Phase.{inactive}
use Rattle.theory.specs.Due.{earliest, due_times, active_at, maximal_of, among}
use Rattle.theory.specs.Numbers.{parts_of, phase_of, moat_of, is_maximal}
use Rattle.theory.specs.Growth.{State, ended, step, grow, total}
use Rattle.theory.specs.Prune.{chosen}
use Rattle.theory.specs.ByNumber.{Formed, Stepped, merging}
use Rattle.theory.proofs.Laws.{formed_by_number, step_by_number}
use Rattle.theory.proofs.Valid.{fine}
use Rattle.growth.specs.Records.{vacant, is_growing, widened, inactivated, enclosed, at_record, merged_records}
use Rattle.growth.specs.NodeTables.{regrouped, cluster_at, depth_at, unplaced, moved}
use Rattle.growth.specs.Events.{Passed}
use Rattle.growth.specs.Shown.{phase_shown, record_shown, ShowsAll}
use Rattle.growth.specs.declared.cluster.Cluster.{Cluster}
use Rattle.growth.specs.declared.tables.Tables.{Tables}
use Rattle.growth.proofs.Growing.{growing_shown, grows_shown}
use Rattle.growth.proofs.Counting.{growing_count}
use Rattle.growth.proofs.Entries.{cluster_known, edge_known, ends_apart}
use Rattle.growth.proofs.Written.{at_record_at, merged_new, merged_old}
use Rattle.pruning.proofs.Marking.{get_d_set}

and_true : (b : Bool) → (b && true) ≡ b
and_true true = refl
and_true false = refl

and_none : (b : Bool) → (b && false) ≡ false
and_none true = refl
and_none false = refl

or_none : (b : Bool) → (b || false) ≡ b
or_none true = refl
or_none false = refl

inactive_or_not : (b : Bool) (r : Cluster) (p : theory.Phase) → r.phase ≡ phase_shown p →
    cond b (inactivated r) r ≡ record { phase = phase_shown (cond b inactive p); moat = r.moat; parts = r.parts; maximal = r.maximal }
inactive_or_not true r p e = refl
inactive_or_not false r p e = λ i. record { phase = e i; moat = r.moat; parts = r.parts; maximal = r.maximal }

maximal_or_not : (b : Bool) (r : Cluster) → cond b (enclosed r) r ≡ record { phase = r.phase; moat = r.moat; parts = r.parts; maximal = r.maximal && not b }
maximal_or_not true r = λ i. record { phase = r.phase; moat = r.moat; parts = r.parts; maximal = sym (and_none r.maximal) i }
maximal_or_not false r = λ i. record { phase = r.phase; moat = r.moat; parts = r.parts; maximal = sym (and_true r.maximal) i }

marked_too : (b c : Bool) → cond b 1 (one c) ≡ one (c || b)
marked_too true true = refl
marked_too true false = refl
marked_too false true = refl
marked_too false false = refl

eqb_sym : (a b : ℕ) → eqb a b ≡ eqb b a
eqb_sym a b = ⊎_elim (λ e. eq-eqb a b e ∙ sym (eq-eqb b a (sym e))) (λ e. ne_eqb a b e ∙ sym (ne_eqb b a (λ h. e (sym h)))) (cases_eq a b)

module _ (net : Net) (v : valid net ≡ true) (k to number : ℕ) (going : ended (grow net k) ≡ false)
    (is : earliest (due_times net (grow net k).time (grow net k).slots) ≡ Some (to, number))
    (t m u : Tables) (shows : ShowsAll net t (grow net k)) (passed : Passed (node_count net) to t m) where
  abbrev st : State
  st = grow net k

  abbrev ts : List Slot
  ts = st.slots

  abbrev next : State
  next = step net st

  formed : Formed (node_count net) ts
  formed = formed_by_number net v k

  stepped : Stepped net st next to number
  stepped = step_by_number net v k to number going is

  same_by : to - t.time ≡ to - st.time
  same_by = ap (λ x. to - x) shows.shown.time

  within : length ts ≤ 511
  within = let a = t.family.within in let e = shows.shown.count in omega arith

  long : length m.family.clusters ≡ 511
  long = m.family.whole

  -- a cluster's moat, as time passes
  moat_grows : (c : ℕ) → c < length ts → moat_of ts c + cond (is_growing (record_shown ts c)) (to - t.time) 0 ≡ moat_of next.slots c
  moat_grows c l =
      (λ i. moat_of ts c + cond ((ap is_growing (sym (shows.shown.records c l)) ∙ growing_shown net t st formed shows c l) i) (same_by i) 0)
      ∙ sym (stepped.moats c l)

  -- a record, if its cluster is in this state and maximal or not
  becomes : (c : ℕ) → c < length ts → (p : theory.Phase) (b : Bool) → phase_of next.slots c ≡ p → is_maximal next.slots c ≡ b →
      record { phase = phase_shown p; moat = moat_of ts c + cond (is_growing (record_shown ts c)) (to - t.time) 0; parts = parts_of ts c; maximal = b } ≡ record_shown next.slots c
  becomes c l p b ep eb = λ i. record { phase = phase_shown (sym ep i); moat = moat_grows c l i; parts = sym (stepped.parts c l) i; maximal = sym eb i }

  passed_record : (c : ℕ) → c < length ts → get_or m.family.clusters c vacant ≡ widened (to - t.time) (record_shown ts c)
  passed_record c l =
      ap (λ r. get_or r c vacant) passed.clusters
      ∙ get_or-map (widened (to - t.time)) t.family.clusters c vacant vacant (let w = t.family.whole in let n = within in omega arith)
      ∙ ap (widened (to - t.time)) (shows.shown.records c l)

  passed_vacant : (c : ℕ) → length ts ≤ c → get_or m.family.clusters c vacant ≡ vacant
  passed_vacant c l = ⊎_elim
      (λ h. ap (λ r. get_or r c vacant) passed.clusters ∙ get_or-map (widened (to - t.time)) t.family.clusters c vacant vacant (let w = t.family.whole in omega arith) ∙ ap (widened (to - t.time)) (shows.vacants c l))
      (λ h. get_or_past m.family.clusters c vacant (let w = long in omega arith))
      (cases_lt c 511)

  deepened : (w : ℕ) → w < node_count net → depth_at m.nodes.list w ≡ depth next.slots w
  deepened w l =
      passed.depths w l
      ∙ (λ i. shows.shown.deep w l i + cond ((grows_shown net t st formed shows (cluster_at t.nodes.list w) ∙ ap (active_at ts) (shows.shown.memberships w l)) i) (same_by i) 0)
      ∙ sym (stepped.depths w l)

  totalled : m.total ≡ total next
  totalled = passed.total ∙ (λ i. shows.shown.moats i + same_by i * growing_count net t st formed shows i) ∙ sym stepped.moats_total

  timed : m.time ≡ next.time
  timed = passed.time ∙ sym stepped.time

  counted : m.steps ≡ next.steps
  counted = passed.steps ∙ ap (λ x. x + 1) shows.shown.steps ∙ sym stepped.steps

  module _ (low : number < 511) where
    no_merge : merging net ts number ≡ []
    no_merge = cond-true (ltb number 511) [] _ (lt-ltb number 511 low)

    still_count : length next.slots ≡ length ts
    still_count = let e = stepped.count in let z : ◌≡◌ {A = ℕ} (cond (ltb number 511) 0 1) 0 = cond-true (ltb number 511) 0 1 (lt-ltb number 511 low) in omega arith

    still_maximal : (c : ℕ) → c < length ts → is_maximal next.slots c ≡ is_maximal ts c
    still_maximal c l = stepped.maximals c l ∙ ap (λ ms. is_maximal ts c && not (among c ms)) no_merge ∙ and_true (is_maximal ts c)

    pub shows_deactivated : u.family.clusters ≡ at_record inactivated m.family.clusters number → u.family.formed ≡ m.family.formed → u.nodes ≡ m.nodes → u.chosen ≡ m.chosen →
        u.time ≡ m.time → u.steps ≡ m.steps → u.total ≡ m.total → ShowsAll net u next
    shows_deactivated clusters count nodes edges time steps moats = record {
      shown = record {
        count = count ∙ passed.formed ∙ shows.shown.count ∙ sym still_count;
        records = λ c l. ap (λ r. get_or r c vacant) clusters ∙ at c (let e = still_count in omega arith);
        memberships = λ w l. ap (λ n. cluster_at n.list w) nodes ∙ passed.memberships w ∙ shows.shown.memberships w l ∙ sym (stays w l);
        deep = λ w l. ap (λ n. depth_at n.list w) nodes ∙ deepened w l;
        edges = λ s _. all_chosen s;
        time = time ∙ timed;
        steps = steps ∙ counted;
        moats = moats ∙ totalled;
      };
      vacants = λ c l. ap (λ r. get_or r c vacant) clusters ∙ beyond c (let e = still_count in omega arith);
      all_edges = all_chosen;
    }
      where
        at : (c : ℕ) → c < length ts → get_or (at_record inactivated m.family.clusters number) c vacant ≡ record_shown next.slots c
        at c l =
            at_record_at inactivated m.family.clusters number c (let w = long in omega arith)
            ∙ ap (λ r. cond (eqb c number) (inactivated r) r) (passed_record c l)
            ∙ inactive_or_not (eqb c number) (widened (to - t.time) (record_shown ts c)) (phase_of ts c) refl
            ∙ becomes c l (cond (eqb c number) inactive (phase_of ts c)) (is_maximal ts c) (stepped.phases c l) (still_maximal c l)

        beyond : (c : ℕ) → length ts ≤ c → get_or (at_record inactivated m.family.clusters number) c vacant ≡ vacant
        beyond c l = get_or-set_other m.family.clusters number c _ vacant (let h = cluster_known net (fine net v) st.time ts to number is low in omega arith) ∙ passed_vacant c l

        stays : (w : ℕ) → w < node_count net → maximal_of next.slots w ≡ maximal_of ts w
        stays w l = stepped.memberships w l ∙ ap (λ ms. cond (among (maximal_of ts w) ms) (length ts) (maximal_of ts w)) no_merge

        kept : (s : ℕ) → chosen next.slots s ≡ chosen ts s
        kept s = stepped.edges s ∙ ap (λ b. chosen ts s || (not b && eqb (number - 511) s)) (lt-ltb number 511 low) ∙ or_none (chosen ts s)

        all_chosen : (s : ℕ) → get_or u.chosen.marks s 0 ≡ one (chosen next.slots s)
        all_chosen = λ s. ap (λ e. get_or e.marks s 0) edges ∙ ap (λ r. get_or r s 0) passed.edges ∙ shows.all_edges s ∙ ap one (sym (kept s))

  module _ (high : 511 ≤ number) where
    abbrev edge : ℕ
    edge = number - 511

    abbrev p : ℕ
    p = maximal_of ts (first_end net edge)

    abbrev q : ℕ
    q = maximal_of ts (second_end net edge)

    p_below : p < length ts
    p_below = (formed.memberships (first_end net edge) ((fine net v).firsts edge (edge_known net (fine net v) st.time ts to number is high))).1

    q_below : q < length ts
    q_below = (formed.memberships (second_end net edge) ((fine net v).seconds edge (edge_known net (fine net v) st.time ts to number is high))).1

    parted : p ≢ q
    parted = ends_apart net (fine net v) st.time ts to number is high

    merges : merging net ts number ≡ p ∷ q ∷ []
    merges = cond-false (ltb number 511) [] (p ∷ q ∷ []) (le-ltb number 511 high)

    one_more : length next.slots ≡ length ts + 1
    one_more = let e = stepped.count in let z : ◌≡◌ {A = ℕ} (cond (ltb number 511) 0 1) 1 = cond-false (ltb number 511) 0 1 (le-ltb number 511 high) in omega arith

    same_phase : (c : ℕ) → c < length ts → phase_of next.slots c ≡ phase_of ts c
    same_phase c l = stepped.phases c l ∙ cond-false (eqb c number) inactive (phase_of ts c) (ne_eqb c number (let w = within in omega arith))

    maximal_after : (c : ℕ) → c < length ts → is_maximal next.slots c ≡ (is_maximal ts c && not (eqb c p || (eqb c q || false)))
    maximal_after c l = stepped.maximals c l ∙ ap (λ ms. is_maximal ts c && not (among c ms)) merges

    -- the records after a merge: the new one, a part, any other
    abbrev records : List Cluster
    records = merged_records m.family.clusters (length ts) p q

    new_at : length ts < 511 → get_or records (length ts) vacant ≡ record_shown next.slots (length ts)
    new_at room =
        merged_new m.family.clusters (length ts) p q (let w = long in omega arith)
        ∙ λ i. record { phase = phase_shown (sym (stepped.new_phase high) i); moat = sym (stepped.new_moat high) i; parts = sym (stepped.new_parts high) i; maximal = sym (stepped.new_maximal high) i }

    old_at : (c : ℕ) → c < length ts → get_or records c vacant ≡ record_shown next.slots c
    old_at c l =
        merged_old m.family.clusters (length ts) p q (let w = long in let n = within in let a = p_below in omega arith) (let w = long in let n = within in let a = q_below in omega arith) c (omega arith)
        ∙ ap (λ r. cond (eqb c p || (eqb c q || false)) (enclosed r) r) (passed_record c l)
        ∙ maximal_or_not (eqb c p || (eqb c q || false)) (widened (to - t.time) (record_shown ts c))
        ∙ becomes c l (phase_of ts c) (is_maximal ts c && not (eqb c p || (eqb c q || false))) (same_phase c l) (maximal_after c l)

    vacant_at : (c : ℕ) → length ts + 1 ≤ c → get_or records c vacant ≡ vacant
    vacant_at c l =
        merged_old m.family.clusters (length ts) p q (let w = long in let n = within in let a = p_below in omega arith) (let w = long in let n = within in let a = q_below in omega arith) c (omega arith)
        ∙ cond-false (eqb c p || (eqb c q || false)) _ _ (or_from (eqb c p) (eqb c q || false) (ne_eqb c p (let a = p_below in omega arith)) (or_from (eqb c q) false (ne_eqb c q (let a = q_below in omega arith)) refl))
        ∙ passed_vacant c (omega arith)

    moved_at : (w : ℕ) → w < node_count net → get_or (map (moved p q (length ts)) m.nodes.list) w unplaced ≡ moved p q (length ts) (get_or m.nodes.list w unplaced)
    moved_at w l = get_or-map (moved p q (length ts)) m.nodes.list w unplaced unplaced (let e = m.nodes.whole in let few = (fine net v).few_nodes in omega arith)

    regrouped_at : (w : ℕ) → w < node_count net → cluster_at (map (moved p q (length ts)) m.nodes.list) w ≡ maximal_of next.slots w
    regrouped_at w l =
        ap (λ n. n.cluster) (moved_at w l)
        ∙ ap (regrouped p q (length ts)) (passed.memberships w ∙ shows.shown.memberships w l)
        ∙ ap (λ b. cond (eqb (maximal_of ts w) p || b) (length ts) (maximal_of ts w)) (sym (or_none (eqb (maximal_of ts w) q)))
        ∙ ap (λ ms. cond (among (maximal_of ts w) ms) (length ts) (maximal_of ts w)) (sym merges)
        ∙ sym (stepped.memberships w l)

    chosen_at : (s : ℕ) → get_or (set m.chosen.marks edge 1) s 0 ≡ one (chosen next.slots s)
    chosen_at s =
        get_d_set m.chosen.marks edge 1 (let w = m.chosen.whole in let e = edge_known net (fine net v) st.time ts to number is high in let few = (fine net v).few_edges in omega arith) s
        ∙ ap (λ x. cond (eqb s edge) 1 x) (ap (λ r. get_or r s 0) passed.edges ∙ shows.all_edges s)
        ∙ marked_too (eqb s edge) (chosen ts s)
        ∙ ap (λ b. one (chosen ts s || b)) (eqb_sym s edge)
        ∙ ap (λ b. one (chosen ts s || (not b && eqb edge s))) (sym (le-ltb number 511 high))
        ∙ ap one (sym (stepped.edges s))

    pub shows_merged : length ts < 511 → u.family.clusters ≡ records → u.family.formed ≡ length ts + 1 → u.nodes.list ≡ map (moved p q (length ts)) m.nodes.list →
        u.chosen.marks ≡ set m.chosen.marks edge 1 → u.time ≡ m.time → u.steps ≡ m.steps → u.total ≡ m.total → ShowsAll net u next
    shows_merged room clusters count nodes edges time steps moats = record {
      shown = record {
        count = count ∙ sym one_more;
        records = λ c l. ap (λ r. get_or r c vacant) clusters ∙ ⊎_elim (λ h. old_at c h) (λ h. newest c (let e = one_more in omega arith)) (cases_lt c (length ts));
        memberships = λ w l. ap (λ r. cluster_at r w) nodes ∙ regrouped_at w l;
        deep = λ w l. ap (λ r. depth_at r w) nodes ∙ ap (λ n. n.depth) (moved_at w l) ∙ deepened w l;
        edges = λ s _. all_chosen s;
        time = time ∙ timed;
        steps = steps ∙ counted;
        moats = moats ∙ totalled;
      };
      vacants = λ c l. ap (λ r. get_or r c vacant) clusters ∙ vacant_at c (let e = one_more in omega arith);
      all_edges = all_chosen;
    }
      where
        all_chosen : (s : ℕ) → get_or u.chosen.marks s 0 ≡ one (chosen next.slots s)
        all_chosen = λ s. ap (λ r. get_or r s 0) edges ∙ chosen_at s

        newest : (c : ℕ) → c ≡ length ts → get_or records c vacant ≡ record_shown next.slots c
        newest c e = ap (λ j. get_or records j vacant) e ∙ new_at room ∙ ap (record_shown next.slots) (sym e)
