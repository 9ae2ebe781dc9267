-- On a grown tree both plans are those of the theory. Assumes nothing.
use Rattle.std.proofs.Common.{◌≡◌, ℕ, zero, suc, ◌+◌, ◌<◌, Bool, true, false, cond, not, ◌&&◌, ◌||◌, eqb, ltb, ◌⊎◌, List, length, get_or, Some, None, Option, sym, refl, ap, ◌∙◌, inl, inr, add-zero, arith}
use mathlib.Core.Path.{fun_ext}
use Rattle.std.specs.List.{range_with_len}
use Rattle.std.proofs.lemmas.Bool.{and_from, and_right, cases_Bool, lt-ltb}
use Rattle.network.specs.Nets.{Net}
use Rattle.theory.specs.Nets.{node_count, first_end, second_end}
use Rattle.theory.specs.Clusters.{Cluster, Slot, is_active, standing, holds}
use Rattle.theory.specs.Clusters.Phase.{active}
use Rattle.theory.specs.Numbers.{cluster_of, told, parts_of, holds_at}
use Rattle.theory.specs.Growth.{State}
use Rattle.theory.specs.Prune.{chosen, grown_node, edges_within, grown_edge, prunable, passing, lowest, to_prune, without, prune_from, plan_of, plan}
use Rattle.theory.specs.Strong.{lowest_below, root_of, branches, net_worth, best_node, strong_nodes, strong_plan}
use Rattle.theory.specs.ByNumber.{Parted, Formed}
use Rattle.theory.specs.Laws.{HungTree}
use Rattle.theory.proofs.Hanging.{lowest_some}
use Rattle.theory.proofs.WorthKept.{kept_hung}
use Rattle.pruning.specs.Pruned.{no_shape, shape_shown, of_parts, member, leaving, prunable_at, next_pruned, except, prune_in, plan_in}
use Rattle.pruning.specs.Strong.{strong_plan_in}
use Rattle.pruning.specs.Written.{plan_among}
use Rattle.pruning.specs.declared.shape.Shape.{Shape}
use Rattle.pruning.proofs.Lowest.{lowest_passed, lowest_found}
use Rattle.pruning.proofs.Levels.{member_is}
use Rattle.pruning.proofs.Turns.{turn_next, turn_done}

-- the cluster of a number, if there is a number
abbrev found : List Slot → Option ℕ → Option Cluster
found ts None = None
found ts (Some c) = cluster_of ts c

-- looking through clusters and looking through numbers find the same, if each cluster passes where its number does
module _ (ts : List Slot) (p : Cluster → Bool) (q : ℕ → Bool) where
  abbrev or_later : List ℕ → Option Cluster → Option Cluster
  or_later cs o = elim o as (λ z. Option Cluster) [ Some u ↦ Some u | None ↦ lowest p ts cs ]

  lowest_is : (i k : ℕ) → ((c : ℕ) → c < i + k → (u : Cluster) × (cluster_of ts c ≡ Some u) × (p u ≡ q c)) → lowest_below i q ≡ None → lowest p ts (range_with_len i k) ≡ found ts (lowest_below (i + k) q)
  lowest_is i zero h none = sym (ap (found ts) (ap (λ n. lowest_below n q) (add-zero i) ∙ none))
  lowest_is i (suc k) h none = by (h i (omega arith)) (cases_Bool (q i)) (lowest_is (i + 1) k (λ c l. h c (omega arith)))
    where
      by : ((u : Cluster) × (cluster_of ts i ≡ Some u) × (p u ≡ q i)) → (q i ≡ true) ⊎ (q i ≡ false) → (lowest_below (i + 1) q ≡ None → lowest p ts (range_with_len (i + 1) k) ≡ found ts (lowest_below (i + 1 + k) q)) → lowest p ts (range_with_len i (suc k)) ≡ found ts (lowest_below (i + suc k) q)
      by (u, is, same) (inl e) later =
          ap (or_later (range_with_len (i + 1) k)) (ap (passing p) is ∙ ap (λ b. cond b (Some u) None) (same ∙ e))
          ∙ sym (ap (found ts) (lowest_found q (i + suc k) i none e (omega arith)) ∙ is)
      by (u, is, same) (inr e) later =
          let next : i + 1 + k ≡ i + suc k = omega arith in
          ap (or_later (range_with_len (i + 1) k)) (ap (passing p) is ∙ ap (λ b. cond b (Some u) None) (same ∙ e))
          ∙ later (lowest_passed q i none e)
          ∙ ap (λ n. found ts (lowest_below n q)) next

-- a family of clusters, and the list of shapes that shows it
module _ (net : Net) (ts : List Slot) (shapes : List Shape) (formed : Formed (node_count net) ts) (long : length shapes ≡ length ts) (shown : (c : ℕ) → c < length ts → get_or shapes c no_shape ≡ shape_shown ts c) where
  member_grown : (k c : ℕ) → c < k → c < length ts → (v : ℕ) → member shapes c v ≡ holds_at ts c v
  member_grown zero c b l v = absurd (omega arith)
  member_grown (suc k) c b l v = member_is shapes c v (parts_of ts c) (ap (λ s. s.parts) (shown c l)) ∙ by (parts_of ts c) (formed.parted c l) (λ a h. member_grown k a (omega arith) (omega arith) v)
    where
      by : (o : Option (ℕ × ℕ)) → Parted ts (node_count net) c o → ((a : ℕ) → a < c → member shapes a v ≡ holds_at ts a v) → of_parts (member shapes) c o v ≡ holds_at ts c v
      by None h lower = sym (h.2 v)
      by (Some (a, b)) h lower =
          (λ k. and_from (ltb a c) (ltb b c) (lt-ltb a c h.0) (lt-ltb b c h.1) k && (lower a h.0 k || lower b h.1 k))
          ∙ sym (h.3 v)

  -- the nodes of a cluster are those of its number
  members_are : (c : ℕ) → c < length ts → (u : Cluster) → cluster_of ts c ≡ Some u → member shapes c ≡ holds u
  members_are c l u is = fun_ext (λ v. member_grown (suc c) c (omega arith) l v ∙ ap (told (λ u. holds u v) false) is)

  prunable_is : (E : ℕ → Bool) (c : ℕ) → c < length ts → (u : Cluster) → cluster_of ts c ≡ Some u → prunable net E u ≡ prunable_at net shapes E c
  prunable_is E c l u is =
      let state = ap (λ s. s.inactive) (shown c l) ∙ ap (λ o. not (is_active (told (λ u. (standing u).phase) active o))) is in
      sym (λ k. state k && eqb (leaving net E (members_are c l u is k)) 1)

  next_is : (N : ℕ → Bool) → to_prune net ts N ≡ found ts (next_pruned net shapes (chosen ts) N)
  next_is N =
      let E = edges_within net ts N in
      let all : 0 + length ts ≡ length shapes = omega arith in
      lowest_is ts (prunable net E) (prunable_at net shapes E) 0 (length ts) (λ c l. let l' : c < length ts = omega arith in let u = formed.clusters c l' in (u.0, u.1, prunable_is E c l' u.0 u.1)) refl
      ∙ ap (λ n. found ts (lowest_below n (prunable_at net shapes E))) all

  prune_is : (k : ℕ) (N : ℕ → Bool) → prune_in k net shapes (chosen ts) N ≡ prune_from k net ts N
  prune_is zero N = refl
  prune_is (suc k) N = by (next_pruned net shapes (chosen ts) N) refl (prune_is k)
    where
      turn : Option Cluster → ℕ → Bool
      turn o = elim o as (λ z. ℕ → Bool) [ Some u ↦ prune_from k net ts (without N u) | None ↦ N ]

      by : (o : Option ℕ) → next_pruned net shapes (chosen ts) N ≡ o → ((N : ℕ → Bool) → prune_in k net shapes (chosen ts) N ≡ prune_from k net ts N) → prune_in (suc k) net shapes (chosen ts) N ≡ prune_from (suc k) net ts N
      by None e rest = turn_done net shapes (chosen ts) k N e ∙ sym (ap turn (next_is N ∙ ap (found ts) e))
      by (Some c) e rest =
          let l : c < length ts = (let a = (lowest_some (length shapes) (prunable_at net shapes (edges_within net ts N)) c e).0 in omega arith) in
          let u = formed.clusters c l in
          turn_next net shapes (chosen ts) k N c e
          ∙ rest (except N (member shapes c))
          ∙ ap (λ M. prune_from k net ts (except N M)) (members_are c l u.0 u.1)
          ∙ sym (ap turn (next_is N ∙ ap (found ts) e ∙ u.1))

-- over the shapes of a grown family, what pruning leaves of its tree is the plan
pub plan_in_grown : (net : Net) (st : State) (shapes : List Shape) → Formed (node_count net) st.slots → length shapes ≡ length st.slots → ((c : ℕ) → c < length st.slots → get_or shapes c no_shape ≡ shape_shown st.slots c) →
    plan_in net shapes (grown_node st.slots) (chosen st.slots) ≡ plan net st
plan_in_grown net st shapes formed long shown = ap (plan_among net (chosen st.slots)) (prune_is net st.slots shapes formed long shown (node_count net) (grown_node st.slots))

-- a second test of what is there already changes nothing
narrow : (c x y k l : Bool) → (k ≡ true → x ≡ true) → (l ≡ true → y ≡ true) → ((c && (x && y)) && (k && l)) ≡ (c && (k && l))
narrow false x y k l p q = refl
narrow true x y false l p q = and_right (x && y) false refl
narrow true x y true false p q = and_right (x && y) false refl
narrow true x y true true p q = ap (λ b. b && true) (and_from x y (p refl) (q refl))

-- in the grown tree, the strong plan of the marks is the strong plan
pub strong_plan_in_grown : (net : Net) (st : State) → HungTree net st.slots → strong_plan_in net (grown_node st.slots) (grown_edge net st.slots) ≡ strong_plan net st
strong_plan_in_grown net st h = ap (plan_of net K) (fun_ext (λ s. narrow (chosen ts s) (grown_node ts (first_end net s)) (grown_node ts (second_end net s)) (K (first_end net s)) (K (second_end net s)) (inside (first_end net s)) (inside (second_end net s))))
  where
    ts : List Slot
    ts = st.slots

    K : ℕ → Bool
    K = strong_nodes net ts

    inside : (v : ℕ) → K v ≡ true → grown_node ts v ≡ true
    inside v k = sym (h.nodes v) ∙ kept_hung net (grown_edge net ts) (root_of net ts) (net_worth net ts) (best_node net ts) (branches net ts) v k
