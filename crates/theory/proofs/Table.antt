-- The table of due times, entry by entry, and the maximal cluster of a node.
use Rattle.std.proofs.Common.{◌≡◌, ℕ, zero, suc, ◌+◌, ◌-◌, ◌<◌, ◌≤◌, Bool, true, false, eqb, ◌≢◌, List, [], ◌∷◌, ◌++◌, map, length, get_or, None, sym, refl, ap, ◌∙◌, arith}
use Rattle.std.specs.List.{range_with_len as counting}
use Rattle.std.proofs.lemmas.Bool.{cond-true, cond-false, eq-eqb, ne_eqb}
use Rattle.std.proofs.lemmas.List.{length-append, get_or_append_left, get_or-append_right, get_or_past}
use Rattle.std.proofs.lemmas.List.FromFn.{length-map-range_with_len, get_or-map-range_with_len}
use Rattle.network.specs.Nets.{Net}
use Rattle.theory.specs.Nets.{first_end, second_end}
use Rattle.theory.specs.Clusters.{Cluster, Slot, cluster_active, holds, Shared}
use Rattle.theory.specs.Clusters.Slot.{maximal, inside}
use Rattle.theory.specs.Due.{slot_holds, slot_active, place, maximal_of, active_at, cluster_due, slack_due, edge_due, slack, due_times}
use Rattle.theory.proofs.Slots.{maximal_below}
use Rattle.theory.proofs.Sharing.{apart}

module _ {X : Type 0} (f g : ℕ → X) (n m : ℕ) (d : X) where
  abbrev two : List X
  two = map f (counting 0 n) ++ map g (counting 0 m)

  two_first : (c : ℕ) → c < n → get_or two c d ≡ f c
  two_first c l =
      get_or_append_left (map f (counting 0 n)) (map g (counting 0 m)) d c (let a = length-map-range_with_len f 0 n in omega arith)
      ∙ get_or-map-range_with_len f 0 n c c d l (omega arith)

  two_second : (s : ℕ) → s < m → get_or two (n + s) d ≡ g s
  two_second s l =
      get_or-append_right (map f (counting 0 n)) (map g (counting 0 m)) n (n + s) d (length-map-range_with_len f 0 n) (omega arith)
      ∙ get_or-map-range_with_len g 0 m (n + s - n) s d (omega arith) (omega arith)

  two_length : length two ≡ n + m
  two_length = length-append (map f (counting 0 n)) (map g (counting 0 m)) ∙ (let b = length-map-range_with_len f 0 n in let c = length-map-range_with_len g 0 m in omega arith)

  two_past : (k : ℕ) → n + m ≤ k → get_or two k d ≡ d
  two_past k l = get_or_past two k d (let a = two_length in omega arith)

pub table_length : (net : Net) (time : ℕ) (ts : List Slot) → length (due_times net time ts) ≡ 1535
unfolding due_times
table_length net time ts = two_length (λ c. cluster_due net time (get_or ts c inside)) (edge_due net time ts) 511 1024 None

pub table_cluster : (net : Net) (time : ℕ) (ts : List Slot) (c : ℕ) → c < 511 → get_or (due_times net time ts) c None ≡ cluster_due net time (get_or ts c inside)
unfolding due_times
table_cluster net time ts c l = two_first (λ c. cluster_due net time (get_or ts c inside)) (edge_due net time ts) 511 1024 None c l

pub table_edge : (net : Net) (time : ℕ) (ts : List Slot) (s : ℕ) → s < 1024 → get_or (due_times net time ts) (511 + s) None ≡ edge_due net time ts s
unfolding due_times
table_edge net time ts s l = two_second (λ c. cluster_due net time (get_or ts c inside)) (edge_due net time ts) 511 1024 None s l

pub table_past : (net : Net) (time : ℕ) (ts : List Slot) (k : ℕ) → 1535 ≤ k → get_or (due_times net time ts) k None ≡ None
unfolding due_times
table_past net time ts k l = two_past (λ c. cluster_due net time (get_or ts c inside)) (edge_due net time ts) 511 1024 None k l

-- the first place that passes
place_first : {X : Type 0} (p : X → Bool) (d : X) (xs : List X) (i : ℕ) → i < length xs → p (get_or xs i d) ≡ true → ((j : ℕ) → j < i → p (get_or xs j d) ≡ false) → place p xs ≡ i
place_first p d [] i l h k = absurd (omega arith)
place_first p d (x ∷ xs) zero l h k = cond-true (p x) 0 (place p xs + 1) h
place_first p d (x ∷ xs) (suc i) l h k =
    let a = cond-false (p x) 0 (place p xs + 1) (k 0 (omega arith)) in
    let b = place_first p d xs i (omega arith) h (λ j m. k (suc j) (omega arith)) in
    omega arith

module _ (n : ℕ) (ts : List Slot) (shared : Shared n ts) where
  -- the maximal cluster that holds a node is the one found
  pub maximal_of_is : (c : ℕ) (t : Cluster) (v : ℕ) → get_or ts c inside ≡ maximal t → holds t v ≡ true → maximal_of ts v ≡ c
  maximal_of_is c t v e h = place_first (slot_holds v) inside ts c (maximal_below ts c t e) (ap (slot_holds v) e ∙ h) (λ j l. by j (omega arith) (get_or ts j inside) refl)
    where
      by : (j : ℕ) → j ≢ c → (x : Slot) → get_or ts j inside ≡ x → slot_holds v (get_or ts j inside) ≡ false
      by j ne inside k = ap (slot_holds v) k
      by j ne (maximal u) k = ap (slot_holds v) k ∙ apart n ts shared c j t u v e k (λ x. ne (sym x)) h

  pub active_at_is : (c : ℕ) (t : Cluster) → get_or ts c inside ≡ maximal t → active_at ts c ≡ cluster_active t
  active_at_is c t e = ap slot_active e

  -- an edge's due time, by the maximal clusters of its ends
  pub edge_due_is : (net : Net) (time s p q : ℕ) (l r : Cluster) → get_or ts p inside ≡ maximal l → get_or ts q inside ≡ maximal r →
      holds l (first_end net s) ≡ true → holds r (second_end net s) ≡ true → p ≢ q → edge_due net time ts s ≡ slack_due (cluster_active l) (cluster_active r) time (slack net ts s)
  edge_due_is net time s p q l r pl qr a b ne =
      let x = maximal_of_is p l (first_end net s) pl a in
      let y = maximal_of_is q r (second_end net s) qr b in
      let differ' : maximal_of ts (first_end net s) ≡ maximal_of ts (second_end net s) → ⊥ = λ e. ne (sym x ∙ e ∙ y) in
      cond-false (eqb (maximal_of ts (first_end net s)) (maximal_of ts (second_end net s))) None _ (ne_eqb (maximal_of ts (first_end net s)) (maximal_of ts (second_end net s)) differ')
      ∙ ap (λ c. slack_due (active_at ts c) (active_at ts (maximal_of ts (second_end net s))) time (slack net ts s)) x
      ∙ ap (λ c. slack_due (active_at ts p) (active_at ts c) time (slack net ts s)) y
      ∙ ap (λ z. slack_due z (active_at ts q) time (slack net ts s)) (active_at_is p l pl)
      ∙ ap (λ z. slack_due (cluster_active l) z time (slack net ts s)) (active_at_is q r qr)

-- an edge inside one maximal cluster has no due time
pub edge_due_none : (net : Net) (time : ℕ) (ts : List Slot) (s : ℕ) → maximal_of ts (first_end net s) ≡ maximal_of ts (second_end net s) → edge_due net time ts s ≡ None
edge_due_none net time ts s e = cond-true (eqb (maximal_of ts (first_end net s)) (maximal_of ts (second_end net s))) None _ (eq-eqb (maximal_of ts (first_end net s)) (maximal_of ts (second_end net s)) e)
