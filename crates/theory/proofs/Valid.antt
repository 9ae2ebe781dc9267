-- What a valid network has: its limits, and ends that are entered and differ.
use Rattle.std.proofs.Common.{◌≡◌, ℕ, zero, suc, ◌<◌, ◌≤◌, Bool, true, not, ◌&&◌, eqb, ltb, leb, ◌≢◌, List, [], ◌∷◌, length, get_or, sym, refl, ap, ◌∙◌, subst, inl, inr, arith}
use Rattle.std.proofs.lemmas.Bool.{and_parts, ltb-true, leb-true, not-true, eqb-false, cases_lt}
use Rattle.network.specs.Codes.{all}
use Rattle.network.specs.Nets.{Net, valid, valid_link, valid_prize}
use Rattle.theory.specs.Nets.{node_count, edge_count, no_link, prize, first_end, second_end, cost}

pub record Fine (net : Net) : Type 0 where
  pub few_nodes : node_count net ≤ 256
  pub few_edges : edge_count net ≤ 1024
  pub prizes : (v : ℕ) → prize net v ≤ 1000000000
  pub costs : (s : ℕ) → cost net s ≤ 1000000000
  pub firsts : (s : ℕ) → s < edge_count net → first_end net s < node_count net
  pub seconds : (s : ℕ) → s < edge_count net → second_end net s < node_count net
  pub apart : (s : ℕ) → s < edge_count net → first_end net s ≢ second_end net s
  pub unknown : (s : ℕ) → edge_count net ≤ s → first_end net s ≡ second_end net s

all_at : {X : Type 0} (p : X → Bool) (xs : List X) (i : ℕ) (d : X) → all p xs ≡ true → i < length xs → p (get_or xs i d) ≡ true
all_at p [] i d h l = absurd (omega arith)
all_at p (x ∷ xs) zero d h l = (and_parts (p x) (all p xs) h).0
all_at p (x ∷ xs) (suc i) d h l = all_at p xs i d (and_parts (p x) (all p xs) h).1 (omega arith)

past : {X : Type 0} (xs : List X) (i : ℕ) (d : X) → length xs ≤ i → get_or xs i d ≡ d
past [] i d l = refl
past (x ∷ xs) zero d l = absurd (omega arith)
past (x ∷ xs) (suc i) d l = past xs i d (omega arith)

by_place : {X : Type 0} (P : X → Type 0) (xs : List X) (i : ℕ) (d : X) → P d → (i < length xs → P (get_or xs i d)) → P (get_or xs i d)
by_place P xs i d h f = elim (cases_lt i (length xs)) [ inl l ↦ f l | inr l ↦ subst P (sym (past xs i d l)) h ]

pub fine : (net : Net) → valid net ≡ true → Fine net
fine net h = record {
  few_nodes = leb-true n 256 a.0;
  few_edges = leb-true m 1024 b.0;
  prizes = λ v. by_place (λ p. p ≤ 1000000000) net.prizes v 0 (omega arith) (λ l. leb-true (prize net v) 1000000000 (all_at valid_prize net.prizes v 0 c.0 l));
  costs = λ s. by_place (λ e. e.cost ≤ 1000000000) net.edges s no_link (omega arith) (λ l. leb-true (cost net s) 1000000000 (link s l).3);
  firsts = λ s l. ltb-true (first_end net s) n (link s l).0;
  seconds = λ s l. ltb-true (second_end net s) n (link s l).1;
  apart = λ s l. eqb-false (first_end net s) (second_end net s) (not-true (eqb (first_end net s) (second_end net s)) (link s l).2);
  unknown = λ s l. ap (λ e. e.first) (past net.edges s no_link l) ∙ sym (ap (λ e. e.second) (past net.edges s no_link l));
}
  where
    n : ℕ
    n = node_count net

    m : ℕ
    m = edge_count net

    a : (leb n 256 ≡ true) × ((leb m 1024 && (all valid_prize net.prizes && all (valid_link n) net.edges)) ≡ true)
    a = and_parts (leb n 256) _ h

    b : (leb m 1024 ≡ true) × ((all valid_prize net.prizes && all (valid_link n) net.edges) ≡ true)
    b = and_parts (leb m 1024) _ a.1

    c : (all valid_prize net.prizes ≡ true) × (all (valid_link n) net.edges ≡ true)
    c = and_parts (all valid_prize net.prizes) _ b.1

    link : (s : ℕ) → s < m → (ltb (first_end net s) n ≡ true) × (ltb (second_end net s) n ≡ true) × (not (eqb (first_end net s) (second_end net s)) ≡ true) × (leb (cost net s) 1000000000 ≡ true)
    link s l =
        let x = all_at (valid_link n) net.edges s no_link c.1 l in
        let y = and_parts (ltb (first_end net s) n) _ x in
        let z = and_parts (ltb (second_end net s) n) _ y.1 in
        let w = and_parts (not (eqb (first_end net s) (second_end net s))) _ z.1 in
        (y.0, z.0, w.0, (and_parts (leb (cost net s) 1000000000) _ w.1).0)
