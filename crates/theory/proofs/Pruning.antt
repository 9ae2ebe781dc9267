-- What pruning keeps, and how it ends: what is left of the last active cluster is joined, and no inactive cluster hangs by one edge.
use Rattle.std.proofs.Common.{◌≡◌, ℕ, zero, suc, ◌+◌, ◌<◌, ◌≤◌, Bool, true, false, not, ◌&&◌, eqb, ◌≢◌, ◌⊎◌, List, get_or, sym, refl, ap, ◌∙◌, subst, inl, inr, arith}
use Rattle.std.proofs.lemmas.Bool.{eqb-true, eq-eqb, or_left, or_right, or_cases, and_parts, and_from, cases_Bool, cases_eq, cases_lt, both_ways}
use Rattle.network.specs.Nets.{Net}
use Rattle.theory.specs.Sums.{sum_to, one}
use Rattle.theory.specs.Nets.{node_count, edge_count, first_end, second_end}
use Rattle.theory.specs.Clusters.{Cluster, Slot, cluster_active, holds, splits, Deep, Every, Shared}
use Rattle.theory.specs.Clusters.Cluster.{node, merged}
use Rattle.theory.specs.Clusters.Slot.{maximal, inside}
use Rattle.theory.specs.Trees.{Walk}
use Rattle.theory.specs.Trees.Walk.{stay, there, back}
use Rattle.theory.specs.Prune.{uses, chosen, grown_node, edges_within, degree, without}
use Rattle.theory.specs.Laws.{Nested}
use Rattle.theory.specs.Laws.Nested.{in_second, in_first, apart}
use Rattle.theory.proofs.Bools.{only, one_true, differs_first, differs_second}
use Rattle.theory.proofs.Sums.{sum_to_at}
use Rattle.theory.proofs.Families.{deep_weaker, deep_head}
use Rattle.theory.proofs.Walks.{walk_on, walk_more, crossing}
use Rattle.theory.proofs.Slots.{maximal_all, all_maximal, same_maximal}
use Rattle.theory.proofs.Sharing.{Apart, parts_apart, once_in}
use Rattle.theory.proofs.Sharing as Sharing
use Rattle.theory.proofs.Invariant.{Bridge, Made, Fresh, absent}
use Rattle.theory.proofs.Inside.{Inside, touches, touched, witness, used_ends, any_at, any_found}
use Rattle.theory.proofs.Numbers.{Numbered}

-- growth at its end: one active maximal cluster, with a node that is in no inactive one
pub record Last (net : Net) (ts : List Slot) : Type 0 where
  pub r : ℕ
  pub R : Cluster
  pub at : get_or ts r inside ≡ maximal R
  pub still_active : cluster_active R ≡ true
  pub others : (c : ℕ) (t : Cluster) → get_or ts c inside ≡ maximal t → c ≢ r → cluster_active t ≡ false
  pub shared : Shared (node_count net) ts
  pub made : Every (Made net) ts
  pub numbered : Numbered ts
  pub root : ℕ
  pub held : holds R root ≡ true
  pub fresh : Fresh root R

-- where N has nodes of both parts it has both ends of their edge
abbrev pub TiedAt : Net → (ℕ → Bool) → Cluster → Type 0
TiedAt net N (node o v) = Unit {0}
TiedAt net N (merged o c e l r) = touches N l ≡ true → touches N r ≡ true → (N (first_end net e) ≡ true) × (N (second_end net e) ≡ true)

-- a cluster's own edge is one that t was made by
abbrev pub UsedBy : Cluster → Cluster → Type 0
UsedBy t (node o v) = Unit {0}
UsedBy t (merged o c e l r) = uses t e ≡ true

used_more : (t t' : Cluster) → ((s : ℕ) → uses t s ≡ true → uses t' s ≡ true) → (u : Cluster) → UsedBy t u → UsedBy t' u
used_more t t' f (node o v) h = tt
used_more t t' f (merged o c e l r) h = f e h

pub deep_used : (t : Cluster) → Deep (UsedBy t) t
deep_used (node o v) = tt
deep_used (merged o c e l r) = (
  or_left (eqb e e) _ (eq-eqb e e refl),
  deep_weaker (UsedBy l) (UsedBy (merged o c e l r)) (used_more l (merged o c e l r) (λ s h. or_right (eqb e s) _ (or_left (uses l s) _ h))) l (deep_used l),
  deep_weaker (UsedBy r) (UsedBy (merged o c e l r)) (used_more r (merged o c e l r) (λ s h. or_right (eqb e s) _ (or_right (uses l s) _ h))) r (deep_used r),
)

-- two different edges make a degree of two
sum_to_two : (n : ℕ) (f : ℕ → ℕ) (i j : ℕ) → i < n → j < n → i ≢ j → f i + f j ≤ sum_to n f
sum_to_two zero f i j a b ne = absurd (omega arith)
sum_to_two (suc n) f i j a b ne = elim (cases_eq i n) [
  | inl e ↦ let x = sum_to_at n f j (omega arith) in let k : f i ≡ f n = ap f e in omega arith
  | inr e ↦ elim (cases_eq j n) [
    | inl g ↦ let x = sum_to_at n f i (omega arith) in let k : f j ≡ f n = ap f g in omega arith
    | inr g ↦ let x = sum_to_two n f i j (omega arith) (omega arith) ne in omega arith
  ]
]

pub sum_to_some : (n : ℕ) (f : ℕ → ℕ) → 1 ≤ sum_to n f → (i : ℕ) × (i < n) × (1 ≤ f i)
sum_to_some zero f h = absurd (omega arith)
sum_to_some (suc n) f h = go (cases_lt 0 (f n)) (sum_to_some n f)
  where
    go : (0 < f n) ⊎ (f n ≤ 0) → (1 ≤ sum_to n f → (i : ℕ) × (i < n) × (1 ≤ f i)) → (i : ℕ) × (i < suc n) × (1 ≤ f i)
    go (inl a) k = (n, omega arith, omega arith)
    go (inr a) k = let x = k (omega arith) in (x.0, (let y = x.1 in omega arith), x.2)

pub crossing_counts : (net : Net) (E : ℕ → Bool) (u : Cluster) (s : ℕ) → s < edge_count net → E s ≡ true → splits u (first_end net s) (second_end net s) ≡ true → 1 ≤ degree net E u
crossing_counts net E u s l e x =
    let a = sum_to_at (edge_count net) (λ i. one (E i && splits u (first_end net i) (second_end net i))) s l in
    let b = one_true (E s && splits u (first_end net s) (second_end net s)) (and_from (E s) _ e x) in
    omega arith

not_held : (x y : Bool) → (x && not y) ≡ true → y ≡ false
not_held true true e = sym e
not_held true false e = refl
not_held false y e = let z : ◌≡◌ {A = ℕ} 0 1 = cc in absurd (omega arith)

pub still : (x y : Bool) → x ≡ true → y ≡ false → (x && not y) ≡ true
still x y p q = cc

-- what pruning has kept so far
pub record Sofar (net : Net) (ts : List Slot) (x : Last net ts) (N : ℕ → Bool) : Type 0 where
  pub within : (v : ℕ) → N v ≡ true → holds x.R v ≡ true
  pub tied : Deep (TiedAt net N) x.R
  pub rooted : N x.root ≡ true
  pub gone : (v : ℕ) → holds x.R v ≡ true → N v ≡ false → (u : Cluster) × Inside u x.R × (cluster_active u ≡ false) × (holds u v ≡ true) × ((w : ℕ) → holds u w ≡ true → N w ≡ false)

module _ (net : Net) (ts : List Slot) (x : Last net ts) where
  pub bridges : Deep (Bridge net) x.R
  bridges = deep_weaker (Made net) (Bridge net) (λ u m. m.2) x.R (maximal_all (Deep (Made net)) ts x.r x.R x.made x.at)

  pub parts_off : Deep Apart x.R
  parts_off = parts_apart x.R (λ v. once_in (node_count net) ts x.shared x.r x.R v x.at)

  -- a maximal cluster that shares a node with the last active one is that one
  pub only_last : (c : ℕ) (t : Cluster) (v : ℕ) → get_or ts c inside ≡ maximal t → holds t v ≡ true → holds x.R v ≡ true → (c ≡ x.r) × (t ≡ x.R)
  only_last c t v e h k = elim (cases_eq c x.r) [
    | inl g ↦ (g, same_maximal t x.R (sym e ∙ ap (λ i. get_or ts i inside) g ∙ x.at))
    | inr g ↦ absurd (both_ways (holds x.R v) (Sharing.apart (node_count net) ts x.shared c x.r t x.R v e x.at g h) k)
  ]

  pub grown_is : (v : ℕ) → grown_node ts v ≡ holds x.R v
  grown_is v = elim (cases_Bool (holds x.R v)) [
    | inl h ↦ any_at (λ t. cluster_active t && holds t v) ts x.r x.R x.at (and_from (cluster_active x.R) _ x.still_active h) ∙ sym h
    | inr h ↦ only (grown_node ts v) (λ k. none (any_found (λ t. cluster_active t && holds t v) ts k) h) ∙ sym h
  ]
    where
      none : (c : ℕ) × (t : Cluster) × (get_or ts c inside ≡ maximal t) × ((cluster_active t && holds t v) ≡ true) → holds x.R v ≡ false → ⊥
      none (c, t, e, k) h =
          let p = and_parts (cluster_active t) (holds t v) k in
          elim (cases_eq c x.r) [
            | inl g ↦ let same = same_maximal t x.R (sym e ∙ ap (λ i. get_or ts i inside) g ∙ x.at) in both_ways (holds x.R v) h (ap (λ u. holds u v) (sym same) ∙ p.1)
            | inr g ↦ both_ways (cluster_active t) (x.others c t e g) p.0
          ]

  -- the root is in no inactive cluster
  pub root_fresh : Every (λ u. holds u x.root ≡ true → cluster_active u ≡ true) ts
  root_fresh = all_maximal (Deep (λ u. holds u x.root ≡ true → cluster_active u ≡ true)) ts (λ c t e. elim (cases_eq c x.r) [
    | inl g ↦ subst (Fresh x.root) (same_maximal x.R t (sym x.at ∙ ap (λ i. get_or ts i inside) (sym g) ∙ e)) x.fresh
    | inr g ↦ absent x.root t (Sharing.apart (node_count net) ts x.shared x.r c x.R t x.root x.at e (λ z. g (sym z)) x.held)
  ])

  module _ (N : ℕ → Bool) (within : (v : ℕ) → N v ≡ true → holds x.R v ≡ true) where
    abbrev E : ℕ → Bool
    E = edges_within net ts N

    pub in_e : (s : ℕ) → edges_within net ts N s ≡ true → (chosen ts s ≡ true) × (N (first_end net s) ≡ true) × (N (second_end net s) ≡ true)
    in_e s h =
        let a = and_parts (chosen ts s) _ h in
        let b = and_parts (N (first_end net s)) _ a.1 in
        (a.0, b.0, b.1)

    -- the edges left are of the last active cluster
    pub e_used : (s : ℕ) → edges_within net ts N s ≡ true → uses x.R s ≡ true
    e_used s h =
        let i = in_e s h in
        let a = any_found (λ t. uses t s) ts i.0 in
        let b = deep_weaker (Made net) (Bridge net) (λ u m. m.2) a.1 (maximal_all (Deep (Made net)) ts a.0 a.1 x.made a.2) in
        let c = used_ends net s a.1 b a.3 in
        let d = only_last a.0 a.1 (first_end net s) a.2 c.1 (within (first_end net s) i.1) in
        ap (λ t. uses t s) (sym d.1) ∙ a.3

    pub e_below : (s : ℕ) → edges_within net ts N s ≡ true → s < edge_count net
    e_below s h = (used_ends net s x.R bridges (e_used s h)).0

    pub e_has : (s : ℕ) → uses x.R s ≡ true → N (first_end net s) ≡ true → N (second_end net s) ≡ true → edges_within net ts N s ≡ true
    e_has s h a b = and_from (chosen ts s) _ (any_at (λ t. uses t s) ts x.r x.R x.at h) (and_from (N (first_end net s)) _ a b)

    -- the edges left with both ends in a cluster
    abbrev pub Within : Cluster → ℕ → Bool
    Within t s = E s && (holds t (first_end net s) && holds t (second_end net s))

    abbrev Joins : Cluster → Type 0
    Joins t = (u v : ℕ) → holds t u ≡ true → holds t v ≡ true → N u ≡ true → N v ≡ true → Walk net (Within t) u v

    -- the nodes of N in a cluster are joined by edges inside it
    pub joins : (t : Cluster) → Deep (Bridge net) t → Deep (TiedAt net N) t → Deep (UsedBy x.R) t → Joins t
    joins (node o w) b k d u v hu hv nu nv = subst (Walk net (Within (node o w)) u) (sym (eqb-true w u hu) ∙ eqb-true w v hv) stay
    joins (merged o c e l r) b k d u v hu hv nu nv = go (or_cases (holds l u) (holds r u) hu) (or_cases (holds l v) (holds r v) hv) (joins l b.1 k.1 d.1) (joins r b.2 k.2 d.2)
      where
        t : Cluster
        t = merged o c e l r

        bigger : (w : Cluster) → ((i : ℕ) → holds w i ≡ true → holds t i ≡ true) → (s : ℕ) → Within w s ≡ true → Within t s ≡ true
        bigger w sub s h =
            let p = and_parts (E s) _ h in
            let q = and_parts (holds w (first_end net s)) _ p.1 in
            and_from (E s) _ p.0 (and_from (holds t (first_end net s)) _ (sub (first_end net s) q.0) (sub (second_end net s) q.1))

        from_l : (s : ℕ) → Within l s ≡ true → Within t s ≡ true
        from_l = bigger l (λ i h. or_left (holds l i) _ h)

        from_r : (s : ℕ) → Within r s ≡ true → Within t s ≡ true
        from_r = bigger r (λ i h. or_right (holds l i) _ h)

        ends : (w z : ℕ) → holds l w ≡ true → holds r z ≡ true → N w ≡ true → N z ≡ true → (N (first_end net e) ≡ true) × (N (second_end net e) ≡ true)
        ends w z hw hz nw nz = k.0 (touched N l w hw nw) (touched N r z hz nz)

        own : (N (first_end net e) ≡ true) × (N (second_end net e) ≡ true) → Within t e ≡ true
        own (na, nb) = and_from (E e) _ (e_has e d.0 na nb) (and_from (holds t (first_end net e)) _ (or_left (holds l (first_end net e)) _ b.0.1) (or_right (holds l (second_end net e)) _ b.0.2))

        go : (holds l u ≡ true) ⊎ (holds r u ≡ true) → (holds l v ≡ true) ⊎ (holds r v ≡ true) → Joins l → Joins r → Walk net (Within t) u v
        go (inl p) (inl q) jl jr = walk_more (Within t) from_l (jl u v p q nu nv)
        go (inr p) (inr q) jl jr = walk_more (Within t) from_r (jr u v p q nu nv)
        go (inl p) (inr q) jl jr =
            let n = ends u v p q nu nv in
            walk_on (walk_more (Within t) from_l (jl u (first_end net e) p b.0.1 nu n.0)) (there e (own n) (walk_more (Within t) from_r (jr (second_end net e) v b.0.2 q n.1 nv)))
        go (inr p) (inl q) jl jr =
            let n = ends v u q p nv nu in
            walk_on (walk_more (Within t) from_r (jr u (second_end net e) p b.0.2 nu n.1)) (back e (own n) (walk_more (Within t) from_l (jl (first_end net e) v b.0.1 q n.0 nv)))

    pub joined_all : Deep (TiedAt net N) x.R → (u v : ℕ) → N u ≡ true → N v ≡ true → Walk net (edges_within net ts N) u v
    joined_all k u v nu nv = walk_more E (λ s h. (and_parts (E s) _ h).0) (joins x.R bridges k (deep_used x.R) u v (within u nu) (within v nv) nu nv)

    -- one cluster Z is taken away
    module _ (Z : Cluster) (one-edge : degree net (edges_within net ts N) Z ≡ 1) where
      abbrev M : ℕ → Bool
      M = without N Z

      -- no two different edges left cross Z
      alone_crossing : (s e : ℕ) → E s ≡ true → E e ≡ true → splits Z (first_end net s) (second_end net s) ≡ true → splits Z (first_end net e) (second_end net e) ≡ true → s ≢ e → ⊥
      alone_crossing s e p q i j ne =
          let a = sum_to_two (edge_count net) (λ k. one (E k && splits Z (first_end net k) (second_end net k))) s e (e_below s p) (e_below e q) ne in
          let b = one_true (E s && splits Z (first_end net s) (second_end net s)) (and_from (E s) _ p i) in
          let c = one_true (E e && splits Z (first_end net e) (second_end net e)) (and_from (E e) _ q j) in
          omega arith

      pub tied_after : (t : Cluster) → Deep (Nested Z) t → Deep (Bridge net) t → Deep Apart t → Deep (UsedBy x.R) t → Deep (TiedAt net N) t → Deep (TiedAt net M) t
      tied_after (node o v) n b a d k = tt
      tied_after (merged o c e l r) n b a d k = (here, tied_after l n.1 b.1 a.1 d.1 k.1, tied_after r n.2 b.2 a.2 d.2 k.2)
        where
          fa : ℕ
          fa = first_end net e

          fb : ℕ
          fb = second_end net e

          here : touches M l ≡ true → touches M r ≡ true → (M (first_end net e) ≡ true) × (M (second_end net e) ≡ true)
          here p q = (still (N fa) (holds Z fa) ends.0 (only (holds Z fa) first_out), still (N fb) (holds Z fb) ends.1 (only (holds Z fb) second_out))
            where
              w : (v : ℕ) × (holds l v ≡ true) × (M v ≡ true)
              w = witness M l p

              z : (v : ℕ) × (holds r v ≡ true) × (M v ≡ true)
              z = witness M r q

              nw : N w.0 ≡ true
              nw = (and_parts (N w.0) _ w.2).0

              nz : N z.0 ≡ true
              nz = (and_parts (N z.0) _ z.2).0

              ends : (N (first_end net e) ≡ true) × (N (second_end net e) ≡ true)
              ends = k.0 (touched N l w.0 w.1 nw) (touched N r z.0 z.1 nz)

              e_in : E e ≡ true
              e_in = e_has e d.0 ends.0 ends.1

              -- an edge of a part is not e
              inner_l : (s : ℕ) → Within l s ≡ true → s ≢ e
              inner_l s h g =
                  let i = and_parts (holds l (first_end net s)) _ (and_parts (E s) _ h).1 in
                  both_ways (holds r fb) (a.0 fb (ap (λ i. holds l (second_end net i)) (sym g) ∙ i.1)) b.0.2

              inner_r : (s : ℕ) → Within r s ≡ true → s ≢ e
              inner_r s h g =
                  let i = and_parts (holds r (first_end net s)) _ (and_parts (E s) _ h).1 in
                  both_ways (holds r fa) (a.0 fa b.0.1) (ap (λ i. holds r (first_end net i)) (sym g) ∙ i.0)

              first_out : holds Z fa ≡ true → ⊥
              first_out h = elim (deep_head (Nested Z) l n.1) [
                | apart f ↦ both_ways (holds l fa) (f fa h) b.0.1
                | in_first f ↦ both_ways (holds Z w.0) (not_held (N w.0) (holds Z w.0) w.2) (f w.0 w.1)
                | in_second f ↦
                    let i = crossing net (Within l) (holds Z) (joins l b.1 k.1 d.1 fa w.0 b.0.1 w.1 ends.0 nw) h (not_held (N w.0) (holds Z w.0) w.2) in
                    let out : holds Z fb ≡ false = only (holds Z fb) (λ j. both_ways (holds r fb) (a.0 fb (f fb j)) b.0.2) in
                    alone_crossing i.0 e (and_parts (E i.0) _ i.1).0 e_in i.2 (differs_first (holds Z fa) (holds Z fb) h out) (inner_l i.0 i.1)
              ]

              second_out : holds Z fb ≡ true → ⊥
              second_out h = elim (deep_head (Nested Z) r n.2) [
                | apart f ↦ both_ways (holds r fb) (f fb h) b.0.2
                | in_first f ↦ both_ways (holds Z z.0) (not_held (N z.0) (holds Z z.0) z.2) (f z.0 z.1)
                | in_second f ↦
                    let i = crossing net (Within r) (holds Z) (joins r b.2 k.2 d.2 fb z.0 b.0.2 z.1 ends.1 nz) h (not_held (N z.0) (holds Z z.0) z.2) in
                    let out : holds Z fa ≡ false = only (holds Z fa) (λ j. both_ways (holds r fa) (a.0 fa b.0.1) (f fa j)) in
                    alone_crossing i.0 e (and_parts (E i.0) _ i.1).0 e_in i.2 (differs_second (holds Z fa) (holds Z fb) out h) (inner_r i.0 i.1)
              ]
