-- The edges that made a cluster have no ring, and between two parts of it there is only the edge that merged them.
use Rattle.std.proofs.Common.{◌≡◌, ℕ, Bool, true, false, cond, ◌&&◌, ◌||◌, eqb, ◌≢◌, ◌⊎◌, sym, refl, ap, ◌∙◌, inl, inr, arith}
use Rattle.std.proofs.lemmas.Bool.{eqb-true, eqb-false, or_left, or_right, or_cases, and_parts, cases_eq, both_ways, cond-true, cond-false, not-true}
use Rattle.network.specs.Nets.{Net}
use Rattle.theory.specs.Nets.{first_end, second_end}
use Rattle.theory.specs.Clusters.{Cluster, holds, Deep}
use Rattle.theory.specs.Clusters.Cluster.{node, merged}
use Rattle.theory.specs.Trees.{Walk, but}
use Rattle.theory.specs.Trees.Walk.{stay, there, back}
use Rattle.theory.specs.Prune.{uses}
use Rattle.theory.proofs.Families.{deep_weaker}
use Rattle.theory.proofs.Sharing.{Apart}
use Rattle.theory.proofs.Laminar.{Sub, deep_sub}
use Rattle.theory.proofs.Invariant.{Bridge}
use Rattle.theory.proofs.Inside.{used_ends}

-- a labelling of the nodes that tells the ends of e apart and those of no other edge of t
pub record Labels (net : Net) (t : Cluster) (e : ℕ) : Type 0 where
  pub label : ℕ → Bool
  pub apart : label (first_end net e) ≡ label (second_end net e) → ⊥
  pub same : (s : ℕ) → uses t s ≡ true → s ≢ e → label (first_end net s) ≡ label (second_end net s)

off : (x y : Bool) → (x ≡ true → y ≡ false) → y ≡ true → x ≡ false
off true y f e = absurd (both_ways y (f refl) e)
off false y f e = refl

pub labels : (net : Net) (t : Cluster) → Deep (Bridge net) t → Deep Apart t → (e : ℕ) → uses t e ≡ true → Labels net t e
labels net (node o v) b a e h = let z : ◌≡◌ {A = ℕ} 0 1 = cc in absurd (omega arith)
labels net (merged o c e₀ l r) b a e h = go (cases_eq e₀ e) (labels net l b.1 a.1 e) (labels net r b.2 a.2 e)
  where
    t : Cluster
    t = merged o c e₀ l r

    -- both ends in one part
    in_l : (s : ℕ) → uses l s ≡ true → (holds l (first_end net s) ≡ true) × (holds l (second_end net s) ≡ true)
    in_l s k = let x = used_ends net s l b.1 k in (x.1, x.2)

    in_r : (s : ℕ) → uses r s ≡ true → (holds l (first_end net s) ≡ false) × (holds l (second_end net s) ≡ false)
    in_r s k = let x = used_ends net s r b.2 k in (off (holds l (first_end net s)) (holds r (first_end net s)) (a.0 (first_end net s)) x.1, off (holds l (second_end net s)) (holds r (second_end net s)) (a.0 (second_end net s)) x.2)

    a_in : holds l (first_end net e₀) ≡ true
    a_in = b.0.1

    b_out : holds l (second_end net e₀) ≡ false
    b_out = off (holds l (second_end net e₀)) (holds r (second_end net e₀)) (a.0 (second_end net e₀)) b.0.2

    split : (s : ℕ) → uses t s ≡ true → (e₀ ≡ s) ⊎ ((uses l s ≡ true) ⊎ (uses r s ≡ true))
    split s k = elim (or_cases (eqb e₀ s) (uses l s || uses r s) k) [ inl i ↦ inl (eqb-true e₀ s i) | inr i ↦ inr (or_cases (uses l s) (uses r s) i) ]

    go : (e₀ ≡ e) ⊎ (e₀ ≡ e → ⊥) → (uses l e ≡ true → Labels net l e) → (uses r e ≡ true → Labels net r e) → Labels net t e
    go (inl q) f g = record {
      label = holds l;
      apart = λ k. both_ways (holds l (second_end net e₀)) b_out (ap (λ i. holds l (second_end net i)) q ∙ sym k ∙ ap (λ i. holds l (first_end net i)) (sym q) ∙ a_in);
      same = λ s k ne. elim (split s k) [
        | inl i ↦ absurd (ne (sym i ∙ q))
        | inr i ↦ elim i [
          | inl j ↦ (in_l s j).0 ∙ sym (in_l s j).1
          | inr j ↦ (in_r s j).0 ∙ sym (in_r s j).1
        ]
      ];
    }
    go (inr q) f g = elim (split e h) [
      | inl i ↦ absurd (q i)
      | inr i ↦ elim i [
        | inl j ↦ by_l (f j) (in_l e j)
        | inr j ↦ by_r (g j) (in_r e j)
      ]
    ]
      where
        by_l : Labels net l e → (holds l (first_end net e) ≡ true) × (holds l (second_end net e) ≡ true) → Labels net t e
        by_l L ends = record {
          label = lab;
          apart = λ k. L.apart (sym (in_lab (first_end net e) ends.0) ∙ k ∙ in_lab (second_end net e) ends.1);
          same = λ s k ne. elim (split s k) [
            | inl i ↦ ap (λ z. lab (first_end net z)) (sym i) ∙ in_lab (first_end net e₀) a_in ∙ sym (out_lab (second_end net e₀) b_out) ∙ ap (λ z. lab (second_end net z)) i
            | inr i ↦ elim i [
              | inl j ↦ in_lab (first_end net s) (in_l s j).0 ∙ L.same s j ne ∙ sym (in_lab (second_end net s) (in_l s j).1)
              | inr j ↦ out_lab (first_end net s) (in_r s j).0 ∙ sym (out_lab (second_end net s) (in_r s j).1)
            ]
          ];
        }
          where
            lab : ℕ → Bool
            lab v = cond (holds l v) (L.label v) (L.label (first_end net e₀))

            in_lab : (v : ℕ) → holds l v ≡ true → lab v ≡ L.label v
            in_lab v k = cond-true (holds l v) (L.label v) (L.label (first_end net e₀)) k

            out_lab : (v : ℕ) → holds l v ≡ false → lab v ≡ L.label (first_end net e₀)
            out_lab v k = cond-false (holds l v) (L.label v) (L.label (first_end net e₀)) k

        by_r : Labels net r e → (holds l (first_end net e) ≡ false) × (holds l (second_end net e) ≡ false) → Labels net t e
        by_r L ends = record {
          label = lab;
          apart = λ k. L.apart (sym (out_lab (first_end net e) ends.0) ∙ k ∙ out_lab (second_end net e) ends.1);
          same = λ s k ne. elim (split s k) [
            | inl i ↦ ap (λ z. lab (first_end net z)) (sym i) ∙ in_lab (first_end net e₀) a_in ∙ sym (out_lab (second_end net e₀) b_out) ∙ ap (λ z. lab (second_end net z)) i
            | inr i ↦ elim i [
              | inl j ↦ in_lab (first_end net s) (in_l s j).0 ∙ sym (in_lab (second_end net s) (in_l s j).1)
              | inr j ↦ out_lab (first_end net s) (in_r s j).0 ∙ L.same s j ne ∙ sym (out_lab (second_end net s) (in_r s j).1)
            ]
          ];
        }
          where
            lab : ℕ → Bool
            lab v = cond (holds l v) (L.label (second_end net e₀)) (L.label v)

            in_lab : (v : ℕ) → holds l v ≡ true → lab v ≡ L.label (second_end net e₀)
            in_lab v k = cond-true (holds l v) (L.label (second_end net e₀)) (L.label v) k

            out_lab : (v : ℕ) → holds l v ≡ false → lab v ≡ L.label v
            out_lab v k = cond-false (holds l v) (L.label (second_end net e₀)) (L.label v) k

-- a walk over edges that keep a label keeps it
pub walk_label : (net : Net) (F L : ℕ → Bool) → ((s : ℕ) → F s ≡ true → L (first_end net s) ≡ L (second_end net s)) → {u v : ℕ} → Walk net F u v → L u ≡ L v
walk_label net F L f stay = refl
walk_label net F L f (there s h w) = f s h ∙ walk_label net F L f w
walk_label net F L f (back s h w) = sym (f s h) ∙ walk_label net F L f w

pub no_ring : (net : Net) (t : Cluster) → Deep (Bridge net) t → Deep Apart t → (E : ℕ → Bool) → ((s : ℕ) → E s ≡ true → uses t s ≡ true) →
    (e : ℕ) → E e ≡ true → Walk net (but E e) (first_end net e) (second_end net e) → ⊥
no_ring net t b a E sub e h w =
    let L = labels net t b a e (sub e h) in
    L.apart (walk_label net (but E e) L.label (λ s k. let p = and_parts (E s) _ k in L.same s (sub s p.0) (eqb-false s e (not-true (eqb s e) p.1))) w)

-- the edge s has an end in each of two clusters
abbrev pub between : Net → Cluster → Cluster → ℕ → Bool
between net l r s = (holds l (first_end net s) && holds r (second_end net s)) || (holds l (second_end net s) && holds r (first_end net s))

-- of the edges that made t, only a cluster's own goes between its parts
abbrev pub Sole : Net → ℕ → Cluster → Type 0
Sole net s (node o v) = Unit {0}
Sole net s (merged o c e l r) = between net l r s ≡ true → s ≡ e

-- both ends of an edge between two parts are in the cluster
pub between_ends : (net : Net) (o : _) (c e : ℕ) (l r : Cluster) (s : ℕ) → between net l r s ≡ true → (holds (merged o c e l r) (first_end net s) ≡ true) × (holds (merged o c e l r) (second_end net s) ≡ true)
between_ends net o c e l r s h = elim (or_cases (holds l (first_end net s) && holds r (second_end net s)) _ h) [
  | inl k ↦ let p = and_parts (holds l (first_end net s)) _ k in (or_left (holds l (first_end net s)) _ p.0, or_right (holds l (second_end net s)) _ p.1)
  | inr k ↦ let p = and_parts (holds l (second_end net s)) _ k in (or_right (holds l (first_end net s)) _ p.1, or_left (holds l (second_end net s)) _ p.0)
]

-- an edge that does not have both ends in t goes between no two parts of it
pub sole_out : (net : Net) (s : ℕ) (t : Cluster) → (holds t (first_end net s) ≡ true → holds t (second_end net s) ≡ true → ⊥) → Deep (Sole net s) t
sole_out net s t f = deep_weaker (Sub t) (Sole net s) at t (deep_sub t)
  where
    at : (u : Cluster) → Sub t u → Sole net s u
    at (node o v) k = tt
    at (merged o c e l r) k = λ h. let p = between_ends net o c e l r s h in absurd (f (k (first_end net s) p.0) (k (second_end net s) p.1))

pub sole : (net : Net) (s : ℕ) (t : Cluster) → Deep (Bridge net) t → Deep Apart t → uses t s ≡ true → Deep (Sole net s) t
sole net s (node o v) b a h = tt
sole net s (merged o c e l r) b a h = go (or_cases (eqb e s) (uses l s || uses r s) h) (sole net s l b.1 a.1) (sole net s r b.2 a.2)
  where
    Goal : Type 0
    Goal = (between net l r s ≡ true → s ≡ e) × Deep (Sole net s) l × Deep (Sole net s) r

    not_both_l : e ≡ s → holds l (first_end net s) ≡ true → holds l (second_end net s) ≡ true → ⊥
    not_both_l q i j = both_ways (holds r (second_end net e)) (a.0 (second_end net e) (ap (λ k. holds l (second_end net k)) q ∙ j)) b.0.2

    not_both_r : e ≡ s → holds r (first_end net s) ≡ true → holds r (second_end net s) ≡ true → ⊥
    not_both_r q i j = both_ways (holds r (first_end net e)) (a.0 (first_end net e) b.0.1) (ap (λ k. holds r (first_end net k)) q ∙ i)

    inner_l : uses l s ≡ true → Deep (Sole net s) l → Goal
    inner_l k d =
        let x = used_ends net s l b.1 k in (
          (λ h. absurd (elim (or_cases (holds l (first_end net s) && holds r (second_end net s)) _ h) [
            | inl i ↦ both_ways (holds r (second_end net s)) (a.0 (second_end net s) x.2) (and_parts (holds l (first_end net s)) _ i).1
            | inr i ↦ both_ways (holds r (first_end net s)) (a.0 (first_end net s) x.1) (and_parts (holds l (second_end net s)) _ i).1
          ])),
          d,
          sole_out net s r (λ i j. both_ways (holds r (first_end net s)) (a.0 (first_end net s) x.1) i),
        )

    inner_r : uses r s ≡ true → Deep (Sole net s) r → Goal
    inner_r k d =
        let x = used_ends net s r b.2 k in (
          (λ h. absurd (elim (or_cases (holds l (first_end net s) && holds r (second_end net s)) _ h) [
            | inl i ↦ both_ways (holds r (first_end net s)) (a.0 (first_end net s) (and_parts (holds l (first_end net s)) _ i).0) x.1
            | inr i ↦ both_ways (holds r (second_end net s)) (a.0 (second_end net s) (and_parts (holds l (second_end net s)) _ i).0) x.2
          ])),
          sole_out net s l (λ i j. both_ways (holds r (first_end net s)) (a.0 (first_end net s) i) x.1),
          d,
        )

    go : (eqb e s ≡ true) ⊎ ((uses l s || uses r s) ≡ true) → (uses l s ≡ true → Deep (Sole net s) l) → (uses r s ≡ true → Deep (Sole net s) r) → Goal
    go (inl k) f g = let q = eqb-true e s k in ((λ h. sym q), sole_out net s l (not_both_l q), sole_out net s r (not_both_r q))
    go (inr k) f g = elim (or_cases (uses l s) (uses r s) k) [ inl i ↦ inner_l i (f i) | inr i ↦ inner_r i (g i) ]
