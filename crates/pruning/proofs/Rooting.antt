-- What is hung from a root is a tree of entered edges, and its nodes are those of the network. Assumes nothing.
use Rattle.std.proofs.Common.{◌≡◌, ℕ, zero, suc, ◌<◌, Bool, true, false, ◌&&◌, List, ◌∷◌, Some, None, Option, sym, refl, subst, inl, inr, arith}
use Rattle.std.proofs.lemmas.Bool.{and_parts, lt-ltb, ltb-true}
use Rattle.network.specs.Nets.{Net}
use Rattle.theory.specs.Sums.{differ}
use Rattle.theory.specs.Nets.{node_count, edge_count, first_end, second_end}
use Rattle.theory.specs.Strong.{Branch, hung, Joins, Hang, branch, next_edge, hang_from}
use Rattle.theory.proofs.Valid.{Fine}
use Rattle.theory.proofs.Hanging.{lowest_some}
use Rattle.pruning.specs.Branches.{entered}

-- one more branch
hang_more : (net : Net) (E : ℕ → Bool) (root : ℕ) (bs : List Branch) → Hang net E root bs → (s : ℕ) → E s ≡ true → differ (hung root bs (first_end net s)) (hung root bs (second_end net s)) ≡ true → Hang net E root (branch net (hung root bs) s ∷ bs)
hang_more net E root bs h s e d = by (hung root bs (first_end net s)) refl (hung root bs (second_end net s)) refl d
  where
    by : (x : Bool) → hung root bs (first_end net s) ≡ x → (y : Bool) → hung root bs (second_end net s) ≡ y → differ x y ≡ true → Hang net E root (branch net (hung root bs) s ∷ bs)
    by true p true q d = let z : ◌≡◌ {A = ℕ} 0 1 = cc in absurd (omega arith)
    by true p false q d = subst (λ z. Hang net E root (branch net (λ v. z) s ∷ bs)) (sym p) (p, q, inl (refl, refl), e, h)
    by false p true q d = subst (λ z. Hang net E root (branch net (λ v. z) s ∷ bs)) (sym p) (q, p, inr (refl, refl), e, h)
    by false p false q d = let z : ◌≡◌ {A = ℕ} 0 1 = cc in absurd (omega arith)

pub hangs_entered : (net : Net) (E : ℕ → Bool) (root k : ℕ) (bs : List Branch) → Hang net (entered net) root bs → Hang net (entered net) root (hang_from k net E root bs)
hangs_entered net E root zero bs h = h
hangs_entered net E root (suc k) bs h = by (next_edge net E (hung root bs)) refl (hangs_entered net E root k)
  where
    test : ℕ → Bool
    test s = E s && differ (hung root bs (first_end net s)) (hung root bs (second_end net s))

    by : (o : Option ℕ) → next_edge net E (hung root bs) ≡ o → ((cs : List Branch) → Hang net (entered net) root cs → Hang net (entered net) root (hang_from k net E root cs)) →
        Hang net (entered net) root (elim o as (λ z. List Branch) [ Some s ↦ hang_from k net E root (branch net (hung root bs) s ∷ bs) | None ↦ bs ])
    by None e f = h
    by (Some s) e f =
        let a = lowest_some (edge_count net) test s e in
        f (branch net (hung root bs) s ∷ bs) (hang_more net (entered net) root bs h s (lt-ltb s (edge_count net) a.0) (and_parts (E s) _ a.1).1)

-- a branch joins nodes of the network by an edge of it
pub record Inside (net : Net) (b : Branch) : Type 0 where
  pub child : b.child < node_count net
  pub parent : b.parent < node_count net
  pub edge : b.edge < edge_count net

pub inside : (net : Net) → Fine net → (b : Branch) → Joins net b → entered net b.edge ≡ true → Inside net b
inside net f b j e =
    let l = ltb-true b.edge (edge_count net) e in
    let first = f.firsts b.edge l in
    let second = f.seconds b.edge l in
    elim j [
      | inl i ↦ record { child = subst (λ v. v < node_count net) i.1 second; parent = subst (λ v. v < node_count net) i.0 first; edge = l }
      | inr i ↦ record { child = subst (λ v. v < node_count net) i.0 first; parent = subst (λ v. v < node_count net) i.1 second; edge = l }
    ]
