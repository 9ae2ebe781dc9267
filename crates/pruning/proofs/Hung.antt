-- Hanging a tree branch by branch. Assumes nothing.
use Rattle.std.proofs.Common.{◌≡◌, ℕ, suc, ◌<◌, Bool, true, false, cond, ◌&&◌, ◌||◌, eqb, List, [], ◌∷◌, ◌++◌, map, length, set, replicate, Some, None, sym, refl, ap, ◌∙◌, arith}
use mathlib.Core.Path.{fun_ext}
use Rattle.std.proofs.lemmas.List.{reverse-append, length-replicate, length-set}
use Rattle.network.specs.Nets.{Net}
use Rattle.theory.specs.Sums.{differ}
use Rattle.theory.specs.Nets.{node_count, edge_count, first_end, second_end}
use Rattle.theory.specs.Prune.{marked}
use Rattle.theory.specs.Strong as theory
use Rattle.theory.specs.Strong.{hung, branch, next_edge, hang_from}
use Rattle.theory.proofs.Valid.{Fine}
use Rattle.theory.proofs.Hanging.{lowest_some}
use Rattle.pruning.specs.Branches.{branch_of, newest_first}
use Rattle.pruning.specs.declared.branch.Branch.{Branch}
use Rattle.pruning.proofs.Marking.{marked_set, get_or_zeros}

-- one more branch
pub newest_more : (bs : List Branch) (b : Branch) → newest_first (bs ++ b ∷ []) ≡ branch_of b ∷ newest_first bs
newest_more bs b = ap (map branch_of) (reverse-append bs (b ∷ []))

or_cond : (x y : Bool) → cond x true y ≡ (x || y)
or_cond true y = refl
or_cond false y = refl

pub placed_root : (root : ℕ) → root < 256 → marked (set (replicate 256 0) root 1) ≡ hung root []
placed_root root l =
    marked_set (replicate 256 0) root true (let n = length-replicate {A = ℕ} 256 0 in omega arith)
    ∙ fun_ext (λ v. ap (λ x. cond (eqb v root) true (eqb x 1)) (get_or_zeros 256 v) ∙ itself (eqb v root))
  where
    itself : (x : Bool) → cond x true false ≡ x
    itself true = refl
    itself false = refl

pub placed_more : (placed : List ℕ) (root : ℕ) (bs : List theory.Branch) (b : theory.Branch) → b.child < length placed → marked placed ≡ hung root bs → marked (set placed b.child 1) ≡ hung root (b ∷ bs)
placed_more placed root bs b l e =
    marked_set placed b.child true l
    ∙ fun_ext (λ v. or_cond (eqb v b.child) (marked placed v) ∙ ap (λ p. eqb v b.child || p v) e)

module _ (net : Net) (E : ℕ → Bool) (root k : ℕ) (bs : List theory.Branch) where
  pub hang_next : (s : ℕ) → next_edge net E (hung root bs) ≡ Some s → hang_from (suc k) net E root bs ≡ hang_from k net E root (branch net (hung root bs) s ∷ bs)
  hang_next s e = ap (λ o. elim o as (λ z. List theory.Branch) [ Some s ↦ hang_from k net E root (branch net (hung root bs) s ∷ bs) | None ↦ bs ]) e

  pub hang_done : next_edge net E (hung root bs) ≡ None → hang_from (suc k) net E root bs ≡ bs
  hang_done e = ap (λ o. elim o as (λ z. List theory.Branch) [ Some s ↦ hang_from k net E root (branch net (hung root bs) s ∷ bs) | None ↦ bs ]) e

pub child_within : (net : Net) → Fine net → (H : ℕ → Bool) (s : ℕ) → s < edge_count net → (branch net H s).child < node_count net
child_within net f H s l = by (H (first_end net s))
  where
    by : (b : Bool) → (branch net (λ v. b) s).child < node_count net
    by true = f.seconds s l
    by false = f.firsts s l

pub next_within : (net : Net) (E H : ℕ → Bool) (s : ℕ) → next_edge net E H ≡ Some s → s < edge_count net
next_within net E H s e = (lowest_some (edge_count net) (λ s. E s && differ (H (first_end net s)) (H (second_end net s))) s e).0

-- what holds while the tree is hung, with k branches still allowed for
pub record Hanging (net : Net) (E : ℕ → Bool) (root k : ℕ) (placed : List ℕ) (bs : List theory.Branch) : Type 0 where
  pub long : length placed ≡ 256
  pub nodes : marked placed ≡ hung root bs
  pub whole : hang_from k net E root bs ≡ hang_from (node_count net) net E root []

pub hanging_more : (net : Net) → Fine net → (E : ℕ → Bool) (root k : ℕ) (placed : List ℕ) (bs : List theory.Branch) → Hanging net E root (suc k) placed bs → (s : ℕ) → next_edge net E (marked placed) ≡ Some s → (b : theory.Branch) → b ≡ branch net (marked placed) s → Hanging net E root k (set placed b.child 1) (b ∷ bs)
hanging_more net f E root k placed bs h s e b is =
    let few = f.few_nodes in
    let long = h.long in
    let below = child_within net f (marked placed) s (next_within net E (marked placed) s e) in
    let child : b.child < length placed = (let same = ap (λ b. b.child) is in omega arith) in
    let next = ap (next_edge net E) (sym h.nodes) ∙ e in
    record {
      long = length-set placed b.child 1 ∙ long;
      nodes = placed_more placed root bs b child h.nodes;
      whole = ap (λ c. hang_from k net E root (c ∷ bs)) (is ∙ ap (λ H. branch net H s) h.nodes) ∙ sym (hang_next net E root k bs s next) ∙ h.whole;
    }
