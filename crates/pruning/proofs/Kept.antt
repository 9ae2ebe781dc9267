-- Marking the nodes that are kept, from the root down. Assumes nothing.
use Rattle.std.proofs.Common.{◌≡◌, ℕ, zero, suc, ◌-◌, ◌<◌, ◌≤◌, Bool, true, false, cond, ◌&&◌, ◌||◌, eqb, ltb, List, [], ◌∷◌, map, reverse, length, get_or, set, replicate, Some, None, Option, unwrap_or, refl, ap, ◌∙◌, subst, arith}
use mathlib.Core.Path.{fun_ext}
use Rattle.std.proofs.lemmas.List.{length-replicate, length-reverse, get_or-reverse}
use Rattle.network.specs.Nets.{Net}
use Rattle.theory.specs.Sums.{one}
use Rattle.theory.specs.Nets.{node_count, prize, cost}
use Rattle.theory.specs.Prune.{marked}
use Rattle.theory.specs.Strong as theory
use Rattle.theory.specs.Strong.{lowest_below, or_zero, Hang, hang_from, worths, greatest, kept}
use Rattle.theory.proofs.Valid.{Fine}
use Rattle.theory.proofs.Hanging.{lowest_some}
use Rattle.pruning.specs.Branches.{branch_of, newest_first, entered}
use Rattle.pruning.specs.Strong.{root_in, branches_in, worths_in, best_in, nodes_in}
use Rattle.pruning.specs.declared.branch.Branch.{Branch}
use Rattle.pruning.proofs.Marking.{marked_set, get_or_zeros}
use Rattle.pruning.proofs.Rooting.{Inside, inside}

-- each branch is inside the network
all_inside : (net : Net) → Fine net → (root : ℕ) (bs : List Branch) → Hang net (entered net) root (map branch_of bs) → (i : ℕ) (d : Branch) → i < length bs → Inside net (branch_of (get_or bs i d))
all_inside net f root [] h i d l = absurd (omega arith)
all_inside net f root (b ∷ bs) h zero d l = inside net f (branch_of b) h.2 h.3
all_inside net f root (b ∷ bs) h (suc i) d l = all_inside net f root bs h.4 i d (omega arith)

pub inside_at : (net : Net) → Fine net → (root : ℕ) (bs : List Branch) → Hang net (entered net) root (newest_first bs) → (i : ℕ) (d : Branch) → i < length bs → Inside net (branch_of (get_or bs i d))
inside_at net f root bs h i d l =
    let n = length-reverse bs in
    let back = get_or-reverse bs (length bs - 1 - i) d (omega arith) in
    let same : length bs - 1 - (length bs - 1 - i) ≡ i = omega arith in
    subst (λ b. Inside net (branch_of b)) (back ∙ ap (λ k. get_or bs k d) same) (all_inside net f root (reverse bs) h (length bs - 1 - i) d (omega arith))

-- the root as the code finds it, a node of the list of 256
pub root_is : (o : Option ℕ) → unwrap_or o 0 ≡ or_zero o
root_is None = refl
root_is (Some v) = refl

pub root_below : (n : ℕ) (p : ℕ → Bool) → n ≤ 256 → unwrap_or (lowest_below n p) 0 < 256
root_below n p few = by (lowest_below n p) refl
  where
    by : (o : Option ℕ) → lowest_below n p ≡ o → unwrap_or o 0 < 256
    by None e = omega arith
    by (Some v) e = let l = (lowest_some n p v e).0 in omega arith

module _ (net : Net) (W : ℕ → ℕ) (root best : ℕ) where
  pub keep_starts : root < 256 → marked (set (replicate 256 0) root (one (eqb root best))) ≡ kept net W root best []
  keep_starts l =
      marked_set (replicate 256 0) root (eqb root best) (let n = length-replicate {A = ℕ} 256 0 in omega arith)
      ∙ fun_ext (λ v. ap (λ x. cond (eqb v root) (eqb root best) (eqb x 1)) (get_or_zeros 256 v) ∙ both (eqb v root) (eqb root best))
    where
      both : (x y : Bool) → cond x y false ≡ (x && y)
      both true y = refl
      both false y = refl

  pub keep_more : (above : List ℕ) (b : theory.Branch) (bs : List theory.Branch) (stays : Bool) → b.child < length above → marked above ≡ kept net W root best bs →
      stays ≡ (eqb b.child best || (marked above b.parent && ltb (cost net b.edge) (W b.child))) → marked (set above b.child (one stays)) ≡ kept net W root best (b ∷ bs)
  keep_more above b bs stays l e is =
      marked_set above b.child stays l
      ∙ (λ k v. cond (eqb v b.child) (is k) (marked above v))
      ∙ λ k v. cond (eqb v b.child) (eqb b.child best || (e k b.parent && ltb (cost net b.edge) (W b.child))) (e k v)

-- the parts found one by one make up the nodes of the strong plan
pub nodes_found : (net : Net) (N E : ℕ → Bool) (root best : ℕ) (bs : List theory.Branch) (W : ℕ → ℕ) →
    root ≡ root_in net N → bs ≡ hang_from (node_count net) net E root [] → W ≡ worths net bs (prize net) → best ≡ greatest (node_count net) N W root →
    kept net W root best bs ≡ nodes_in net N E
nodes_found net N E root best bs W r b w h =
    let bs-is : bs ≡ branches_in net N E = b ∙ ap (λ x. hang_from (node_count net) net E x []) r in
    let W-is : W ≡ worths_in net N E = w ∙ ap (λ cs. worths net cs (prize net)) bs-is in
    let best_is : best ≡ best_in net N E = h ∙ λ k. greatest (node_count net) N (W-is k) (r k) in
    λ k. kept net (W-is k) (r k) (best_is k) (bs-is k)
