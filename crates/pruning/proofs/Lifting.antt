-- Net worths from the last branch to the first: the values stay those of the theory, and small. Assumes nothing.
use Rattle.std.proofs.Common.{◌≡◌, ℕ, ◌+◌, ◌-◌, ◌*◌, ◌<◌, ◌≤◌, List, [], ◌∷◌, ◌++◌, length, get_or, drop, set, replicate, sym, refl, ap, ◌∙◌, inl, inr, arith}
use mathlib.Core.Path.{fun_ext}
use Rattle.std.proofs.lemmas.List.{length-set, get_or-set_same, get_or-set_other, get_or_append_left, get_or-append_right, get_or_past, drop-replicate, length-append, length-replicate}
use Rattle.std.proofs.lemmas.Bool.{cases_eq, cases_lt}
use Rattle.network.specs.Nets.{Net}
use Rattle.theory.specs.Nets.{prize, cost}
use Rattle.theory.specs.Strong as theory
use Rattle.theory.specs.Strong.{Hang, lifted, worths}
use Rattle.theory.proofs.Valid.{Fine}
use Rattle.theory.proofs.Worths.{over_hung, hung_more, hung_point, lift_at, lift_other}
use Rattle.pruning.specs.Branches.{by_node, entered}
use Rattle.pruning.proofs.Marking.{get_or_zeros}
use Rattle.pruning.proofs.Rooting.{Inside, inside}

-- prizes at the front of zeros
pub prizes_long : (ps : List ℕ) → length ps ≤ 256 → length (ps ++ drop (length ps - 0) (replicate 256 0)) ≡ 256
prizes_long ps l =
    let n : length ps - 0 ≡ length ps = omega arith in
    let a = length-append ps (drop (length ps - 0) (replicate 256 0)) in
    let b = ap length (ap (λ k. drop k (replicate {A = ℕ} 256 0)) n ∙ drop-replicate (length ps) 256 0) ∙ length-replicate {A = ℕ} (256 - length ps) 0 in
    omega arith

pub prizes_by_node : (ps : List ℕ) → by_node (ps ++ drop (length ps - 0) (replicate 256 0)) ≡ by_node ps
prizes_by_node ps = fun_ext (λ v. elim (cases_lt v (length ps)) [
  | inl l ↦ get_or_append_left ps rest 0 v l
  | inr l ↦ get_or-append_right ps rest (length ps) v 0 refl l ∙ none (v - length ps) ∙ sym (get_or_past ps v 0 l)
])
  where
    rest : List ℕ
    rest = drop (length ps - 0) (replicate 256 0)

    none : (v : ℕ) → ◌≡◌ {A = ℕ} (get_or (drop (length ps - 0) (replicate 256 0)) v 0) 0
    none v = ap (λ xs. get_or xs v 0) (drop-replicate (length ps - 0) 256 0) ∙ get_or_zeros (256 - (length ps - 0)) v

-- what holds while branches are taken off: those left hang, and the worths of their nodes make up no more than all prizes
pub record Lifted (net : Net) (all : ℕ → ℕ) (bs : List theory.Branch) (table : List ℕ) : Type 0 where
  pub root : ℕ
  pub hangs : Hang net (entered net) root bs
  pub small : over_hung root bs (by_node table) ≤ 257000000000
  pub long : length table ≡ 256
  pub whole : worths net bs (by_node table) ≡ all

most_hung : (f : ℕ → ℕ) → ((v : ℕ) → f v ≤ 1000000000) → (root : ℕ) (bs : List theory.Branch) → over_hung root bs f ≤ 1000000000 * length bs + 1000000000
most_hung f h root [] = let e = h root in omega arith
most_hung f h root (b ∷ bs) = let ih = most_hung f h root bs in let e = h b.child in omega arith

pub lifting_starts : (net : Net) → Fine net → (bs : List theory.Branch) (root : ℕ) → Hang net (entered net) root bs → length bs ≤ 256 → (table : List ℕ) → length table ≡ 256 → by_node table ≡ prize net → Lifted net (worths net bs (prize net)) bs table
lifting_starts net f bs root h l table n is =
    let most = most_hung (prize net) f.prizes root bs in
    record {
      root = root;
      hangs = h;
      small = (let same = ap (over_hung root bs) is in omega arith);
      long = n;
      whole = ap (worths net bs) is;
    }

-- the last branch is taken off
module _ (net : Net) (f : Fine net) (all : ℕ → ℕ) (b : theory.Branch) (bs : List theory.Branch) (table : List ℕ) (h : Lifted net all (b ∷ bs) table) where
  abbrev p : ℕ → ℕ
  p = by_node table

  abbrev gain : ℕ
  gain = p b.child - cost net b.edge

  abbrev after : List ℕ
  after = set table b.parent (p b.parent + gain)

  pub last_inside : Inside net b
  last_inside = inside net f b h.hangs.2 h.hangs.3

  pub sum_small : p b.parent + gain ≤ 257000000000
  sum_small =
      let most = h.small in
      let one = hung_more h.root bs (λ v. 0) p b.parent (p b.parent) (λ v. omega arith) h.hangs.0 (omega arith) in
      omega arith

  below : b.parent < length table
  below = let l = last_inside.parent in let n = h.long in let few = f.few_nodes in omega arith

  is_lifted : by_node after ≡ lifted net b p
  is_lifted = fun_ext (λ v. elim (cases_eq v b.parent) [
    | inl e ↦ ap (by_node after) e ∙ get_or-set_same table b.parent (p b.parent + gain) 0 below ∙ sym (lift_at net (entered net) h.root b p) ∙ ap (lifted net b p) (sym e)
    | inr e ↦ get_or-set_other table b.parent v (p b.parent + gain) 0 e ∙ sym (lift_other net (entered net) h.root b p v e)
  ])

  pub lifting_more : Lifted net all bs after
  lifting_more =
      let most = h.small in
      let more = hung_point net (entered net) h.root bs h.hangs.4 p (by_node after) b.parent gain (λ v ne. sym (get_or-set_other table b.parent v (p b.parent + gain) 0 ne)) h.hangs.0 (sym (get_or-set_same table b.parent (p b.parent + gain) 0 below)) in
      record {
        root = h.root;
        hangs = h.hangs.4;
        small = omega arith;
        long = length-set table b.parent (p b.parent + gain) ∙ h.long;
        whole = ap (worths net bs) is_lifted ∙ h.whole;
      }
