use Rattle.std.proofs.Common.{◌≡◌, ℕ, ◌+◌, ◌<◌, List, ◌∷◌, map, reverse, length, get_or, drop, sym, ap, ◌∙◌, subst, arith}
use Rattle.std.proofs.lemmas.Iterator.Adapters.{YieldsList-from_rev_slice}
use Rattle.std.proofs.lemmas.Iterator.Consumers.{YieldsList-turn}
use Rattle.std.proofs.lemmas.List.{drop_more, length_push, length-map, length-reverse}
use Rattle.network.specs.Nets.{Net}
use Rattle.network.specs.Networks.{net_of}
use Rattle.theory.specs.Nets.{prize}
use Rattle.theory.specs.Strong.{worths}
use Rattle.theory.proofs.Valid.{fine}
use Rattle.pruning.specs.Branches.{branch_of, newest_first}
use Rattle.pruning.specs.declared.branch.Branch.{Branch}
use Rattle.pruning.proofs.Lifting.{Lifted, lifting_starts, lifting_more, last_inside, sum_small}
use Rattle.pruning.proofs.worths.net_worths.Goals as goal

pub loop-last-init : goal.loop-last-init
loop-last-init c =
    let net = net_of c.args.network.now in
    let bs = c.args.branches.now in
    let few = c.requires.few in
    let long = length-map (reverse bs) branch_of ∙ length-reverse bs in
    lifting_starts net (fine net c.args.network.now.valid) (newest_first bs) c.requires.rooted.0 c.requires.rooted.1 (omega arith) _ c.prizes_by_node-table.ensures.long c.prizes_by_node-table.ensures.value

-- at least one branch is left
next_left : (net : Net) (all : ℕ → ℕ) (bs : List Branch) (k : ℕ) (table : List ℕ) (b : Branch) → (k < length bs) × (b ≡ get_or bs k b) → Lifted net all (map branch_of (drop k bs)) table → Lifted net all (branch_of b ∷ map branch_of (drop (k + 1) bs)) table
next_left net all bs k table b at h = subst (λ cs. Lifted net all (map branch_of cs) table) (drop_more bs k b at.0 ∙ ap (λ a. a ∷ drop (k + 1) bs) (sym at.1)) h

pub lift-requires : goal.lift-requires
lift-requires c =
    let net = net_of c.args.network.now in
    let bs = c.args.branches.now in
    let f = fine net c.args.network.now.valid in
    let all = worths net (newest_first bs) (prize net) in
    let last = c.in-Some.last.now in
    let rest = map branch_of (drop (length c.loop-last.yielded + 1) (reverse bs)) in
    let at = YieldsList-turn (YieldsList-from_rev_slice bs cc) c.loop-last.yielded _ c.loop-last.yielded_by _ _ c.in-Some.last c.in-Some.is c.next.ensures.steps in
    let h = next_left net all (reverse bs) (length c.loop-last.yielded) c.loop-last.table last at c.loop-last.invariant in
    let in' = last_inside net f all (branch_of last) rest c.loop-last.table h in
    let few = f.few_nodes in
    let long = h.long in
    record { edge = in'.edge; child = (let l = in'.child in omega arith); parent = (let l = in'.parent in omega arith); small = sum_small net f all (branch_of last) rest c.loop-last.table h }

pub loop-last-preserved : goal.loop-last-preserved
loop-last-preserved c =
    let net = net_of c.args.network.now in
    let bs = c.args.branches.now in
    let f = fine net c.args.network.now.valid in
    let all = worths net (newest_first bs) (prize net) in
    let last = c.in-Some.last.now in
    let rest = map branch_of (drop (length c.loop-last.yielded + 1) (reverse bs)) in
    let at = YieldsList-turn (YieldsList-from_rev_slice bs cc) c.loop-last.yielded _ c.loop-last.yielded_by _ _ c.in-Some.last c.in-Some.is c.next.ensures.steps in
    let h = next_left net all (reverse bs) (length c.loop-last.yielded) c.loop-last.table last at c.loop-last.invariant in
    let more = length_push c.loop-last.yielded c.in-Some.last in
    subst (λ k. Lifted net all (map branch_of (drop k (reverse bs))) c.lift.new.table) (sym more) (subst (Lifted net all rest) (sym c.lift.ensures) (lifting_more net f all (branch_of last) rest c.loop-last.table h))
