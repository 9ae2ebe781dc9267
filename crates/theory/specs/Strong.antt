-- Strong pruning: the grown tree rooted at its lowest-numbered node, net worths, and what hangs from the best node.
use Rattle.std.specs.Prelude.{◌≡◌, ℕ, zero, suc, ◌+◌, ◌-◌, Bool, true, false, cond, ◌&&◌, ◌||◌, ◌⊎◌, List, [], ◌∷◌, Some, None, Option, ◌==◌, nat_lt}
use Rattle.network.specs.Nets.{Net}
use Rattle.theory.specs.Sums.{differ}
use Rattle.theory.specs.Nets.{node_count, edge_count, prize, first_end, second_end, cost}
use Rattle.theory.specs.Clusters.{Slot}
use Rattle.theory.specs.Growth.{State}
use Rattle.theory.specs.Prune.{grown_node, edges_within, grown_edge, Plan, plan_of}

-- the lowest number below n that passes the test
abbrev pub lowest_below : ℕ → (ℕ → Bool) → Option ℕ
lowest_below zero p = None
lowest_below (suc n) p = elim (lowest_below n p) [ Some v ↦ Some v | None ↦ cond (p n) (Some n) None ]

-- the number, or 0 where there is none
abbrev pub or_zero : Option ℕ → ℕ
or_zero None = 0
or_zero (Some v) = v

-- a node below the root, the node it hangs from, and the edge between them
pub record Branch : Type 0 where
  pub child : ℕ
  pub parent : ℕ
  pub edge : ℕ

-- the node is the root or hangs from a branch
abbrev pub hung : ℕ → List Branch → ℕ → Bool
hung root [] v = v == root
hung root (b ∷ bs) v = v == b.child || hung root bs v

-- the edge is a branch's
abbrev pub lists : List Branch → ℕ → Bool
lists [] s = false
lists (b ∷ bs) s = b.edge == s || lists bs s

-- a branch's edge joins its parent and its child
abbrev pub Joins : Net → Branch → Type 0
Joins net b =
    ((first_end net b.edge ≡ b.parent) × (second_end net b.edge ≡ b.child))
    ⊎ ((first_end net b.edge ≡ b.child) × (second_end net b.edge ≡ b.parent))

-- branches hang from the root: each parent hangs before its child, and over an edge of E
abbrev pub Hang : Net → (ℕ → Bool) → ℕ → List Branch → Type 0
Hang net E root [] = Unit {0}
Hang net E root (b ∷ bs) =
    (hung root bs b.parent ≡ true) × (hung root bs b.child ≡ false) × Joins net b × (E b.edge ≡ true) × Hang net E root bs

-- the edge's branch: its parent is the end that hangs already
abbrev pub branch : Net → (ℕ → Bool) → ℕ → Branch
branch net H s = cond (H (first_end net s))
    (record { child = second_end net s; parent = first_end net s; edge = s })
    (record { child = first_end net s; parent = second_end net s; edge = s })

-- the lowest-numbered edge of E that has just one end among H
abbrev pub next_edge : Net → (ℕ → Bool) → (ℕ → Bool) → Option ℕ
next_edge net E H = lowest_below (edge_count net) (λ s. E s && differ (H (first_end net s)) (H (second_end net s)))

-- hanging, at most k times: the last branch stands first
abbrev pub hang_from : ℕ → Net → (ℕ → Bool) → ℕ → List Branch → List Branch
hang_from zero net E root bs = bs
hang_from (suc k) net E root bs = elim (next_edge net E (hung root bs)) [
  | Some s ↦ hang_from k net E root (branch net (hung root bs) s ∷ bs)
  | None ↦ bs
]

-- the lowest-numbered node of the grown tree
abbrev pub root_of : Net → List Slot → ℕ
root_of net ts = or_zero (lowest_below (node_count net) (grown_node ts))

-- the grown tree as branches, parents after their children
abbrev pub branches : Net → List Slot → List Branch
branches net ts = hang_from (node_count net) net (grown_edge net ts) (root_of net ts) []

-- the child of a branch is taken off: its parent gains what the child is worth beyond its edge's cost
abbrev pub lifted : Net → Branch → (ℕ → ℕ) → ℕ → ℕ
lifted net b p v = cond (v == b.parent) (p v + (p b.child - cost net b.edge)) (p v)

-- what each node is worth once all branches are taken off, the last first
abbrev pub worths : Net → List Branch → (ℕ → ℕ) → ℕ → ℕ
worths net [] p = p
worths net (b ∷ bs) p = worths net bs (lifted net b p)

-- the net worth of a node of the grown tree
abbrev pub net_worth : Net → List Slot → ℕ → ℕ
net_worth net ts = worths net (branches net ts) (prize net)

-- of the numbers below n that pass the test, one of greatest worth, the lowest among equals
abbrev pub greatest : ℕ → (ℕ → Bool) → (ℕ → ℕ) → ℕ → ℕ
greatest zero p W v = v
greatest (suc n) p W v =
    let u : ℕ = greatest n p W v in
    cond (p n && nat_lt (W u) (W n)) n u

-- the node that the strong plan hangs from
abbrev pub best_node : Net → List Slot → ℕ
best_node net ts = greatest (node_count net) (grown_node ts) (net_worth net ts) (root_of net ts)

-- the nodes kept below h: h itself, and each that hangs from a kept node and is worth more than its edge costs
abbrev pub kept : Net → (ℕ → ℕ) → ℕ → ℕ → List Branch → ℕ → Bool
kept net W root h [] v = v == root && root == h
kept net W root h (b ∷ bs) v =
    cond (v == b.child)
    (b.child == h || (kept net W root h bs b.parent && nat_lt (cost net b.edge) (W b.child)))
    (kept net W root h bs v)

-- the nodes of the strong plan
abbrev pub strong_nodes : Net → List Slot → ℕ → Bool
strong_nodes net ts = kept net (net_worth net ts) (root_of net ts) (best_node net ts) (branches net ts)

-- the strong plan: what hangs from the best node, with the chosen edges inside it
abbrev pub strong_plan : Net → State → Plan
strong_plan net st = plan_of net (strong_nodes net st.slots) (edges_within net st.slots (strong_nodes net st.slots))
