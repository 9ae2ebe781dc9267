-- Trees of a network: sets of nodes and edges, by marks.
use Rattle.std.specs.Prelude.{◌≡◌, ℕ, ◌<◌, Bool, true, cond, not, ◌&&◌, ◌==◌}
use Rattle.network.specs.Nets.{Net}
use Rattle.theory.specs.Sums.{sum_to}
use Rattle.theory.specs.Nets.{node_count, edge_count, prize, first_end, second_end, cost}

-- from node to node over edges of E
pub data Walk (net : Net) (E : ℕ → Bool) : ℕ → ℕ → Type 0 where
  stay : {v : ℕ} → Walk net E v v
  there : {w : ℕ} (s : ℕ) → E s ≡ true → Walk net E (second_end net s) w → Walk net E (first_end net s) w
  back : {w : ℕ} (s : ℕ) → E s ≡ true → Walk net E (first_end net s) w → Walk net E (second_end net s) w

-- the edges of E but for s
abbrev pub but : (ℕ → Bool) → ℕ → ℕ → Bool
but E s x = E x && not (x == s)

-- the nodes N and the edges E make a tree
pub record Tree (net : Net) (N E : ℕ → Bool) : Type 0 where
  pub some : (v : ℕ) × (N v ≡ true)
  pub nodes : (v : ℕ) → N v ≡ true → v < node_count net
  pub edges : (s : ℕ) → E s ≡ true → (s < edge_count net) × (N (first_end net s) ≡ true) × (N (second_end net s) ≡ true)
  pub joined : (u v : ℕ) → N u ≡ true → N v ≡ true → Walk net E u v
  pub no_ring : (s : ℕ) → E s ≡ true → Walk net (but E s) (first_end net s) (second_end net s) → ⊥

-- the nodes N and edges E are cut from the nodes M and edges F, which have them all
pub record Cut (N E M F : ℕ → Bool) : Type 0 where
  pub nodes : (v : ℕ) → N v ≡ true → M v ≡ true
  pub edges : (s : ℕ) → E s ≡ true → F s ≡ true

-- the costs of the edges of E
abbrev pub tree_cost : Net → (ℕ → Bool) → ℕ
tree_cost net E = sum_to (edge_count net) (λ s. cond (E s) (cost net s) 0)

-- the prizes of the nodes that are not in N
abbrev pub lost : Net → (ℕ → Bool) → ℕ
lost net N = sum_to (node_count net) (λ v. cond (N v) 0 (prize net v))
