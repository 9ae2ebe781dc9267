-- Clusters with their moats, the families they make, and what a family lays on nodes and edges.
use Rattle.std.specs.Prelude.{◌≡◌, ℕ, ◌+◌, Bool, true, false, cond, ◌||◌, List, [], ◌∷◌, ◌==◌}
use Rattle.std.specs.List.{AllByRecursion}
use Rattle.network.specs.Nets.{Net}
use Rattle.theory.specs.Sums.{sum_of, sum_to, differ}
use Rattle.theory.specs.Nets.{first_end, second_end}

-- a cluster's state
pub data Phase : Type 0 where
  active inactive : Phase

-- the state is that of an active cluster
abbrev pub is_active : Phase → Bool
is_active active = true
is_active inactive = false

-- what a cluster has of its own: its moat, in half units, and its state
pub record Standing : Type 0 where
  pub moat : ℕ
  pub phase : Phase

-- a cluster: a node alone, or two clusters merged, with its number, the edge that merged them, and the two parts, the first end's first
pub data Cluster : Type 0 where
  node : Standing → ℕ → Cluster
  merged : Standing → ℕ → ℕ → Cluster → Cluster → Cluster

-- a cluster's own moat and state
abbrev pub standing : Cluster → Standing
standing (node o v) = o
standing (merged o c e l r) = o

-- a cluster's own moat
abbrev pub moat : Cluster → ℕ
moat t = (standing t).moat

-- the cluster is active
abbrev pub cluster_active : Cluster → Bool
cluster_active t = is_active (standing t).phase

-- a cluster's number; a node alone has the node's
abbrev pub number : Cluster → ℕ
number (node o v) = v
number (merged o c e l r) = c

-- the cluster holds the node v
abbrev pub holds : Cluster → ℕ → Bool
holds (node o u) v = u == v
holds (merged o c e l r) v = holds l v || holds r v

-- the sum of f over the nodes of a cluster
abbrev pub over : (ℕ → ℕ) → Cluster → ℕ
over f (node o v) = f v
over f (merged o c e l r) = over f l + over f r

-- the sum of f over a cluster and, in turn, its parts
abbrev pub under : (Cluster → ℕ) → Cluster → ℕ
under f (node o v) = f (node o v)
under f (merged o c e l r) = f (merged o c e l r) + (under f l + under f r)

-- P holds of a cluster and, in turn, of its parts
abbrev pub Deep : (Cluster → Type 0) → Cluster → Type 0
Deep P (node o v) = P (node o v)
Deep P (merged o c e l r) = P (merged o c e l r) × Deep P l × Deep P r

-- a cluster's inner moats: its own and, in turn, those of its parts
abbrev pub inner : Cluster → ℕ
inner t = under moat t

-- the cluster holds just one of two nodes
abbrev pub splits : Cluster → ℕ → ℕ → Bool
splits t a b = differ (holds t a) (holds t b)

-- what a cluster's number stands for: a maximal cluster, or one that is inside another
pub data Slot : Type 0 where
  maximal : Cluster → Slot
  inside : Slot

-- what f says of a maximal cluster, and nothing of others
abbrev pub on_maximal : (Cluster → ℕ) → Slot → ℕ
on_maximal f (maximal t) = f t
on_maximal f inside = 0

-- P holds if the slot has a maximal cluster
abbrev pub OnMaximal : (Cluster → Type 0) → Slot → Type 0
OnMaximal P (maximal t) = P t
OnMaximal P inside = Unit {0}

-- the sum of f over the maximal clusters
abbrev pub over_maximal : (Cluster → ℕ) → List Slot → ℕ
over_maximal f ts = sum_of (on_maximal f) ts

-- the sum of f over all clusters
abbrev pub over_all : (Cluster → ℕ) → List Slot → ℕ
over_all f ts = over_maximal (under f) ts

-- P holds of every cluster
abbrev pub Every : (Cluster → Type 0) → List Slot → Type 0
Every P ts = AllByRecursion (OnMaximal (Deep P)) ts

-- some maximal cluster passes the test
abbrev pub any_maximal : (Cluster → Bool) → List Slot → Bool
any_maximal p [] = false
any_maximal p (maximal t ∷ ts) = p t || any_maximal p ts
any_maximal p (inside ∷ ts) = any_maximal p ts

-- the depth of a node: the moats of all clusters that hold it
abbrev pub depth : List Slot → ℕ → ℕ
depth ts v = over_all (λ u. cond (holds u v) (moat u) 0) ts

-- what an edge carries: the moats of all clusters that hold just one of its ends
abbrev pub load : Net → List Slot → ℕ → ℕ
load net ts s = over_all (λ u. cond (splits u (first_end net s) (second_end net s)) (moat u) 0) ts

-- every node below n stands in just one maximal cluster, once, and no other node does: any sum over the nodes of the maximal clusters is the sum over the nodes below n
abbrev pub Shared : ℕ → List Slot → Type 0
Shared n ts = (f : ℕ → ℕ) → over_maximal (over f) ts ≡ sum_to n f
