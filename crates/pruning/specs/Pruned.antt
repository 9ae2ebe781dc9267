-- Pruning a tree in a family of clusters that is given by number: the nodes N and the edges E, as marks give them.
use Rattle.std.specs.Prelude.{ℕ, zero, suc, Bool, false, cond, not, ◌&&◌, ◌||◌, List, length, take, Some, None, Ok, Err, Option, Result, ◌==◌, nat_lt, slice_index_or}
use Rattle.refusal.specs.declared.Refusal.{Refusal}
use Rattle.refusal.specs.declared.Refusal.TheVariants.{ListTooShort}
use Rattle.network.specs.Nets.{Net}
use Rattle.theory.specs.Sums.{sum_to, one, differ}
use Rattle.theory.specs.Nets.{node_count, edge_count, first_end, second_end}
use Rattle.theory.specs.Clusters.{Slot, is_active}
use Rattle.theory.specs.Numbers.{parts_of, phase_of}
use Rattle.theory.specs.Prune.{Plan}
use Rattle.theory.specs.Strong.{lowest_below}
use Rattle.pruning.specs.Answers.{answer_of}
use Rattle.pruning.specs.Written.{edges_among, plan_among, too_short}
use Rattle.pruning.specs.declared.answer.Answer.{Answer}
use Rattle.pruning.specs.declared.shape.Shape.{Shape}

-- stands for a cluster that is not in the list
abbrev pub no_shape : Shape
no_shape = record { parts = None; inactive = false }

-- the cluster of number c
abbrev pub shape_at : List Shape → ℕ → Shape
shape_at shapes c = slice_index_or shapes c no_shape

-- the shapes that pruning heeds: a family over 256 nodes has no more clusters
abbrev pub heeded : List Shape → List Shape
heeded shapes = take 511 shapes

-- a cluster of a grown family, by number
abbrev pub shape_shown : List Slot → ℕ → Shape
shape_shown ts c = record { parts = parts_of ts c; inactive = not (is_active (phase_of ts c)) }

-- what f says of the parts of cluster c, if both have lower numbers; without parts it is the node of its own number
abbrev pub of_parts : (ℕ → ℕ → Bool) → ℕ → Option (ℕ × ℕ) → ℕ → Bool
of_parts f c None v = c == v
of_parts f c (Some p) v = (nat_lt p.0 c && nat_lt p.1 c) && (f p.0 v || f p.1 v)

-- as many levels down as `levels`
unfoldable pub members_within : List Shape → ℕ → ℕ → ℕ → Bool
members_within shapes zero c v = false
members_within shapes (suc levels) c v = of_parts (members_within shapes levels) c (shape_at shapes c).parts v

-- the cluster c holds the node v; numbers fall, so c + 1 levels are all that there are
abbrev pub member : List Shape → ℕ → ℕ → Bool
member shapes c v = members_within shapes (suc c) c v

-- some cluster of M below the number k holds the node v
abbrev pub held_below : List Shape → ℕ → (ℕ → Bool) → ℕ → Bool
held_below shapes zero M v = false
held_below shapes (suc k) M v = held_below shapes k M v || (M k && member shapes k v)

-- how many edges of E have just one end among M
abbrev pub leaving : Net → (ℕ → Bool) → (ℕ → Bool) → ℕ
leaving net E M = sum_to (edge_count net) (λ s. one (E s && differ (M (first_end net s)) (M (second_end net s))))

-- an inactive cluster that just one edge of E leaves
abbrev pub prunable_at : Net → List Shape → (ℕ → Bool) → ℕ → Bool
prunable_at net shapes E c = (shape_at shapes c).inactive && leaving net E (member shapes c) == 1

-- the number of the cluster that is pruned next
abbrev pub next_pruned : Net → List Shape → (ℕ → Bool) → (ℕ → Bool) → Option ℕ
next_pruned net shapes E N = lowest_below (length shapes) (prunable_at net shapes (edges_among net E N))

-- the nodes of N that are not among M
abbrev pub except : (ℕ → Bool) → (ℕ → Bool) → ℕ → Bool
except N M v = N v && not (M v)

-- pruning, at most k times: the lowest-numbered prunable cluster is taken away, again and again
abbrev pub prune_in : ℕ → Net → List Shape → (ℕ → Bool) → (ℕ → Bool) → ℕ → Bool
prune_in zero net shapes E N = N
prune_in (suc k) net shapes E N = elim (next_pruned net shapes E N) [ Some c ↦ prune_in k net shapes E (except N (member shapes c)) | None ↦ N ]

-- the nodes that pruning leaves; each time takes a node at least
abbrev pub pruned_in : Net → List Shape → (ℕ → Bool) → (ℕ → Bool) → ℕ → Bool
pruned_in net shapes N E = prune_in (node_count net) net shapes E N

abbrev pub plan_in : Net → List Shape → (ℕ → Bool) → (ℕ → Bool) → Plan
plan_in net shapes N E = plan_among net E (pruned_in net shapes N E)

abbrev pub prune_answer : Net → List Shape → (ℕ → Bool) → (ℕ → Bool) → List ℕ → List ℕ → Result Answer Refusal
prune_answer net shapes N E nodes edges = cond (too_short net nodes edges) (Err ListTooShort) (Ok (answer_of (plan_in net shapes N E)))
