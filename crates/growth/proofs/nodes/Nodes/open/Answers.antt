use Rattle.std.proofs.Common.{ℕ, ap, rules}
use Rattle.growth.specs.NodeTables.{unplaced}
use Rattle.growth.specs.declared.nodes.Node.{Node}
use Rattle.pruning.proofs.Ranges.{made_at}
use Rattle.growth.proofs.nodes.Nodes.open.Goals as goal

abbrev lone : ℕ → Node
lone v = record { cluster = v; depth = 0 }

pub returns-clause-clusters : goal.returns-clause-clusters
returns-clause-clusters c v l = ap (λ n. n.cluster) (made_at lone c.from_fn.result (λ x y q k. search rules) 256 c.from_fn.ensures.items v unplaced l)

pub returns-clause-depths : goal.returns-clause-depths
returns-clause-depths c v l = ap (λ n. n.depth) (made_at lone c.from_fn.result (λ x y q k. search rules) 256 c.from_fn.ensures.items v unplaced l)
