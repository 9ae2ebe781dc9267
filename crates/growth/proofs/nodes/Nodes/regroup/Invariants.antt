use Rattle.std.proofs.Common.{◌≡◌, ◌++◌, map, take, drop}
use Rattle.growth.specs.NodeTables.{moved}
use Rattle.growth.proofs.nodes.Nodes.regroup.Given as goal

abbrev pub invariant-loop-node : goal.invariant-loop-node
invariant-loop-node l = l.node-items ≡ map (moved l.first l.second l.new) (take l.node-index l.initial.node-items) ++ drop l.node-index l.initial.node-items
