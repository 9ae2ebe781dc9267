use Rattle.std.proofs.Common.{map, reverse, length, drop}
use Rattle.network.specs.Networks.{net_of}
use Rattle.theory.specs.Nets.{prize}
use Rattle.theory.specs.Strong.{worths}
use Rattle.pruning.specs.Branches.{branch_of, newest_first}
use Rattle.pruning.proofs.Lifting.{Lifted}
use Rattle.pruning.proofs.worths.net_worths.Given as goal

-- the worths so far and the branches left give the net worths
abbrev pub invariant-loop-last : goal.invariant-loop-last
invariant-loop-last l = Lifted (net_of l.network) (worths (net_of l.network) (newest_first l.branches) (prize (net_of l.network))) (map branch_of (drop (length l.yielded) (reverse l.branches))) l.table
