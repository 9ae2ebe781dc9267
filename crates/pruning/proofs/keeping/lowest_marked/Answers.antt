use Rattle.std.proofs.Common.{rules, tests}
use Rattle.theory.specs.Prune.{marked}
use Rattle.pruning.proofs.Ranges.{found_below}
use Rattle.pruning.proofs.keeping.lowest_marked.Goals as goal

pub returns : goal.returns
returns c = found_below (marked c.args.nodes.now) c.args.n _ c.find.result (λ x b q k. search (rules, tests)) c.find.ensures.ran
