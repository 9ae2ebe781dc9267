use Rattle.std.proofs.Common.{rules, tests}
use Rattle.theory.specs.Prune.{marked}
use Rattle.pruning.proofs.Ranges.{count_below}
use Rattle.pruning.proofs.answers.count_marked.Goals as goal

pub returns : goal.returns
returns c = count_below (marked c.args.marks.now) c.args.n c.filter.result c.count.result c.filter.ensures.source c.filter.ensures.closure (λ x b q k. search (rules, tests)) c.count.ensures.ran
