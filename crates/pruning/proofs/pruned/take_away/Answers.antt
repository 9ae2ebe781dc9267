use Rattle.std.proofs.Common.{rules, tests}
use Rattle.theory.specs.Prune.{marked}
use Rattle.pruning.specs.Pruned.{except}
use Rattle.pruning.proofs.Ranges.{marks_made}
use Rattle.pruning.proofs.pruned.take_away.Goals as goal

pub returns : goal.returns
returns c = marks_made (except (marked c.args.nodes.now) (marked c.args.members.now)) 256 c.from_fn.result (λ x y q k. search (rules, tests)) c.from_fn.ensures.items
