use Rattle.std.proofs.Common.{sym, ◌∙◌}
use Rattle.network.specs.Networks.{net_of}
use Rattle.sheet.proofs.Entering.{entry_refused}
use Rattle.sheet.proofs.loader.enter.Goals as goal

pub returns-in-Err : goal.returns-in-Err
returns-in-Err c = entry_refused c.args.line (net_of c.args.network.now) c.args.new c.in-Err.field-0 (sym c.enter.ensures.answer ∙ c.in-Err.is)
