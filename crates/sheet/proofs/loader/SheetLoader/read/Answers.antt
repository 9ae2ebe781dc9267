use Rattle.sheet.proofs.Rounding.{write_after_read}
use Rattle.sheet.proofs.loader.SheetLoader.read.Goals as goal

pub returns-clause-written_back : goal.returns-clause-written_back
returns-clause-written_back c = write_after_read c.args.sheet.now
