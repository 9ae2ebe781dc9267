use Rattle.network.specs.Networks.{net_of}
use Rattle.sheet.proofs.Rounding.{read_after_write}
use Rattle.sheet.proofs.writer.write_sheet.Goals as goal

pub returns-then-out-len-clause-read_back : goal.returns-then-out-len-clause-read_back
returns-then-out-len-clause-read_back c = read_after_write (net_of c.args.network.now) c.args.network.now.valid

pub returns-clause-read_back : goal.returns-clause-read_back
returns-clause-read_back c = read_after_write (net_of c.args.network.now) c.args.network.now.valid
