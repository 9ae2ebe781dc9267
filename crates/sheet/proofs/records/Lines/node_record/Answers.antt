use Rattle.sheet.specs.Readers.{ahead}
use Rattle.sheet.proofs.Forms.{node_accepted}
use Rattle.sheet.proofs.records.Lines.node_record.Goals as goal

pub returns-clause-taken : goal.returns-clause-taken
returns-clause-taken c =
    let told = c.in_ok-prize.ensures.value in
    node_accepted (ahead c.args.self.now.reader) (ahead c.value.new.self.reader) c.in_ok-prize.prize told.0 told.1 told.2
