use Rattle.std.proofs.Common.{◌≡◌, length, get_or, rules}
use Rattle.sheet.specs.Readers.{ahead, field_of}
use Rattle.sheet.proofs.Forms.{behind_letter}
use Rattle.sheet.proofs.records.Lines.record.Goals as goal

pub returns-in-N-clause-taken : goal.returns-in-N-clause-taken
returns-in-N-clause-taken c =
    let r = ahead c.args.self.now.reader in
    let one : length (field_of r) ≡ 1 = search rules in
    let is : get_or (field_of r) 0 0 ≡ 78 = search rules in
    behind_letter r (ahead c.letter.new.self) (ahead c.node_record.new.self.reader) c.args.self.now.line 78 c.in-Some-Letter.ensures.1 one is c.node_record.result c.node_record.ensures.taken

pub returns-in-S-clause-taken : goal.returns-in-S-clause-taken
returns-in-S-clause-taken c =
    let r = ahead c.args.self.now.reader in
    let one : length (field_of r) ≡ 1 = search rules in
    let is : get_or (field_of r) 0 0 ≡ 83 = search rules in
    behind_letter r (ahead c.letter.new.self) (ahead c.edge_record.new.self.reader) c.args.self.now.line 83 c.in-Some-Letter.ensures.1 one is c.edge_record.result c.edge_record.ensures.taken
