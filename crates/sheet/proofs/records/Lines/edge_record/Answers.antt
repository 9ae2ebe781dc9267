use Rattle.std.proofs.Common.{◌≡◌, rules}
use Rattle.sheet.specs.Readers.{ahead, field_of}
use Rattle.sheet.proofs.Forms.{edge_accepted}
use Rattle.sheet.proofs.records.Lines.edge_record.Goals as goal

pub returns-clause-taken : goal.returns-clause-taken
returns-clause-taken c =
    let r = ahead c.args.self.now.reader in
    let s = ahead c.value.new.self.reader in
    let t = ahead c.value-2.new.self.reader in
    let u = ahead c.value-3.new.self.reader in
    let a = c.in_ok-first.ensures.value in
    let b = c.in_ok-second.ensures.value in
    let k = c.in_ok-cost.ensures.value in
    let code : c.in-Some-Code.code.now ≡ field_of u = search rules in
    edge_accepted r s a.2 t b.2 u k.2 (ahead c.code.new.self) _ _ _ _ a.0 b.0 k.0 a.1 b.1 k.1 code c.in-Some-Code.ensures.1
