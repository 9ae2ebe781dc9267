use Rattle.std.proofs.Common.{append_assoc}
use Rattle.sheet.proofs.writer.EdgePutLine.put_line.Goals as goal

pub returns : goal.returns
returns c = simp (c.push.ensures.items, c.put-2.ensures, c.text.ensures, c.put_field-3.ensures, c.put_field-2.ensures, c.put_field.ensures, c.put.ensures, append_assoc)
