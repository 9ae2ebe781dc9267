use Rattle.std.proofs.Common.{Err, sym, ap, ◌∙◌, arith}
use Rattle.std.proofs.lemmas.Result.{err_from_is_err_and}
use Rattle.network.specs.Networks.{net_of}
use Rattle.sheet.specs.Readers.{ahead, entry_in}
use Rattle.sheet.proofs.Entering.{parsed_shorter, sheet_more, sheet_entry_refused, sheet_form_refused}
use Rattle.sheet.proofs.loader.enter_lines.Goals as goal

pub returns-in_err-record : goal.returns-in_err-record
returns-in_err-record c =
    let p = err_from_is_err_and c.from_residual.result c.from_residual.ensures.1 in
    let t = c.in_err-record.ensures.taken in
    rw (p.1, p.2) (c.loop-lines.invariant.1 ∙ sheet_form_refused c.loop-lines.lines.line (net_of c.loop-lines.network) (ahead c.loop-lines.lines.reader) (sym c.loop-lines-test.ensures) t.1 ∙ ap Err (sym t.0))

pub returns-in_err-enter : goal.returns-in_err-enter
returns-in_err-enter c =
    let p = err_from_is_err_and c.from_residual-in_err-enter.result c.from_residual-in_err-enter.ensures.1 in
    let t = c.in_ok-record.ensures.taken in
    let u = rw c.record.ensures.line at c.in_err-enter.ensures in
    rw (p.1, p.2) (c.loop-lines.invariant.1 ∙ sheet_entry_refused c.loop-lines.lines.line (net_of c.loop-lines.network) (ahead c.loop-lines.lines.reader) (ahead c.record.new.self.reader) (entry_in c.in_ok-record.«record») c.in_err-enter.field-0.0 t u)

pub loop-lines-smaller : goal.loop-lines-smaller
loop-lines-smaller c = parsed_shorter (ahead c.loop-lines.lines.reader) (ahead c.record.new.self.reader) (entry_in c.in_ok-record.«record») c.in_ok-record.ensures.taken

pub loop-lines-preserved : goal.loop-lines-preserved
loop-lines-preserved c =
    let t = c.in_ok-record.ensures.taken in
    let u = rw c.record.ensures.line at c.in_ok-enter.ensures in
    let e = entry_in c.in_ok-record.«record» in
    let l = parsed_shorter (ahead c.loop-lines.lines.reader) (ahead c.record.new.self.reader) e t in
    rw c.record.ensures.line (omega arith, c.loop-lines.invariant.1 ∙ sheet_more c.loop-lines.lines.line (net_of c.loop-lines.network) (net_of c.enter.new.network) (ahead c.loop-lines.lines.reader) (ahead c.record.new.self.reader) e t u)
