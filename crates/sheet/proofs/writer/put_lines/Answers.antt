use Rattle.std.proofs.Common.{length, ap, arith, length-append}
use Rattle.std.proofs.lemmas.List.Folds.{length-flat_map-take}
use Rattle.sheet.proofs.writer.put_lines.Goals as goal

pub put_line-requires : goal.put_line-requires
put_line-requires g c =
    let line = g.L.PutLine.line in
    let room = length-flat_map-take line c.args.lines.now c.loop-line.line-index c.line-item.result c.loop-line-test.true in
    let same = ap (λ x. length (line x)) c.line-item.is in
    omega (arith, simp length-append at (ap length c.loop-line.invariant))
