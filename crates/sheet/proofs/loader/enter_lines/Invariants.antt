use Rattle.std.proofs.Common.{◌≡◌, ◌+◌, ◌≤◌, length}
use Rattle.network.specs.Networks.{net_of}
use Rattle.sheet.specs.Sheets.{enter_from, enter_lines}
use Rattle.sheet.specs.Readers.{ahead}
use Rattle.sheet.proofs.loader.enter_lines.Given as goal

abbrev pub invariant-loop-lines : goal.invariant-loop-lines
invariant-loop-lines l =
    (l.lines.line + length (ahead l.lines.reader) ≤ 1 + length l.sheet)
    × (enter_from (net_of l.initial.network) l.sheet ≡ enter_lines (length (ahead l.lines.reader)) l.lines.line (net_of l.network) (ahead l.lines.reader))

abbrev pub decreases-loop-lines : goal.decreases-loop-lines
decreases-loop-lines l = length (ahead l.lines.reader)
