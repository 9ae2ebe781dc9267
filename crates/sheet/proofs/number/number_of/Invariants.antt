use Rattle.std.proofs.Common.{◌≡◌, true, take}
use Rattle.network.specs.Codes.{all, is_digit}
use Rattle.sheet.specs.Numbers.{value_from}
use Rattle.sheet.proofs.number.number_of.Given as goal

abbrev pub invariant-loop-digit : goal.invariant-loop-digit
invariant-loop-digit l = (all is_digit (take l.digit-index l.bytes) ≡ true) × (l.value ≡ value_from 0 (take l.digit-index l.bytes))
