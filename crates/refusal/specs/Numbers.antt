-- The number of each refusal, and the line of a sheet that it speaks of.
use Rattle.std.specs.Prelude.{ℕ, List, ◌++◌, codes, decimal}
use Rattle.refusal.specs.declared.Refusal.{Refusal}
use Rattle.refusal.specs.declared.Refusal.TheVariants.{NodesFull, EdgesFull, AmountTooLarge, UnknownNode, EqualEnds, BadCode, EventOutOfRange, GrowthEnded, NoNode, StillGrowing, ClusterNotFormed, ListTooShort, HeapFull, LineForm, LineEntry}

abbrev pub refusal_number : Refusal → ℕ
refusal_number NodesFull = 1
refusal_number EdgesFull = 2
refusal_number AmountTooLarge = 3
refusal_number UnknownNode = 4
refusal_number EqualEnds = 5
refusal_number BadCode = 6
refusal_number EventOutOfRange = 7
refusal_number GrowthEnded = 8
refusal_number NoNode = 9
refusal_number StillGrowing = 10
refusal_number ClusterNotFormed = 11
refusal_number ListTooShort = 12
refusal_number HeapFull = 13
refusal_number (LineForm line) = 14
refusal_number (LineEntry line) = 15

-- 0 where no line applies
abbrev pub refusal_line : Refusal → ℕ
refusal_line NodesFull = 0
refusal_line EdgesFull = 0
refusal_line AmountTooLarge = 0
refusal_line UnknownNode = 0
refusal_line EqualEnds = 0
refusal_line BadCode = 0
refusal_line EventOutOfRange = 0
refusal_line GrowthEnded = 0
refusal_line NoNode = 0
refusal_line StillGrowing = 0
refusal_line ClusterNotFormed = 0
refusal_line ListTooShort = 0
refusal_line HeapFull = 0
refusal_line (LineForm line) = line
refusal_line (LineEntry line) = line

-- `refused`, number and line, parted by tabs
abbrev pub refusal_text : Refusal → List ℕ
refusal_text r = codes "refused\t" ++ (decimal (refusal_number r) ++ (codes "\t" ++ decimal (refusal_line r)))
