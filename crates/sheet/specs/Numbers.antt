-- A number: 1 to 10 decimal digits, with no leading zero but in `0` itself.
use Rattle.std.specs.Prelude.{ℕ, ◌+◌, ◌-◌, ◌*◌, Bool, cond, not, ◌&&◌, List, [], ◌∷◌, length, Some, None, Option, ◌==◌, nat_le, nat_lt, slice_index}
use Rattle.network.specs.Codes.{all, is_digit}

-- the number so far, and the digits behind it
abbrev pub value_from : ℕ → List ℕ → ℕ
value_from n [] = n
value_from n (d ∷ ds) = value_from (n * 10 + (d - 48)) ds

-- the number that digits write
abbrev pub value_of : List ℕ → ℕ
value_of digits = value_from 0 digits

abbrev pub leads_with_zero : List ℕ → Bool
leads_with_zero digits = nat_lt 1 (length digits) && slice_index digits 0 == 48

abbrev pub is_number : List ℕ → Bool
is_number bytes = nat_le 1 (length bytes) && (nat_le (length bytes) 10 && (not (leads_with_zero bytes) && all is_digit bytes))

abbrev pub number_from : List ℕ → Option ℕ
number_from bytes = cond (is_number bytes) (Some (value_of bytes)) None
