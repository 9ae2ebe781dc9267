-- A code: 1 to 8 bytes, each a capital letter or a digit.
use Rattle.std.specs.Prelude.{ℕ, ◌-◌, Bool, true, cond, ◌&&◌, ◌||◌, List, [], ◌∷◌, ◌++◌, length, replicate, Some, None, Option, nat_le}

-- every element passes the test
abbrev pub all : {X : Type 0} → (X → Bool) → List X → Bool
all p [] = true
all p (x ∷ xs) = p x && all p xs

abbrev pub is_digit : ℕ → Bool
is_digit b = nat_le 48 b && nat_le b 57

abbrev pub is_capital : ℕ → Bool
is_capital b = nat_le 65 b && nat_le b 90

abbrev pub is_code_byte : ℕ → Bool
is_code_byte b = is_digit b || is_capital b

abbrev pub is_code : List ℕ → Bool
is_code text = nat_le 1 (length text) && (nat_le (length text) 8 && all is_code_byte text)

-- the code that a text makes, if it makes one
abbrev pub code_from : List ℕ → Option (List ℕ)
code_from text = cond (is_code text) (Some text) None

-- a code with 0 behind it, up to 8 bytes
abbrev pub padded_code : List ℕ → List ℕ
padded_code text = text ++ replicate (8 - length text) 0
