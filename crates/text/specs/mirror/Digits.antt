-- Laws `decimal_two`, `decimal_hundreds`, `padded_four` and `column` (proofs/Texts.antt): the texts that are put by these are those of
-- ../Texts.antt.
use Rattle.std.specs.Prelude.{ℕ, ◌+◌, ◌/◌, ◌%◌, cond, List, [], ◌∷◌, ◌++◌, ltb}
use Rattle.text.specs.Texts.{hex_byte}

-- two digits, for a number below 100
abbrev pub two_digits : ℕ → List ℕ
two_digits n = (48 + n / 10) ∷ (48 + n % 10) ∷ []

-- the digit of n at a power of ten, or a blank where n has fewer
abbrev pub leading_digit : ℕ → ℕ → ℕ
leading_digit n power = cond (ltb n power) 32 (48 + n / power % 10)

-- a byte's digits and a blank
abbrev pub hex_before : ℕ → List ℕ
hex_before b = hex_byte b ++ (32 ∷ [])
