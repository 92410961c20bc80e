-- The answers of calls that write a text in 01's numbers.
use Rattle.std.specs.Prelude.{ℕ, ◌≡◌, List, [], ◌∷◌, pos}
use Rattle.refusal.specs.Numbers.{Numbers, refusal_numbers}
use Rattle.std.specs.Prelude.{Result, Ok, Err}
use Rattle.refusal.specs.Refusal.{Refusal}

-- The value is the text's length, which is the place behind it too. proofs/Numbers.antt: the numbers are those of one answer only.
abbrev pub written_numbers : Result ℕ Refusal → Numbers
written_numbers (Ok n) = record { number = 0; place = n; values = pos n ∷ [] }
written_numbers (Err r) = refusal_numbers r

-- an answer r and a buffer o' are those of a call, the answer in 01's numbers
abbrev pub WrittenAs : Result ℕ Refusal × List ℕ → Result ℕ Refusal → List ℕ → Type 0
WrittenAs a r o' = (written_numbers r ≡ written_numbers a.0) × (o' ≡ a.1)
