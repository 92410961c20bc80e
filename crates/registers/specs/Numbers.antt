-- The largest register in 01's numbers.
use Rattle.std.specs.Prelude.{ℕ, [], ◌∷◌, pos}
use Rattle.refusal.specs.Numbers.{Numbers, finds, finds_nothing}
use Rattle.std.specs.Prelude.{Option, Some, None}

abbrev pub largest_numbers : Option ℕ → Numbers
largest_numbers (Some n) = finds (pos n ∷ [])
largest_numbers None = finds_nothing
