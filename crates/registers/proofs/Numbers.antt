-- The numbers of the largest register say all of it. Assumes nothing.
use Rattle.std.specs.Prelude.{ℕ}
use mathlib.Core.Path.{◌≡◌, refl}
use Rattle.refusal.specs.Numbers.{Numbers}
use Rattle.refusal.proofs.Numbers.{one_by, found_or, count}
use Rattle.registers.specs.Numbers.{largest_numbers}
use Rattle.std.specs.Prelude.{Option, Some, None}

abbrev largest_of : Numbers → Option ℕ
largest_of n = found_or None (λ vs. Some (count 0 vs)) n.values

largest_back : (a : Option ℕ) → largest_of (largest_numbers a) ≡ a
largest_back (Some n) = refl
largest_back None = refl

pub largest_numbers_one : (a b : Option ℕ) → largest_numbers a ≡ largest_numbers b → a ≡ b
largest_numbers_one = one_by largest_numbers largest_of largest_back
