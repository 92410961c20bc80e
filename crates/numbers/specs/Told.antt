-- A number as C is told it.
use Rattle.std.specs.Prelude.{ℕ, ℤ}
use Rattle.std.specs.Int.{w64}
use mir.Val.{of_z}

-- a value in 64 bits: a negative one in two's complement
abbrev pub told64 : ℤ → ℕ
told64 v = of_z w64 v
