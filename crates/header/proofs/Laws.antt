-- Laws of header fields and numbers, over plain variables. Assumes nothing.
use Prim.Native.Nat.{ℕ, ◌≤◌}
use mathlib.Core.Path.{◌≡◌, refl}
use mathlib.Core.Bool.{true, false}
use mathlib.Core.List.{List}
use native.Mathlib.Omega.{arith}
use borrow.Author.Tests.{leb-true}
use lib.IntN.{ℤ, pos, negsuc, nat_abs}
use lib.ListN.{get_or}
use Rattle.laws.proofs.Tests.{clash}
use Rattle.words.specs.Le.{le_at}
use Rattle.header.specs.Header.{length_ok}

-- a byte is a number of width 1
pub byte_one : (s : List ℕ) (i : ℕ) → get_or s i 0 ≡ le_at s i 1
unfolding le_at
byte_one s i = omega arith

-- row 9's test bounds the magnitude
pub length_small : (z : ℤ) → length_ok z ≡ true → nat_abs z ≤ 65536
length_small (pos n) h = leb-true n 65536 h
length_small (negsuc n) h = clash {b = false} h refl
