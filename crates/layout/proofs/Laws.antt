-- Laws of the layout's values. Assumes nothing.
use Prim.Native.Nat.{ℕ, ◌+◌, ◌<◌, ◌≤◌}
use mathlib.Core.Path.{◌≡◌}
use lib.ListN.{take, drop, replicate}
use Rattle.laws.proofs.Runs.{run_at}
use Rattle.layout.specs.Layout.{Range, ranges, range_of, any}

-- the layout values from from on, n of them, have one range
pub range_run : (r : Range) (from n : ℕ) → take n (drop from ranges) ≡ replicate n r → (k : ℕ) → from ≤ k → k < from + n → range_of k ≡ r
unfolding range_of
range_run r from n e k low high = run_at ranges any r from n e k low high
