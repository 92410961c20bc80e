use Rattle.std.proofs.Common.{ℕ, ◌^◌, ◌<◌, ◌≤◌, arith, lit<}
use Rattle.std.proofs.Math.Nat.{pow-le-pow_right}
use Rattle.words.proofs.LeBytes.{pow_pos}
use Rattle.writer.proofs.low_bytes.Goals as goal

below : (w : ℕ) → w < 8 → 256 ^ w < 2 ^ 64
below w h = let l : 256 ^ w ≤ 256 ^ 7 = pow-le-pow_right {n = 256} (lit< tt) {i = w} {j = 7} (omega arith) in omega arith

pub pow-requires : goal.pow-requires
pow-requires c = below c.args.w c.if-w-lt8.true

pub nonzero_rem-result : goal.nonzero_rem-result
nonzero_rem-result c = omega (arith, pow_pos c.args.w)
