use Rattle.std.proofs.Common.{◌≡◌, ◌+◌, ◌-◌, ◌<◌, min, length}
use Rattle.words.specs.Le.{le_at}
use Rattle.words.proofs.le_at.Given as goal

abbrev pub invariant-loop-k : goal.invariant-loop-k
invariant-loop-k l = (l.i < length l.s) × (l.v ≡ le_at l.s (l.i + l.k) (min l.w 8 - l.k))
