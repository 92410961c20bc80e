use mathlib.Core.Path.{◌≡◌}
use Rattle.serializer.specs.Offset.{raw_tail}
use Rattle.serializer.proofs.offsets.raw_tail.Given as goal

abbrev pub invariant-loop-k : goal.invariant-loop-k
invariant-loop-k l = raw_tail l.slots l.first l.count ≡ raw_tail l.slots l.first l.k
