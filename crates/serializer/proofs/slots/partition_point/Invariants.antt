use Prim.Native.Nat.{◌≤◌, ◌-◌}
use Rattle.serializer.specs.mirror.Search.{point_at}
use Rattle.serializer.proofs.Point.{Reaches}
use Rattle.serializer.proofs.slots.partition_point.Given as goal

abbrev pub invariant-loop-lo : goal.invariant-loop-lo
invariant-loop-lo l = (l.lo ≤ l.hi) × (l.hi ≤ l.count) × Reaches l.slots l.first l.below (point_at l.slots l.first l.count l.below) l.lo l.hi

abbrev pub decreases-loop-lo : goal.decreases-loop-lo
decreases-loop-lo l = l.hi - l.lo
