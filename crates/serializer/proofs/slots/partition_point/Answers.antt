use native.Mathlib.Omega.{arith}
use Rattle.serializer.proofs.Point.{reach_end}
use Rattle.serializer.proofs.slots.partition_point.Goals as goal

pub returns : goal.returns
returns c = let a = c.args in reach_end a.slots.now a.first a.below c.loop-lo.invariant.2 (omega arith)
