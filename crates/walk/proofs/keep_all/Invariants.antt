use Prim.Native.Nat.{◌-◌}
use mathlib.Core.List.{[]}
use lib.ListN.{length}
use Rattle.walk.specs.mirror.Search.{source_of}
use Rattle.walk.proofs.Keeping.{Keeping}
use Rattle.walk.proofs.keep_all.Given as goal

abbrev pub invariant-loop-i : goal.invariant-loop-i
invariant-loop-i l = Keeping (source_of l.code l.opcodes l.types l.slots l.payload [] l.f) l.heads l.words l.check l.i

abbrev pub decreases-loop-i : goal.decreases-loop-i
decreases-loop-i l = length l.code - l.i
