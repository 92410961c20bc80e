use lib.ListN.{length}
use Prim.Native.Nat.{◌-◌}
use Rattle.function.specs.mirror.Function.{decoded_by}
use Rattle.lines.specs.mirror.View.{view_of}
use Rattle.disasm.proofs.Passing.{WriteInv}
use Rattle.disasm.proofs.put_each.Given as goal

abbrev pub invariant-loop-i : goal.invariant-loop-i
invariant-loop-i l = WriteInv (view_of l.code l.opcodes l.types l.runtime l.intrinsic l.slots l.payload l.f) (decoded_by l.code l.opcodes l.types l.f) (length l.code) l.initial.out 0 l.out l.p l.i

abbrev pub decreases-loop-i : goal.decreases-loop-i
decreases-loop-i l = length l.code - l.i
