use Prim.Native.Nat.{◌-◌}
use lib.ListN.{length}
use Rattle.flow.specs.Opcodes.{opcodes_of}
use Rattle.targets.specs.Targets.{found}
use Rattle.function.specs.mirror.Function.{decoded_by}
use Rattle.disasm.proofs.Checking.{RoomInv}
use Rattle.disasm.proofs.check_lines.Given as goal

abbrev pub invariant-loop-i : goal.invariant-loop-i
invariant-loop-i l = RoomInv (opcodes_of l.opcodes) (found l.f.pool) (decoded_by l.code l.opcodes l.types l.f) (length l.code) l.p l.check l.i

abbrev pub decreases-loop-i : goal.decreases-loop-i
decreases-loop-i l = length l.code - l.i
