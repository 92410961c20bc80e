use Rattle.std.proofs.Common.{◌≡◌, take}
use Rattle.registers.specs.Registers.{with_operands}
use Rattle.registers.proofs.with_instr.Given as goal

abbrev pub invariant-loop-i : goal.invariant-loop-i
invariant-loop-i l = l.b ≡ with_operands l.initial.b (take l.i l.x.operands)
