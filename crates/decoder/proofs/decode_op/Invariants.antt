use Prim.Native.Nat.{◌-◌, ◌≤◌, min}
use mathlib.Core.Path.{◌≡◌}
use Rattle.tables.specs.Records.{operand_count}
use Rattle.flow.specs.Opcodes.{opcodes_of}
use Rattle.decoder.specs.mirror.Steps.{run_ops, operands_at}
use Rattle.decoder.proofs.Laws.{done_ops}
use Rattle.decoder.proofs.decode_op.Given as goal

abbrev pub invariant-loop-k : goal.invariant-loop-k
invariant-loop-k l =
    (l.n ≡ min (operand_count l.opcodes l.head.opcode) 8) × (l.count ≤ l.k)
    × (operands_at l.code (opcodes_of l.opcodes) l.types l.head.opcode l.head.scale l.reg_file_start l.head.at ≡ run_ops l.code (opcodes_of l.opcodes) l.types l.head.opcode l.head.scale l.reg_file_start (l.n - l.k) l.k (done_ops l.p l.count l.before l.slots))
