use Prim.Native.Nat.{◌+◌, ◌-◌, ◌*◌, ◌≤◌, min}
use mathlib.Core.Path.{◌≡◌}
use Rattle.tables.specs.Records.{operand_count}
use Rattle.flow.specs.Opcodes.{opcodes_of}
use Rattle.decoder.specs.Decode.{codes_from}
use Rattle.decoder.specs.mirror.Extent.{size_from}
use Rattle.decoder.proofs.operands_size.Given as goal

abbrev pub invariant-loop-k : goal.invariant-loop-k
invariant-loop-k l =
    (l.n ≡ min (operand_count l.opcodes l.opcode) 8) × (l.size ≤ 16 * l.k)
    × (size_from l.types l.scale 0 (codes_from (opcodes_of l.opcodes) l.opcode 0 l.n) ≡ l.size + size_from l.types l.scale l.before (codes_from (opcodes_of l.opcodes) l.opcode l.k (l.n - l.k)))
