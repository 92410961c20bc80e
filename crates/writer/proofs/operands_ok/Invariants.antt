use Prim.Native.Nat.{◌-◌, ◌≤◌, min}
use mathlib.Core.Path.{◌≡◌}
use lib.ListN.{length, drop}
use Rattle.tables.specs.Records.{operand_count}
use Rattle.flow.specs.Opcodes.{opcodes_of}
use Rattle.decoder.specs.Decode.{codes_from}
use Rattle.writer.proofs.Loops.{places, ok_places}
use Rattle.writer.proofs.operands_ok.Given as goal

abbrev pub invariant-loop-k : goal.invariant-loop-k
invariant-loop-k l =
    (l.n ≡ min (operand_count l.opcodes l.instr.opcode) 8) × (l.k ≤ l.n) × (l.j ≤ l.instr.count) × (l.instr.count ≤ 8) × (length l.instr.operands ≡ 8)
    × (ok_places l.types l.instr.scale l.start 0 (codes_from (opcodes_of l.opcodes) l.instr.opcode 0 l.n) (places l.instr) ≡ ok_places l.types l.instr.scale l.start l.before (codes_from (opcodes_of l.opcodes) l.instr.opcode l.k (l.n - l.k)) (drop l.j (places l.instr)))
