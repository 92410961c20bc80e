use Prim.Native.Nat.{◌-◌, ◌≤◌, min}
use mathlib.Core.Path.{◌≡◌}
use mathlib.Core.Bool.{true}
use lib.ListN.{drop}
use Rattle.text.proofs.PutUpTo.{PutUpTo}
use Rattle.tables.specs.Records.{operand_count}
use Rattle.flow.specs.Opcodes.{opcodes_of}
use Rattle.decoder.specs.Decode.{codes_from}
use Rattle.decoder.specs.Decode.{operands_in}
use Rattle.writer.specs.Write.{given, all_hold}
use Rattle.writer.proofs.Loops.{places, bytes_from}
use Rattle.writer.proofs.put_operands.Given as goal

abbrev pub invariant-loop-k : goal.invariant-loop-k
invariant-loop-k l =
    (l.n ≡ min (operand_count l.opcodes l.instr.opcode) 8) × (l.k ≤ l.n) × (l.j ≤ l.k) × (all_hold (places l.instr) ≡ true)
    × PutUpTo l.initial.out l.at (bytes_from l.types l.instr.scale l.start 0 (codes_from (opcodes_of l.opcodes) l.instr.opcode 0 l.n) (given l.instr)) (bytes_from l.types l.instr.scale l.start l.before (codes_from (opcodes_of l.opcodes) l.instr.opcode l.k (l.n - l.k)) (operands_in (drop l.j (places l.instr)))) l.out l.p
