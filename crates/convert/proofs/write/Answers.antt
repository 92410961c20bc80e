use Rattle.std.proofs.Common.{◌≤◌, length, arith}
use Rattle.text.proofs.PutText.{written_whole}
use Rattle.convert.specs.mirror.Forms.{file_as}
use Rattle.convert.proofs.Laws.{written_short}
use Rattle.convert.proofs.Convert.{file_joined, file_length}
use Rattle.convert.proofs.write.Goals as goal

pub returns-then-n-opcode_size : goal.returns-then-n-opcode_size
returns-then-n-opcode_size c =
    let a = c.args in
    let fits : length (file_as a.to a.opcodes.now) ≤ length a.out.now = rw (file_length a.to a.opcodes.now, ← c.other.ensures, ← c.opcode_size.ensures, ← c.opcode_size-2.ensures) c.if-n-opcode_size.true in
    written_whole (file_as a.to a.opcodes.now) a.out.now (omega (arith, c.well_formed)) fits (rw (c.opcode_size.ensures, c.other.ensures, file_joined a.to a.opcodes.now) at c.put_records.ensures)

pub returns-else-n-opcode_size : goal.returns-else-n-opcode_size
returns-else-n-opcode_size c =
    let a = c.args in
    written_short (file_as a.to a.opcodes.now) a.out.now (rw (file_length a.to a.opcodes.now, ← c.other.ensures, ← c.opcode_size.ensures, ← c.opcode_size-2.ensures) c.if-n-opcode_size.false)
