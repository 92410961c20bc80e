use mathlib.Core.Path.{sym, ap, ◌∙◌}
use Rattle.capi.specs.Told.{no_opcode}
use Rattle.capi.proofs.Writes.{known_told, unknown_told}
use Rattle.capi.proofs.jscd_write.Goals as goal

pub returns-then-not-known : goal.returns-then-not-known
returns-then-not-known c =
    let a = c.args in
    unknown_told a.opcodes.now a.types.now a.layout.now a.numbers.now a.out.now (sym c.opcode_known-known.ensures ∙ c.if-not-known.true) c.instr_of-instr.ensures (c.no_opcode.ensures ∙ ap no_opcode c.check_scale-check.ensures) c.tell_written.ensures

pub returns : goal.returns
returns c =
    let a = c.args in
    known_told a.opcodes.now a.types.now a.layout.now a.numbers.now a.out.now c.write-written.result (sym c.opcode_known-known.ensures ∙ c.if-not-known.false) c.instr_of-instr.ensures c.write-written.ensures c.tell_written-2.ensures
