use mir.Val.{of_z, to_z}
use mir.Facts.{to_z-of_z}
use Rattle.decoder.specs.mirror.Steps.{of_ops}
use mathlib.Core.Path.{sym, ap, ◌∙◌}
use mir.Syntax.{w32}
use native.Mathlib.Omega.{arith}
use Rattle.std.specs.Prelude.{None, Ok}
use Rattle.std.proofs.lemmas.Result.{err_from_is_err_and}
use Rattle.flow.specs.Opcodes.{opcodes_of}
use Rattle.decoder.proofs.Laws.{run_step, run_short, run_end}
use Rattle.decoder.proofs.Agree.{opened}
use Rattle.decoder.proofs.decode_op.Goals as goal
use Rattle.decoder.proofs.decode_op.Goals.{in-Some, in_default}

pub returns-in_err-read : goal.returns-in_err-read
returns-in_err-read c =
    let a = c.args in
    let h = a.head in
    let l = c.loop-k in
    let ops = opcodes_of a.opcodes.now in
    let z = to_z w32 (of_z w32 a.reg_file_start) in
    let short = run_short a.code.now ops a.types.now h.opcode h.scale z c.min-n.result l.k l.p l.count l.before l.slots c.loop-k-test.true c.type_code-t.ensures c.operand_at.ensures _ c.in_err-read.was in
    let p = err_from_is_err_and c.from_residual.result c.from_residual.ensures.1 in
    rw p.1 (rw p.2
    (simp (to_z-of_z c.ranges.reg_file_start) at (sym (ap (of_ops a.start h.opcode h.scale) (l.invariant.2 ∙ short)))
    ∙ opened a.code.now ops a.types.now a.start a.reg_file_start h.opcode h.scale h.at))

pub loop-k-preserved : goal.loop-k-preserved
loop-k-preserved c =
    let a = c.args in
    let l = c.loop-k in
    let next = run_step a.code.now (opcodes_of a.opcodes.now) a.types.now a.head.opcode a.head.scale (to_z w32 (of_z w32 a.reg_file_start)) c.min-n.result l.k l.p l.count l.before l.slots c.loop-k-test.true c.type_code-t.ensures c.operand_at.ensures in
    elim c.match-read.branch [
      | in-Some w ↦ (l.invariant.0, omega arith, rw (w.slots-is, w.p-is, w.count-is) (l.invariant.2 ∙ next _ (c.in_ok-read.was ∙ ap Ok w.in-Some.is)))
      | in_default w ↦ (l.invariant.0, omega arith, rw (w.slots-is, w.p-is, w.count-is) (l.invariant.2 ∙ next None (c.in_ok-read.was ∙ ap Ok w.in_default.is)))
    ]

pub returns : goal.returns
returns c =
    let a = c.args in
    let h = a.head in
    let l = c.loop-k in
    let ops = opcodes_of a.opcodes.now in
    simp (to_z-of_z c.ranges.reg_file_start) at (ap (of_ops a.start h.opcode h.scale) (sym (run_end a.code.now ops a.types.now h.opcode h.scale (to_z w32 (of_z w32 a.reg_file_start)) c.min-n.result l.k _ c.loop-k-test.false) ∙ sym l.invariant.2))
    ∙ opened a.code.now ops a.types.now a.start a.reg_file_start h.opcode h.scale h.at
