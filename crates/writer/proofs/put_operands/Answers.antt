use Prim.Native.Nat.{◌-◌, ◌+◌, min}
use mathlib.Core.Path.{◌≡◌, sym, ap, ◌∙◌}
use native.Mathlib.Omega.{arith}
use native.Mathlib.Nat.{sub-zero}
use mir.Facts.{to_z-of_z}
use mir.Syntax.{w32}
use mir.Val.{to_z, of_z}
use lib.ListN.{drop}
use Rattle.text.proofs.PutUpTo.{up_to_none, up_to_more, up_to_all, up_to_kept}
use Rattle.tables.specs.Records.{operand_count}
use Rattle.flow.specs.Opcodes.{opcodes_of}
use Rattle.decoder.specs.Decode.{codes_from, operands_in}
use Rattle.writer.specs.Bytes.{operand_bytes}
use Rattle.writer.proofs.Loops.{bytes_from, is_none, places, place_next, places_end, bytes_passes, bytes_takes, bytes_lack, bytes_end, bytes_told, text_is}
use Rattle.writer.proofs.put_operands.Goals as goal
use Rattle.writer.proofs.put_operands.Goals.{then-not-counted+in-Some, else-not-counted}

pub loop-k-init : goal.loop-k-init
loop-k-init c =
    let a = c.args in
    let is : c.min-n.result ≡ min (operand_count a.opcodes.now a.instr.opcode) 8 = omega arith in
    (is, omega arith, omega arith, c.requires.1, rw sub-zero (up_to_none a.out.now a.at _ c.saturating_add-p.ensures))

pub shape_of-out : goal.shape_of-out
shape_of-out c =
    up_to_kept c.loop-k.invariant.4

pub returns : goal.returns
returns c =
    let a = c.args in
    let l = c.loop-k in
    let z = to_z w32 (of_z w32 a.start) in
    let n = c.min-n.result in
    simp (to_z-of_z c.ranges.start) at (text_is (bytes_told a.types.now z (opcodes_of a.opcodes.now) a.instr l.invariant.0) (up_to_all (bytes_end a.types.now a.instr.scale z (opcodes_of a.opcodes.now) a.instr.opcode n l.k l.before (operands_in (drop l.j (places a.instr))) c.loop-k-test.false) l.invariant.4))

pub returns-in_default : goal.returns-in_default
returns-in_default c =
    let a = c.args in
    let l = c.loop-k in
    let z = to_z w32 (of_z w32 a.start) in
    let n = c.min-n.result in
    let none = sym c.place_at.ensures ∙ is_none c.place_at.result c.in_default.not-Some in
    simp (to_z-of_z c.ranges.start) at (text_is (bytes_told a.types.now z (opcodes_of a.opcodes.now) a.instr l.invariant.0) (up_to_all (bytes_lack a.types.now a.instr.scale z (opcodes_of a.opcodes.now) a.instr.opcode n l.k l.before (operands_in (drop l.j (places a.instr))) (ap operands_in (places_end (places a.instr) l.j l.invariant.3 none))) l.invariant.4))

pub loop-k-preserved : goal.loop-k-preserved
loop-k-preserved c =
    let a = c.args in
    let l = c.loop-k in
    let z = to_z w32 (of_z w32 a.start) in
    let n = c.min-n.result in
    let t = c.type_code-t.result in
    let more = c.loop-k-test.true in
    elim c.if-not-counted.branch [
      | then-not-counted+in-Some w ↦
          let next = ap operands_in (place_next (places a.instr) l.j w.in-Some.op (sym w.place_at.ensures ∙ w.in-Some.is)) in
          (l.invariant.0, omega (arith, more), omega arith, l.invariant.3, rw (w.out-is, w.p-is, w.j-is) (up_to_more (operand_bytes a.types.now a.instr.scale z t w.in-Some.op) (bytes_from a.types.now a.instr.scale z t (codes_from (opcodes_of a.opcodes.now) a.instr.opcode (l.k + 1) (n - (l.k + 1))) (operands_in (drop (l.j + 1) (places a.instr)))) (omega (arith, c.well_formed)) (bytes_takes a.types.now a.instr.scale z (opcodes_of a.opcodes.now) a.instr.opcode n l.k t l.before more c.type_code-t.ensures (operands_in (drop l.j (places a.instr))) w.in-Some.op (operands_in (drop (l.j + 1) (places a.instr))) (sym c.counted.ensures ∙ w.if-not-counted.true) next) l.invariant.4 w.put_operand-p.ensures))
      | else-not-counted w ↦
          (l.invariant.0, omega (arith, more), omega arith, l.invariant.3, rw (w.out-is, w.p-is, w.j-is) (rw (← bytes_passes a.types.now a.instr.scale z (opcodes_of a.opcodes.now) a.instr.opcode n l.k t l.before more c.type_code-t.ensures (operands_in (drop l.j (places a.instr))) (sym c.counted.ensures ∙ w.if-not-counted.false)) l.invariant.4))
    ]
