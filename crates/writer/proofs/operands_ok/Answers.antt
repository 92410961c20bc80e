use Prim.Native.Nat.{◌-◌, ◌<◌, min}
use mathlib.Core.Path.{◌≡◌, sym, ◌∙◌}
use native.Mathlib.Omega.{arith}
use mir.Facts.{to_z-of_z}
use mir.Syntax.{w32}
use mir.Val.{to_z, of_z}
use borrow.Author.Tests.{lt-leb}
use Rattle.tables.specs.Records.{operand_count}
use Rattle.flow.specs.Opcodes.{opcodes_of}
use lib.ListN.{length-take, drop}
use Rattle.writer.proofs.Loops.{is_none, places, place_below, ok_passes, ok_fails, ok_goes, ok_lacks, ok_end, ok_told}
use borrow.Author.Rules.{rules}
use Rattle.writer.proofs.operands_ok.Goals as goal
use Rattle.writer.proofs.operands_ok.Goals.{then-not-counted+in-Some+else-not-reads_back, else-not-counted}

pub returns-then-instr-gt8 : goal.returns-then-instr-gt8
returns-then-instr-gt8 c =
    rw (lt-leb _ _ c.if-instr-gt8.true)

pub loop-k-init : goal.loop-k-init
loop-k-init c =
    let a = c.args in
    let is : c.min-n.result ≡ min (operand_count a.opcodes.now a.instr.opcode) 8 = omega arith in
    let whole : c.min-n.result - 0 ≡ c.min-n.result = omega arith in
    (is, omega arith, omega arith, omega (arith, c.if-instr-gt8.false), search rules, rw whole)

pub returns-in_default : goal.returns-in_default
returns-in_default c =
    let a = c.args in
    let l = c.loop-k in
    let z = to_z w32 (of_z w32 a.start) in
    let none = sym c.place_at.ensures ∙ is_none c.place_at.result c.in_default.not-Some in
    sym (simp (to_z-of_z c.ranges.start) at (ok_told a.types.now z (opcodes_of a.opcodes.now) a.instr l.invariant.0 l.invariant.3 (l.invariant.5 ∙ ok_lacks a.types.now a.instr.scale z (opcodes_of a.opcodes.now) a.instr.opcode c.min-n.result l.k c.type_code-t.result l.before c.loop-k-test.true c.type_code-t.ensures (places a.instr) l.j (sym c.counted.ensures ∙ c.if-not-counted.true) none)))

pub returns-then-not-reads_back : goal.returns-then-not-reads_back
returns-then-not-reads_back c =
    let a = c.args in
    let l = c.loop-k in
    let z = to_z w32 (of_z w32 a.start) in
    sym (simp (to_z-of_z c.ranges.start) at (ok_told a.types.now z (opcodes_of a.opcodes.now) a.instr l.invariant.0 l.invariant.3 (l.invariant.5 ∙ ok_fails a.types.now a.instr.scale z (opcodes_of a.opcodes.now) a.instr.opcode c.min-n.result l.k c.type_code-t.result l.before c.loop-k-test.true c.type_code-t.ensures (places a.instr) l.j c.in-Some.op (sym c.counted.ensures ∙ c.if-not-counted.true) (sym c.place_at.ensures ∙ c.in-Some.is) (sym c.reads_back.ensures ∙ c.if-not-reads_back.true))))

pub loop-k-preserved : goal.loop-k-preserved
loop-k-preserved c =
    let a = c.args in
    let l = c.loop-k in
    let z = to_z w32 (of_z w32 a.start) in
    let n = c.min-n.result in
    let t = c.type_code-t.result in
    let more = c.loop-k-test.true in
    elim c.if-not-counted.branch [
      | then-not-counted+in-Some+else-not-reads_back w ↦
          let here = sym w.place_at.ensures ∙ w.in-Some.is in
          let below : l.j < a.instr.count = omega (arith, place_below (places a.instr) l.j w.in-Some.op here, length-take a.instr.count a.instr.operands) in
          (l.invariant.0, omega (arith, more), omega arith, l.invariant.3, l.invariant.4, rw w.j-is (l.invariant.5 ∙ ok_goes a.types.now a.instr.scale z (opcodes_of a.opcodes.now) a.instr.opcode n l.k t l.before more c.type_code-t.ensures (places a.instr) l.j w.in-Some.op (sym c.counted.ensures ∙ w.if-not-counted.true) here (sym w.reads_back.ensures ∙ w.if-not-reads_back.false)))
      | else-not-counted w ↦
          (l.invariant.0, omega (arith, more), omega arith, l.invariant.3, l.invariant.4, rw w.j-is (l.invariant.5 ∙ ok_passes a.types.now a.instr.scale z (opcodes_of a.opcodes.now) a.instr.opcode n l.k t l.before more c.type_code-t.ensures (drop l.j (places a.instr)) (sym c.counted.ensures ∙ w.if-not-counted.false)))
    ]

pub returns : goal.returns
returns c =
    let a = c.args in
    let l = c.loop-k in
    let z = to_z w32 (of_z w32 a.start) in
    sym (simp (to_z-of_z c.ranges.start) at (ok_told a.types.now z (opcodes_of a.opcodes.now) a.instr l.invariant.0 l.invariant.3 (l.invariant.5 ∙ ok_end a.types.now a.instr.scale z (opcodes_of a.opcodes.now) a.instr.opcode c.min-n.result l.k l.before a.instr l.j l.invariant.3 l.invariant.4 l.invariant.2 c.loop-k-test.false)))
