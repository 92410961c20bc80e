use Rattle.text.specs.Put.{Put}
use Rattle.flow.specs.Opcodes.{opcodes_of}
use Rattle.lines.specs.mirror.Parts.{instr_by}
use Rattle.text.proofs.Put.{kept, then}
use Prim.Native.Nat.{◌-◌, ◌+◌, ◌<◌, ◌≤◌, ◌^◌}
use mathlib.Core.Path.{◌≡◌}
use mathlib.Core.List.{◌++◌}
use native.Mathlib.Omega.{arith}
use native.Mathlib.Nat.{sub-zero}
use mir.Facts.{to_z-of_z}
use mir.Syntax.{w32}
use mir.Val.{SFits}
use borrow.Author.Rules.{rules}
use lib.ListN.{length, get_or}
use Rattle.std.specs.Prelude.{None}
use Rattle.decoder.specs.Decode.{record_of}
use Rattle.bytecode.specs.Texts.{operand_text}
use Rattle.targets.specs.Targets.{operand_of}
use Rattle.targets.proofs.Laws.{operand_some}
use Rattle.lines.specs.Line.{before, operands_by}
use Rattle.lines.specs.mirror.View.{names_of}
use Rattle.text.proofs.PutUpTo.{up_to_none, up_to_more, up_to_all, up_to_kept}
use Rattle.lines.proofs.Laws.{operands_next, operands_end}
use Rattle.lines.proofs.put_instr.Goals as goal

pub loop-k-init : goal.loop-k-init
loop-k-init c = rw sub-zero (up_to_none _ _ _ (omega (arith, c.instr_name-p.ensures.end)))

pub loop-k-preserved : goal.loop-k-preserved
loop-k-preserved c =
    let s = c in
    let a = s.args in
    let l = c.loop-k in
    let n = c.min-n.result in
    let i = a.instr.now in
    let t : l.k < n = omega arith in
    let names = names_of a.types.now a.runtime.now a.intrinsic.now in
    let f : SFits w32 a.f.params = search rules in
    let small : length c.instr_name-p.new.out ≤ 2 ^ 63 = omega (arith, s.well_formed, kept c.put_place-p.ensures, kept c.instr_name-p.ensures) in
    let place : (get_or i.operands l.k (record_of None)).operand ≡ operand_of i l.k = operand_some i l.k (omega (arith, t)) in
    let u = before l.k ++ operand_text names a.f.frame a.f.params (operand_of i l.k) in
    up_to_more u (operands_by names a.f.frame a.f.params i (l.k + 1) (n - (l.k + 1))) small (operands_next names a.f.frame a.f.params i n l.k t) l.invariant
    (then (omega (arith, small, up_to_kept l.invariant)) c.put_before-p.ensures (simp (to_z-of_z f) at (rw place at c.render_operand-p.ensures)))

written : (c : goal.After-loop-k) → let a = c.args in
    Put a.out.now 0 (instr_by a.bytes.now (opcodes_of a.opcodes.now) (names_of a.types.now a.runtime.now a.intrinsic.now) a.f.frame a.f.params a.instr.now) c.loop-k.out c.loop-k.p
written c =
    let s = c in
    let a = s.args in
    let l = c.loop-k in
    let m = c.min-n.ensures in
    let names = names_of a.types.now a.runtime.now a.intrinsic.now in
    let head = then (omega (arith, s.well_formed)) c.put_place-p.ensures c.instr_name-p.ensures in
    then (omega (arith, s.well_formed)) head (rw (← m) (up_to_all (operands_end names a.f.frame a.f.params a.instr.now c.min-n.result l.k (omega arith)) l.invariant))

pub shape_of-out : goal.shape_of-out
shape_of-out c = kept (written c)

pub returns : goal.returns
returns c = written c
