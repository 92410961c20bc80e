use lib.ListN.{take, drop, length}
use Rattle.flow.specs.Flow.{flow_of}
use Rattle.lines.specs.Line.{bytes_of}
use Rattle.lines.proofs.Laws.{line_parts}
use Prim.Native.Nat.{ℕ, ◌-◌, ◌<◌, ◌≤◌}
use mathlib.Core.Path.{◌≡◌, sym, ap, ◌∙◌}
use native.Mathlib.Omega.{arith}
use borrow.Author.Rules.{rules}
use mir.Facts.{to_z-of_z}
use mir.Syntax.{w32}
use mir.Val.{SFits, to_z, of_z}
use Rattle.text.proofs.Put.{part, then}
use Rattle.std.specs.Prelude.{Option, Some, None, Ok}
use Rattle.decoder.specs.declared.Instr.{Instr}
use Rattle.decoder.specs.Decode.{Decoded, instr_in, decode_at}
use Rattle.decoder.proofs.Laws.{done_is}
use Rattle.decoder.proofs.Listed.{past, decode_end}
use Rattle.decoder.proofs.Tiles.{decode_says}
use Rattle.flow.specs.Opcodes.{opcodes_of}
use Rattle.function.specs.mirror.Function.{decoded_by}
use Rattle.function.specs.declared.Function.{Function}
use mathlib.Core.List.{List}
use Rattle.lines.specs.mirror.View.{view_of}
use Rattle.text.proofs.PutUpTo.{up_to_kept}
use Rattle.disasm.proofs.Passing.{write_start, write_end, write_refused, done_at}
use Rattle.disasm.proofs.put_each.Goals as goal

-- of what is decoded at a place: y is the call's answer, and x the instruction in it, which ends behind the place and within the code
module _ (code opcodes types : List ℕ) (f : Function) (i : ℕ) (fits : SFits w32 f.frame.reg_file_start) {y : Decoded}
    (is : y ≡ decode_at code (opcodes_of opcodes) types i (to_z w32 (of_z w32 f.frame.reg_file_start)) f.prefixes) where
  decoded_is : y ≡ decoded_by code opcodes types f i
  decoded_is = simp (to_z-of_z fits) at is

  module _ {o : Option Instr} {x : Instr} (e : y ≡ Ok o) (g : o ≡ Some x) where
    instr_is : decoded_by code opcodes types f i ≡ Ok (Some x)
    instr_is = sym decoded_is ∙ e ∙ ap (λ (z : Option Instr). Ok z) g

    progress : (i < x.end) × (x.end ≤ length code)
    progress =
        let at-end = ap (λ (d : Decoded). (instr_in d).end) instr_is in
        rw (← at-end) (past code (opcodes_of opcodes) types f.frame.reg_file_start f.prefixes i (done_is instr_is))

pub loop-i-init : goal.loop-i-init
loop-i-init c = let a = c.args in write_start _ _ _ a.out.now 0 (omega arith)

pub returns-in_default : goal.returns-in_default
returns-in_default c =
    let a = c.args in
    let is = decoded_is a.code.now a.opcodes.now a.types.now a.f c.loop-i.i (search rules) c.decode_at.ensures in
    let none : c.in_default.field-0 ≡ None = search rules in
    write_end _ _ _ c.loop-i.invariant (sym is ∙ c.in_default.is ∙ ap (λ (o : Option Instr). Ok o) none)

pub returns-in_default-2 : goal.returns-in_default-2
returns-in_default-2 c =
    let a = c.args in
    let is = decoded_is a.code.now a.opcodes.now a.types.now a.f c.loop-i.i (search rules) c.decode_at.ensures in
    absurd (write_refused _ _ _ c.loop-i.invariant _ (sym is ∙ c.in_default.is) c.requires.0)

pub slice_bounds-put_instr-count-in-loop-i : goal.slice_bounds-put_instr-count-in-loop-i
slice_bounds-put_instr-count-in-loop-i c =
    let a = c.args in
    let q = progress a.code.now a.opcodes.now a.types.now a.f c.loop-i.i (search rules) c.decode_at.ensures c.in-Ok-Some.is c.in-Ok-Some.field-0-is in
    omega (arith, q.0)

pub slice_bounds-put_instr-start-in-loop-i : goal.slice_bounds-put_instr-start-in-loop-i
slice_bounds-put_instr-start-in-loop-i c =
    let a = c.args in
    let q = progress a.code.now a.opcodes.now a.types.now a.f c.loop-i.i (search rules) c.decode_at.ensures c.in-Ok-Some.is c.in-Ok-Some.field-0-is in
    omega (arith, q.0)

pub slice_bounds-put_instr-end-in-loop-i : goal.slice_bounds-put_instr-end-in-loop-i
slice_bounds-put_instr-end-in-loop-i c =
    let a = c.args in
    let q = progress a.code.now a.opcodes.now a.types.now a.f c.loop-i.i (search rules) c.decode_at.ensures c.in-Ok-Some.is c.in-Ok-Some.field-0-is in
    omega (arith, q.1)

pub loop-i-smaller : goal.loop-i-smaller
loop-i-smaller c =
    let a = c.args in
    let q = progress a.code.now a.opcodes.now a.types.now a.f c.loop-i.i (search rules) c.decode_at.ensures c.in-Ok-Some.is c.in-Ok-Some.field-0-is in
    omega (arith, q.0, q.1)

pub loop-i-preserved : goal.loop-i-preserved
loop-i-preserved c =
    let a = c.args in
    let l = c.loop-i in
    let x = c.in-Ok-Some.instr in
    let is = instr_is a.code.now a.opcodes.now a.types.now a.f c.loop-i.i (search rules) c.decode_at.ensures c.in-Ok-Some.is c.in-Ok-Some.field-0-is in
    let q = progress a.code.now a.opcodes.now a.types.now a.f c.loop-i.i (search rules) c.decode_at.ensures c.in-Ok-Some.is c.in-Ok-Some.field-0-is in
    let offset : x.offset ≡ l.i = rw is at (decode_says a.code.now (opcodes_of a.opcodes.now) a.types.now a.f.frame.reg_file_start a.f.prefixes l.i) in
    let bytes : take (x.end - l.i) (drop l.i a.code.now) ≡ bytes_of a.code.now x = rw offset in
    let flow : c.flow_of-flow.result ≡ flow_of a.opcodes.now x.opcode = c.flow_of-flow.ensures in
    let first = part l.out c.min-q.ensures (rw bytes at c.put_instr-w.ensures) c.saturating_add-at.ensures in
    done_at _ _ _ l.invariant x is (omega (arith, c.well_formed)) q.0 q.1
    (rw (line_parts (view_of a.code.now a.opcodes.now a.types.now a.runtime.now a.intrinsic.now a.slots.now a.payload.now a.f) (flow_of a.opcodes.now x.opcode) x)
    (then (omega (arith, c.well_formed, up_to_kept l.invariant.lines)) first (rw flow at (c.put_goes-p.ensures c.requires.1))))

pub shape_of-out : goal.shape_of-out
shape_of-out c = up_to_kept c.loop-i.invariant.lines

pub returns : goal.returns
returns c =
    let a = c.args in
    let e : c.loop-i.i ≡ length a.code.now = omega (arith, c.loop-i.invariant.pass.inside, c.loop-i-test.false) in
    write_end _ _ _ c.loop-i.invariant (decode_end a.code.now (opcodes_of a.opcodes.now) a.types.now a.f.frame.reg_file_start a.f.prefixes c.loop-i.i e)
