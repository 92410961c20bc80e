use Prim.Native.Nat.{ℕ, ◌+◌, ◌<◌, ◌≤◌, min}
use mathlib.Core.Path.{◌≡◌, sym, ap, ◌∙◌}
use native.Mathlib.Omega.{arith}
use lib.ListN.{length}
use Rattle.refusal.specs.Check.{first_refusal}
use Rattle.text.specs.Put.{place}
use Rattle.tables.specs.Records.{operand_count}
use Rattle.decoder.specs.declared.Extent.{Extent}
use Rattle.std.specs.Prelude.{Option, Some, Result, Ok}
use Rattle.std.proofs.lemmas.Result.{err_from_is_err_and}
use Rattle.refusal.specs.Refusal.{Refusal}
use Rattle.decoder.specs.Decode.{instr_in, Done}
use Rattle.decoder.specs.mirror.Extent.{extent_of}
use Rattle.decoder.proofs.Listed.{past, decode_end}
use Rattle.decoder.proofs.Tiles.{decode_says}
use Rattle.decoder.proofs.Short.{short}
use Rattle.flow.specs.Opcodes.{opcodes_of}
use Rattle.function.specs.mirror.Function.{decoded_by}
use Rattle.function.specs.declared.Function.{Function}
use mathlib.Core.List.{List}
use Rattle.disasm.proofs.Counts.{counted}
use Rattle.disasm.proofs.Checking.{and_is, room_start, room_end, extent_in, extent_some, checked_refused, checked_end, checked_done}
use Rattle.disasm.proofs.check_lines.Goals as goal

-- of what is decoded at a place: y is the call's answer, and x the extent in it, which ends behind the place and within the code
module _ (code opcodes types : List ℕ) (f : Function) (i : ℕ) {y : Result (Option Extent) Refusal} (is : y ≡ extent_of (decoded_by code opcodes types f i))
    {o : Option Extent} {x : Extent} (e : y ≡ Ok o) (g : o ≡ Some x) where
  extent_is : extent_of (decoded_by code opcodes types f i) ≡ Ok (Some x)
  extent_is = sym is ∙ e ∙ ap (λ (z : Option Extent). Ok z) g

  known : Done (decoded_by code opcodes types f i) × (x ≡ extent_in (instr_in (decoded_by code opcodes types f i)))
  known = extent_some (decoded_by code opcodes types f i) extent_is

  progress : (i < x.end) × (x.end ≤ length code)
  progress = rw known.1 (past code (opcodes_of opcodes) types f.frame.reg_file_start f.prefixes i known.0)

pub loop-i-init : goal.loop-i-init
loop-i-init c = room_start _ _ _ _

pub returns-in_err-x : goal.returns-in_err-x
returns-in_err-x c =
    let p = err_from_is_err_and c.from_residual.result c.from_residual.ensures.1 in
    rw (p.1, p.2) (checked_refused _ _ _ _ c.loop-i.invariant (c.extent_at.ensures c.args.f.frame.reg_file_start) _ c.in_err-x.was)

pub returns-in_default : goal.returns-in_default
returns-in_default c =
    rw c.and.ensures
    (checked_end _ _ _ _ c.loop-i.invariant (c.extent_at.ensures c.args.f.frame.reg_file_start) (c.in_ok-x.was ∙ ap (λ (z : Option Extent). Ok z) c.in_default.is))

pub overflow_sub-size : goal.overflow_sub-size
overflow_sub-size c =
    let a = c.args in
    let q = progress a.code.now a.opcodes.now a.types.now a.f c.loop-i.i (c.extent_at.ensures a.f.frame.reg_file_start) c.in_ok-x.was c.in-Some.is in
    omega (arith, q.0)

pub overflow_cast-size : goal.overflow_cast-size
overflow_cast-size c =
    let a = c.args in
    let e = ap (λ (y : Extent). y.end) (known a.code.now a.opcodes.now a.types.now a.f c.loop-i.i (c.extent_at.ensures a.f.frame.reg_file_start) c.in_ok-x.was c.in-Some.is).1 in
    omega (arith, e, short a.code.now c.loop-i.i (opcodes_of a.opcodes.now) a.types.now a.f.frame.reg_file_start a.f.prefixes)

pub loop-i-smaller : goal.loop-i-smaller
loop-i-smaller c =
    let a = c.args in
    let q = progress a.code.now a.opcodes.now a.types.now a.f c.loop-i.i (c.extent_at.ensures a.f.frame.reg_file_start) c.in_ok-x.was c.in-Some.is in
    omega (arith, q.0, q.1)

pub loop-i-preserved : goal.loop-i-preserved
loop-i-preserved c =
    let a = c.args in
    let e = extent_is a.code.now a.opcodes.now a.types.now a.f c.loop-i.i (c.extent_at.ensures a.f.frame.reg_file_start) c.in_ok-x.was c.in-Some.is in
    let k = known a.code.now a.opcodes.now a.types.now a.f c.loop-i.i (c.extent_at.ensures a.f.frame.reg_file_start) c.in_ok-x.was c.in-Some.is in
    let q = progress a.code.now a.opcodes.now a.types.now a.f c.loop-i.i (c.extent_at.ensures a.f.frame.reg_file_start) c.in_ok-x.was c.in-Some.is in
    let ops = opcodes_of a.opcodes.now in
    let offset = rw k.0 at (decode_says a.code.now ops a.types.now a.f.frame.reg_file_start a.f.prefixes c.loop-i.i) in
    let most = counted a.code.now ops a.types.now c.loop-i.i a.f.frame.reg_file_start a.f.prefixes in
    let count = c.operand_count-count.ensures ∙ ap (λ (y : Extent). operand_count a.opcodes.now y.opcode) k.1 in
    checked_done _ _ _ _ c.loop-i.invariant e {n = min c.operand_count-count.result 8} q.0 q.1 offset (omega (arith, most, count))
    c.flow_of-flow.ensures c.table_at-table.ensures (c.and-check.ensures ∙ and_is c.loop-i.check c.table_check.result ∙ ap (first_refusal c.loop-i.check) c.table_check.ensures)
    (c.saturating_add-p.ensures ∙ ap (λ (n : ℕ). place (c.loop-i.p + n)) c.line_room-room.ensures)

pub returns : goal.returns
returns c =
    let a = c.args in
    let e : c.loop-i.i ≡ length a.code.now = omega (arith, c.loop-i.invariant.going.pass.inside, c.loop-i-test.false) in
    rw c.and-2.ensures (room_end _ _ _ _ c.loop-i.invariant (decode_end a.code.now (opcodes_of a.opcodes.now) a.types.now a.f.frame.reg_file_start a.f.prefixes c.loop-i.i e))
