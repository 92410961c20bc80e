use native.Mathlib.Omega.{arith}
use Rattle.std.proofs.lemmas.Result.{err_from_is_err_and}
use Rattle.lines.proofs.Room.{names_fit}
use Rattle.disasm.proofs.Laws.{check_refused, check_fine, check_fits, check_written}
use Rattle.disasm.proofs.list_code.Goals as goal

pub put_all-requires : goal.put_all-requires
put_all-requires c = check_fine _ (rw c.code_of.ensures at c.check_lines.ensures) c.in_ok-room.was

pub list_measured-requires : goal.list_measured-requires
list_measured-requires c = check_fine _ (rw c.code_of.ensures at c.check_lines.ensures) c.in_ok-room.was

pub returns-in_err-room : goal.returns-in_err-room
returns-in_err-room c =
    let p = err_from_is_err_and c.from_residual.result c.from_residual.ensures.1 in
    rw (p.1, p.2) (check_refused _ _ _ c.args.out.now (rw c.code_of.ensures at c.check_lines.ensures) _ c.in_err-room.was)

pub returns-then-room-out : goal.returns-then-room-out
returns-then-room-out c =
    let s = c in
    check_fits _ _ _ s.args.out.now (rw c.code_of.ensures at c.check_lines.ensures) c.in_ok-room.was (names_fit s.args.opcodes.now) (omega (arith, s.well_formed)) (omega (arith, c.if-room-out.true)) c.put_all.ensures

pub returns-else-room-out : goal.returns-else-room-out
returns-else-room-out c = check_written _ _ _ c.args.out.now (rw c.code_of.ensures at c.check_lines.ensures) c.in_ok-room.was c.list_measured.ensures
