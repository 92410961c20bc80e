use mathlib.Core.Path.{refl}
use native.Mathlib.Omega.{arith}
use mir.Facts.{to_z-of_z}
use Rattle.text.proofs.PutText.{fits_then, refused_then}
use Rattle.writer.proofs.write_unchecked.Goals as goal

pub returns-then-size-out : goal.returns-then-size-out
returns-then-size-out c =
    let s = c in
    fits_then _ s.args.out.now (omega (arith, s.well_formed)) (simp (to_z-of_z s.ranges.start) at c.put_instr-size.ensures) refl (omega (arith, c.if-size-out.true)) (simp (to_z-of_z s.ranges.start) at c.put_instr.ensures)

pub returns-else-size-out : goal.returns-else-size-out
returns-else-size-out c =
    let s = c in
    refused_then _ s.args.out.now (omega (arith, s.well_formed)) (simp (to_z-of_z s.ranges.start) at c.put_instr-size.ensures) refl (omega (arith, c.if-size-out.false))
