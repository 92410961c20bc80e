use native.Mathlib.Omega.{arith}
use mir.Facts.{to_z-of_z}
use mir.Syntax.{w32}
use mir.Val.{SFits}
use Rattle.text.proofs.Put.{then}
use borrow.Author.Rules.{rules}
use Rattle.lines.proofs.put_entry.Goals as goal

pub returns-in-Some : goal.returns-in-Some
returns-in-Some c =
    let h = c.well_formed in
    let f : SFits w32 c.in-Some.c.case = search rules in
    rw c.in-Some.is
    (then (omega (arith, h)) (then (omega (arith, h)) (then (omega (arith, h)) (then (omega (arith, h))
    c.put_comma-p.ensures c.put_byte-p.ensures) (simp (to_z-of_z f) at c.put_signed32-p.ensures)) c.put_bytes-p.ensures) c.put_decimal.ensures)
