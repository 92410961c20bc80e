use native.Mathlib.Omega.{arith}
use mir.Facts.{to_z-of_z}
use mir.Syntax.{w32}
use mir.Val.{SFits}
use Rattle.text.proofs.Put.{then, kept}
use Rattle.disasm.specs.Listing.{header_text}
use borrow.Author.Rules.{rules}
use Rattle.disasm.proofs.put_header.Goals as goal

pub returns : goal.returns
unfolding header_text
returns c =
    let g = c.well_formed in
    let f : SFits w32 c.args.h.parameter_count = search rules in
    then (omega (arith, g)) (then (omega (arith, g)) (then (omega (arith, g)) (then (omega (arith, g)) (then (omega (arith, g)) (then (omega (arith, g))
    (then (omega (arith, g)) (then (omega (arith, g)) (then (omega (arith, g)) (then (omega (arith, g)) (then (omega (arith, g)) (then (omega (arith, g))
    c.put_bytes-p.ensures c.put_decimal-p.ensures) c.put_bytes-p-2.ensures) (simp (to_z-of_z f) at c.put_signed32-p.ensures)) c.put_bytes-p-3.ensures) c.put_decimal-p-2.ensures)
    c.put_bytes-p-4.ensures) c.put_decimal-p-3.ensures) c.put_bytes-p-5.ensures) c.put_decimal-p-4.ensures) c.put_bytes-p-6.ensures) c.put_decimal-p-5.ensures) c.put_byte.ensures

pub shape_of-out : goal.shape_of-out
shape_of-out c = kept (returns c)
