use mathlib.Core.Path.{refl}
use native.Mathlib.Omega.{arith}
use Rattle.text.proofs.PutText.{fits_then, refused_then}
use Rattle.disasm.proofs.list_measured.Goals as goal

pub returns-then-size-out : goal.returns-then-size-out
returns-then-size-out c =
    let s = c in
    fits_then _ s.args.out.now (omega (arith, s.well_formed)) c.put_all-size.ensures refl (omega (arith, c.if-size-out.true)) c.put_all.ensures

pub returns-else-size-out : goal.returns-else-size-out
returns-else-size-out c =
    let s = c in
    refused_then _ s.args.out.now (omega (arith, s.well_formed)) c.put_all-size.ensures refl (omega (arith, c.if-size-out.false))
