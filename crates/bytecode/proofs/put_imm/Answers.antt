use native.Mathlib.Omega.{arith}
use mir.Facts.{to_z-of_z}
use Rattle.text.proofs.Put.{then}
use Rattle.bytecode.proofs.put_imm.Goals as goal

pub returns : goal.returns
returns c = let h = c.well_formed in then (omega (arith, h)) (then (omega (arith, h)) c.put_byte-p.ensures (simp (to_z-of_z c.ranges.v) at c.put_signed-p.ensures)) c.put_byte.ensures
