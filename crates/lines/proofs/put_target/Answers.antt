use native.Mathlib.Omega.{arith}
use Rattle.text.proofs.Put.{then}
use Rattle.lines.proofs.put_target.Goals as goal

pub returns-in-Some : goal.returns-in-Some
returns-in-Some c = let h = c.well_formed in rw c.in-Some.is (then (omega (arith, h)) (then (omega (arith, h)) c.put_bytes-p.ensures c.put_decimal-p.ensures) c.put_byte.ensures)
