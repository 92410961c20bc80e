use native.Mathlib.Omega.{arith}
use Rattle.text.proofs.Put.{then}
use Rattle.bytecode.proofs.put_raw.Goals as goal

pub returns : goal.returns
returns c = let h = c.well_formed in rw (← c.type_name.ensures) (then (omega (arith, h)) (then (omega (arith, h)) c.put_bytes-p.ensures c.put_byte-p.ensures) c.put_decimal.ensures)
