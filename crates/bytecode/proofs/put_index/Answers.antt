use native.Mathlib.Omega.{arith}
use Rattle.text.proofs.Put.{then}
use Rattle.bytecode.proofs.put_index.Goals as goal

pub returns : goal.returns
returns c = let h = c.well_formed in then (omega (arith, h)) (then (omega (arith, h)) c.put_byte-p.ensures c.put_decimal-p.ensures) c.put_byte.ensures
