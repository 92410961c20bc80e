use native.Mathlib.Omega.{arith}
use Rattle.text.proofs.Put.{then}
use Rattle.bytecode.proofs.put_flag.Goals as goal

pub returns : goal.returns
returns c = then (omega (arith, c.well_formed)) c.put_byte-p.ensures c.put_decimal.ensures
