use Rattle.std.proofs.Common.{arith}
use Rattle.text.proofs.Put.{then}
use Rattle.text.proofs.put_decimal_padded.Goals as goal

pub returns : goal.returns
returns c = then (omega arith) (rw c.digits-w.ensures at c.put_pad-p.ensures) c.put_decimal.ensures
