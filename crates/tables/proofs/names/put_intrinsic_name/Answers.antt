use Rattle.std.proofs.Common.{arith, le-ltb, lt-ltb}
use Rattle.text.proofs.Put.{then}
use Rattle.tables.specs.Texts.{intrinsic_name}
use Rattle.tables.proofs.names.put_intrinsic_name.Goals as goal

pub returns-then-id-intrinsic : goal.returns-then-id-intrinsic
unfolding intrinsic_name
returns-then-id-intrinsic c = rw (lt-ltb _ _ c.if-id-intrinsic.true, ← c.name_at.ensures) c.put_bytes.ensures

pub returns-else-id-intrinsic : goal.returns-else-id-intrinsic
unfolding intrinsic_name
returns-else-id-intrinsic c = rw (le-ltb _ _ c.if-id-intrinsic.false) (then (omega (arith, c.well_formed)) c.put_bytes-p.ensures c.put_decimal.ensures)
