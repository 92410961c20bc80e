use native.Mathlib.Omega.{arith}
use Rattle.text.proofs.Put.{then}
use Rattle.lines.proofs.put_place.Goals as goal

pub returns : goal.returns
returns c =
    let h = c.well_formed in
    then (omega (arith, h)) (then (omega (arith, h)) (then (omega (arith, h)) (then (omega (arith, h))
    c.put_bytes-p.ensures c.put_decimal_padded-p.ensures) c.put_bytes-p-2.ensures) c.put_hex_padded-p.ensures) c.put_byte.ensures
