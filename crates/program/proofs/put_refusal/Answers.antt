use native.Mathlib.Omega.{arith}
use Rattle.text.proofs.Put.{then}
use Rattle.program.specs.Printed.{refusal_text}
use Rattle.program.proofs.put_refusal.Goals as goal

pub returns : goal.returns
unfolding refusal_text
returns c =
    let g = c.well_formed in
    rw (← c.number.ensures)
    (then (omega (arith, g)) (then (omega (arith, g)) (then (omega (arith, g)) (then (omega (arith, g)) c.put_bytes-p.ensures c.put_decimal-p.ensures) c.put_bytes-p-2.ensures) c.put_decimal-p-2.ensures) c.put_byte.ensures)
