use native.Mathlib.Omega.{arith}
use Rattle.text.proofs.Put.{then}
use Rattle.program.specs.Printed.{walk_text}
use Rattle.program.proofs.put_leaves.Goals as goal

pub returns : goal.returns
unfolding walk_text
returns c =
    let g = c.well_formed in
    then (omega (arith, g)) (then (omega (arith, g)) (then (omega (arith, g)) (then (omega (arith, g)) c.put_bytes-p.ensures c.put_decimal-p.ensures) c.put_bytes-p-2.ensures) c.put_decimal-p-2.ensures) c.put_byte.ensures
