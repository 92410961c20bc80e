use native.Mathlib.Omega.{arith}
use Rattle.text.proofs.Put.{then}
use Rattle.lines.proofs.put_table.Goals as goal

pub returns-in-Ok-Some : goal.returns-in-Ok-Some
returns-in-Ok-Some c = λ b.
    let h = c.in-Ok-Some.is in
    let g = rw h at c.in-Ok-Some.field-0-is in
    let f = c.well_formed in
    rw (h, g) (then (omega (arith, f)) (then (omega (arith, f)) c.put_bytes-p.ensures (c.put_entries-p.ensures b)) c.put_bytes.ensures)
