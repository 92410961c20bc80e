use native.Mathlib.Omega.{arith}
use Rattle.text.proofs.Put.{then}
use Rattle.lines.proofs.put_targets.Goals as goal

pub returns : goal.returns
returns c = λ b.
    let h = c.well_formed in
    rw (← c.jump_target_in-target.ensures b, ← c.jump_table_unchecked-table.ensures, ← c.here-here.ensures)
    (then (omega (arith, h)) (then (omega (arith, h)) c.put_target-p.ensures (c.put_table-p.ensures b)) c.put_byte.ensures)
