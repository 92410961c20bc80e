use native.Mathlib.Omega.{arith}
use mir.Facts.{to_z-of_z}
use Rattle.text.proofs.Put.{then}
use Rattle.writer.specs.Bytes.{instr_bytes}
use Rattle.writer.proofs.put_instr.Goals as goal

pub returns : goal.returns
unfolding instr_bytes
returns c =
    let s = c in then (omega (arith, s.well_formed)) c.put_head-p.ensures (simp (to_z-of_z s.ranges.start) at c.put_operands.ensures)
