use native.Mathlib.Omega.{arith}
use borrow.Author.Tests.{ne_eqb}
use Rattle.text.proofs.Put.{then}
use Rattle.bytecode.specs.Texts.{instr_name}
use Rattle.bytecode.proofs.instr_name.Goals as goal

pub returns : goal.returns
unfolding instr_name
returns c =
    rw (ne_eqb _ _ c.if-scale-eq1.false, ← c.op_name.ensures)
    (then (omega (arith, c.well_formed)) c.put_bytes-p.ensures c.put_prefix.ensures)
