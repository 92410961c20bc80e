use native.Mathlib.Omega.{arith}
use Rattle.text.proofs.Put.{then, part}
use Rattle.disasm.proofs.put_all.Goals as goal

pub put_lines-w-requires : goal.put_lines-w-requires
put_lines-w-requires c = rw c.code_of.ensures c.requires

pub returns : goal.returns
returns c =
    let s = c in
    let h = c.put_header-p in
    then (omega (arith, s.well_formed)) h.ensures (part h.new.out c.min-q.ensures (rw c.code_of.ensures at c.put_lines-w.ensures) c.saturating_add.ensures)
