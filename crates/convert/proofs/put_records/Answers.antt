use Rattle.convert.proofs.Records.{joined_next, joined_end}
use Rattle.convert.specs.mirror.Forms.{record_as}
use Rattle.convert.specs.Records.{joined}
use Rattle.text.proofs.PutUpTo.{up_to_more, up_to_all}
use Prim.Native.Nat.{◌+◌, ◌-◌}
use native.Mathlib.Omega.{arith}
use Rattle.convert.proofs.put_records.Goals as goal

pub loop-k-preserved : goal.loop-k-preserved
loop-k-preserved c =
    let a = c.args in
    let l = c.loop-k in
    up_to_more (record_as a.to a.opcodes.now l.k) (joined (record_as a.to a.opcodes.now) (l.k + 1) (a.n - (l.k + 1))) (omega (arith, c.well_formed)) (joined_next (record_as a.to a.opcodes.now) a.n l.k c.loop-k-test.true) l.invariant c.put_record-at.ensures

pub returns : goal.returns
returns c =
    let a = c.args in
    let l = c.loop-k in
    up_to_all (joined_end (record_as a.to a.opcodes.now) a.n l.k c.loop-k-test.false) l.invariant
