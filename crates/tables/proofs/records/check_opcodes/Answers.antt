use Rattle.tables.specs.Records.{type_count, fault_as}
use Rattle.tables.proofs.Laws.{fault_here, fault_next, fault_end}
use Rattle.tables.proofs.records.check_opcodes.Goals as goal

pub returns-in-Some : goal.returns-in-Some
returns-in-Some c =
    let a = c.args in
    let l = c.loop-i in
    rw (← c.opcode_size-size.ensures) (fault_here (fault_as a.form a.opcodes.now (type_count a.types.now)) _ l.i l.invariant c.loop-i-test.true c.in-Some.ensures)

pub loop-i-preserved : goal.loop-i-preserved
loop-i-preserved c =
    let a = c.args in
    let l = c.loop-i in
    fault_next (fault_as a.form a.opcodes.now (type_count a.types.now)) _ l.i l.invariant c.loop-i-test.true c.in_default.ensures

pub returns : goal.returns
returns c =
    let a = c.args in
    let l = c.loop-i in
    rw (← c.opcode_size-size.ensures) (fault_end (fault_as a.form a.opcodes.now (type_count a.types.now)) _ l.i l.invariant c.loop-i-test.false)
