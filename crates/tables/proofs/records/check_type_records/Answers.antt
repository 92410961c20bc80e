use Rattle.tables.specs.Records.{type_fault}
use Rattle.tables.proofs.Laws.{fault_here, fault_next, fault_end}
use Rattle.tables.proofs.records.check_type_records.Goals as goal

pub returns-in-Some : goal.returns-in-Some
returns-in-Some c =
    let a = c.args in
    let l = c.loop-i in
    fault_here (type_fault a.types.now) _ l.i l.invariant c.loop-i-test.true c.in-Some.ensures

pub loop-i-preserved : goal.loop-i-preserved
loop-i-preserved c =
    let a = c.args in
    let l = c.loop-i in
    fault_next (type_fault a.types.now) _ l.i l.invariant c.loop-i-test.true c.in_default.ensures

pub returns : goal.returns
returns c =
    let a = c.args in
    let l = c.loop-i in
    fault_end (type_fault a.types.now) _ l.i l.invariant c.loop-i-test.false
