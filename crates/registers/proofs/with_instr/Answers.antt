use Rattle.std.proofs.Common.{ap, sym, ◌∙◌, arith}
use Rattle.registers.specs.Registers.{with_place}
use Rattle.registers.proofs.Laws.{operands_more, operands_none, place_stays}
use Rattle.registers.proofs.with_instr.Goals as goal
use Rattle.registers.proofs.with_instr.Goals.{in-Some, in_default}

pub loop-i-init : goal.loop-i-init
loop-i-init c = operands_none c.args.best c.args.x.operands

pub loop-i-preserved : goal.loop-i-preserved
loop-i-preserved c =
    let more = operands_more c.args.best c.loop-i.b c.args.x.operands c.loop-i.i _ (omega arith) c.loop-i.invariant in
    elim c.match-x-i.branch [
      | in-Some w ↦ w.b-is ∙ w.with_operand-b.ensures ∙ ap (with_place c.loop-i.b) (sym w.in-Some.is) ∙ more
      | in_default w ↦ w.b-is ∙ place_stays c.loop-i.b _ w.in_default.not-Some ∙ more
    ]
