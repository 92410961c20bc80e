use Rattle.convert.proofs.Laws.{bad_here, bad_next, bad_end}
use Rattle.convert.specs.Convert.{other_flow}
use mathlib.Core.Path.{sym, ◌∙◌}
use Rattle.convert.proofs.check_flows.Goals as goal
use Rattle.refusal.specs.declared.Fault.TheVariants.{OtherFlow}

pub returns-then-other_flow : goal.returns-then-other_flow
returns-then-other_flow c = rw (← c.opcode_count-n.ensures) (c.at_record.ensures ∙ bad_here OtherFlow (other_flow c.args.opcodes.now) c.opcode_count-n.result c.loop-k.k c.loop-k.invariant.1 c.loop-k-test.true (sym c.other_flow.ensures ∙ c.if-other_flow.true))

pub loop-k-preserved : goal.loop-k-preserved
loop-k-preserved c = (c.opcode_count-n.ensures, bad_next OtherFlow (other_flow c.args.opcodes.now) c.opcode_count-n.result c.loop-k.k c.loop-k.invariant.1 c.loop-k-test.true (sym c.other_flow.ensures ∙ c.if-other_flow.false))

pub returns : goal.returns
returns c = rw (← c.opcode_count-n.ensures) (bad_end OtherFlow (other_flow c.args.opcodes.now) c.opcode_count-n.result c.loop-k.k c.loop-k.invariant.1 c.loop-k-test.false)
