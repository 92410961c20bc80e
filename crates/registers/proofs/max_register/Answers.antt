use Rattle.std.proofs.Common.{ap, ◌∙◌, sym, arith}
use Rattle.std.proofs.lemmas.List.{take_all}
use Rattle.registers.specs.Registers.{with_instrs}
use Rattle.registers.specs.Numbers.{largest_numbers}
use Rattle.std.specs.Prelude.{None}
use Rattle.registers.proofs.Laws.{instrs_more}
use Rattle.registers.proofs.max_register.Goals as goal

pub loop-x-preserved : goal.loop-x-preserved
loop-x-preserved c = rw (c.with_instr-best.ensures, c.loop-x.invariant) (sym (instrs_more None c.args.instrs.now c.loop-x.x-index _ (omega arith)))

pub returns : goal.returns
returns c = ap largest_numbers (c.loop-x.invariant ∙ ap (with_instrs None) (take_all c.loop-x.x-index c.args.instrs.now (omega arith)))
