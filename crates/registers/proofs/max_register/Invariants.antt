use Rattle.std.proofs.Common.{◌≡◌, take}
use Rattle.registers.specs.Registers.{with_instrs}
use Rattle.registers.proofs.max_register.Given as goal

abbrev pub invariant-loop-x : goal.invariant-loop-x
invariant-loop-x l = l.best ≡ with_instrs l.initial.best (take l.x-index l.instrs)
