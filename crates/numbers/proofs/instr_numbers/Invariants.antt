use mathlib.Core.Path.{◌≡◌}
use lib.ListN.{length}
use Rattle.numbers.specs.mirror.Instr.{NumbersAre}
use Rattle.numbers.proofs.instr_numbers.Given as goal

abbrev pub invariant-loop-k : goal.invariant-loop-k
invariant-loop-k l = (length l.numbers ≡ 28) × NumbersAre l.instr l.numbers l.k
