use mathlib.Core.Path.{◌≡◌}
use lib.ListN.{length}
use Rattle.numbers.proofs.Back.{SlotsAre}
use Rattle.numbers.proofs.operands_of.Given as goal

abbrev pub invariant-loop-j : goal.invariant-loop-j
invariant-loop-j l = (length l.slots ≡ 8) × SlotsAre l.numbers l.slots l.j
