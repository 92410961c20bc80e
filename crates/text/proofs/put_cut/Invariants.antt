use lib.ListN.{take}
use Rattle.text.specs.Put.{Put}
use Rattle.text.proofs.put_cut.Given as goal

abbrev pub invariant-loop-i : goal.invariant-loop-i
invariant-loop-i l = Put l.initial.out l.at (take l.i l.s) l.out l.p
