use mathlib.Core.Path.{refl}
use native.Mathlib.Omega.{arith}
use lib.ListN.{length-set}
use Rattle.numbers.proofs.Instr.{numbers_more}
use Rattle.numbers.proofs.instr_numbers.Goals as goal

pub loop-k-init : goal.loop-k-init
loop-k-init c = (refl, λ j l. absurd (omega arith))

pub loop-k-preserved : goal.loop-k-preserved
loop-k-preserved c =
    let l = c.loop-k in
    (simp length-set l.invariant.0, numbers_more c.args.instr l.numbers l.k c.instr_number.result (omega arith) c.instr_number.ensures l.invariant.1)

pub returns : goal.returns
returns c = λ j l. c.loop-k.invariant.1 j (omega arith)
