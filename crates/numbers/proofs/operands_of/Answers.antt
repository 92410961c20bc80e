use mathlib.Core.Path.{refl}
use native.Mathlib.Omega.{arith}
use lib.ListN.{length-set}
use Rattle.numbers.proofs.Back.{slots_more, slots_told}
use Rattle.numbers.proofs.operands_of.Goals as goal

pub loop-j-init : goal.loop-j-init
loop-j-init c = (refl, λ k l. absurd (omega arith))

pub loop-j-preserved : goal.loop-j-preserved
loop-j-preserved c =
    let l = c.loop-j in
    (simp length-set l.invariant.0, slots_more c.args.numbers.now l.slots l.j c.slot_of.result (omega arith) c.slot_of.ensures l.invariant.1)

pub returns : goal.returns
returns c = let l = c.loop-j in slots_told c.args.numbers.now l.slots l.invariant.0 (λ k h. l.invariant.1 k (omega arith))
