use native.Mathlib.Omega.{arith}
use Rattle.serializer.proofs.Windows.{window_more}
use Rattle.serializer.proofs.blocks.window_of.Goals as goal

pub loop-k-preserved : goal.loop-k-preserved
loop-k-preserved c =
    let a = c.args in
    let l = c.loop-k in
    window_more a.slots.now a.first a.ts a.lo l.k l.from l.to c.max-from.result c.min-to.result l.invariant (omega arith) (omega arith)
    (λ want f t. rw (← c.slot_of-slot.ensures) (record { ended = omega arith; near = omega arith }))

pub returns : goal.returns
returns c = λ i want a b f t. c.loop-k.invariant i want a (omega arith) f t
