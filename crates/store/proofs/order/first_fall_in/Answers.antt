use native.Mathlib.Omega.{arith}
use Rattle.store.proofs.Falls.{fall_here}
use Rattle.store.proofs.order.first_fall_in.Goals as goal

pub returns-then-index-before : goal.returns-then-index-before
returns-then-index-before c =
    let a = c.args in
    let l = c.loop-k in
    fall_here a.slots.now a.first a.count l.k a.end l.invariant.1 (omega arith) (omega arith) (omega arith)
