use Prim.Native.Nat.{◌-◌}
use mathlib.Core.Path.{◌≡◌, sym, ◌∙◌}
use native.Mathlib.Omega.{arith}
use borrow.Author.Tests.{lt-ltb, le-ltb}
use Rattle.laws.specs.Scan.{first_from}
use Rattle.laws.proofs.Scan.{first_end, first-within}
use Rattle.store.specs.mirror.Falls.{lower}
use Rattle.store.proofs.Parts.{filled_start, filled_next, lower_next}
use Rattle.store.proofs.order.find_falls.Goals as goal
use Rattle.store.proofs.order.find_falls.Goals.{then-here-before, else-here-before}

pub loop-k-init : goal.loop-k-init
loop-k-init c =
    let a = c.args in
    (omega arith, c.slot_index-here.ensures, sym (first_end (lower a.slots.now) a.end a.end (omega arith)), filled_start a.slots.now a.end (omega arith))

pub overflow_cast-later : goal.overflow_cast-later
overflow_cast-later c =
    let l = c.loop-k in
    let within = (first-within (lower c.args.slots.now) l.k (c.args.end - l.k)).1 in
    elim c.if-here-before.branch [ then-here-before w ↦ omega arith | else-here-before w ↦ omega arith ]

pub loop-k-preserved : goal.loop-k-preserved
loop-k-preserved c =
    let a = c.args in
    let l = c.loop-k in
    let next = lower_next a.slots.now a.end l.k (omega arith) (omega arith) l.invariant.1 c.slot_index-before.ensures l.invariant.2 in
    let found : c.if-here-before.fall ≡ first_from (lower a.slots.now) (l.k - 1) (a.end - (l.k - 1)) =
    elim c.if-here-before.branch [
      | then-here-before w ↦ next (w.fall-is ∙ rw (lt-ltb _ _ w.if-here-before.true))
      | else-here-before w ↦ next (w.fall-is ∙ rw (le-ltb _ _ w.if-here-before.false))
    ] in
    (omega arith, c.slot_index-before.ensures, found, filled_next a.slots.now a.end l.k (omega arith) (omega arith) found l.invariant.3)
