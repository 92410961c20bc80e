use Prim.Native.Nat.{◌+◌}
use mathlib.Core.Path.{◌≡◌, refl, ◌∙◌, ap}
use native.Mathlib.Omega.{arith}
use lib.ListN.{length, set, get_or}
use lib.Seq.{sets, length-sets, take_all}
use Rattle.text.proofs.Put.{stored, inside}
use Rattle.text.proofs.put_whole.Goals as goal

pub loop-i-init : goal.loop-i-init
loop-i-init c = refl

pub bounds-out-at : goal.bounds-out-at
bounds-out-at c = rw (c.loop-i.invariant, length-sets) (omega arith)

pub loop-i-preserved : goal.loop-i-preserved
loop-i-preserved c =
    let a = c.args in
    ap (λ o. set o (a.at + c.loop-i.i) (get_or a.s.now c.loop-i.i 0)) c.loop-i.invariant ∙ stored a.out.now a.at c.loop-i.i a.s.now (omega arith)

written : (c : goal.After-loop-i) → c.loop-i.out ≡ sets c.args.out.now c.args.at c.args.s.now
written c = c.loop-i.invariant ∙ rw (take_all c.loop-i.i c.args.s.now (omega arith))

pub shape_of-out : goal.shape_of-out
shape_of-out c = ap length (written c) ∙ simp length-sets

pub returns : goal.returns
returns c = inside (omega arith) (omega arith) (written c) refl
