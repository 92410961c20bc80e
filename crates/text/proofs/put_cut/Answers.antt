use mathlib.Core.Path.{refl}
use native.Mathlib.Omega.{arith}
use native.Mathlib.Numerals.{add-one}
use lib.Seq.{take_all, take-suc}
use Rattle.text.specs.Put.{Put}
use Rattle.text.proofs.Put.{then, kept}
use Rattle.text.proofs.put_cut.Goals as goal

pub loop-i-init : goal.loop-i-init
loop-i-init c = record { text = refl; end = omega arith }

pub loop-i-preserved : goal.loop-i-preserved
loop-i-preserved c =
    let a = c.args in
    rw (add-one, take-suc a.s.now c.loop-i.i 0 (omega arith)) (then (omega arith) c.loop-i.invariant c.put_byte-p.ensures)

written : (c : goal.After-loop-i) → Put c.args.out.now c.args.at c.args.s.now c.loop-i.out c.loop-i.p
written c = rw (take_all c.loop-i.i c.args.s.now (omega arith)) at c.loop-i.invariant

pub shape_of-out : goal.shape_of-out
shape_of-out c = kept (written c)

pub returns : goal.returns
returns c = written c
