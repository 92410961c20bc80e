use Prim.Native.Nat.{◌+◌, ◌*◌}
use mathlib.Core.Path.{refl, ◌∙◌, ap}
use mathlib.Core.List.{flat_map}
use native.Mathlib.Omega.{arith}
use lib.ListN.{set, length-set}
use lib.Seq.{take_all}
use Rattle.text.proofs.Texts.{triple_stored}
use Rattle.text.proofs.put_triples.Goals as goal

pub loop-i-init : goal.loop-i-init
unfolding flat_map
loop-i-init c = (refl, refl)

pub hex_digit-first-requires : goal.hex_digit-first-requires
hex_digit-first-requires c = omega (arith, c.type_inv.s c.loop-i.i)

pub hex_digit-second-requires : goal.hex_digit-second-requires
hex_digit-second-requires c = omega (arith, c.type_inv.s c.loop-i.i)

pub bounds-out-p-in-loop-i : goal.bounds-out-p-in-loop-i
bounds-out-p-in-loop-i c = simp length-set (omega arith)

pub bounds-out-p-in-loop-i-2 : goal.bounds-out-p-in-loop-i-2
bounds-out-p-in-loop-i-2 c = simp length-set (omega arith)

pub loop-i-preserved : goal.loop-i-preserved
loop-i-preserved c =
    let l = c in
    let a = l.args in
    let p = a.at + 3 * l.loop-i.i in (
      simp length-set l.loop-i.invariant.0,
      ap (λ o. set (set (set o p c.hex_digit-first.result) (p + 1) c.hex_digit-second.result) (p + 2) 32) l.loop-i.invariant.1
          ∙ triple_stored a.out.now a.at a.s.now l.loop-i.i (omega arith) c.hex_digit-first.ensures c.hex_digit-second.ensures,
    )

pub shape_of-out : goal.shape_of-out
shape_of-out c = c.loop-i.invariant.0

pub returns : goal.returns
returns c =
    let l = c in
    l.loop-i.invariant.1 ∙ rw (take_all l.loop-i.i l.args.s.now (omega arith))
