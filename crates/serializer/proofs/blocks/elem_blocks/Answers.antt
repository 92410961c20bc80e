use mathlib.Core.Path.{refl}
use native.Mathlib.Omega.{arith}
use lib.ListN.{length-set}
use Rattle.serializer.proofs.Windows.{no_blocks, block_more}
use Rattle.serializer.proofs.blocks.elem_blocks.Goals as goal

pub loop-b-init : goal.loop-b-init
loop-b-init c = (refl, no_blocks _ _ _ _ 4096)

pub loop-b-preserved : goal.loop-b-preserved
loop-b-preserved c =
    let a = c.args in
    let l = c.loop-b in (
      simp length-set l.invariant.0,
      block_more a.slots.now a.first a.ts a.count l.blocks l.b c.window_of-w.result.from c.window_of-w.result.to (omega arith) l.invariant.1 (rw (← c.block_end.ensures) c.window_of-w.ensures),
    )
