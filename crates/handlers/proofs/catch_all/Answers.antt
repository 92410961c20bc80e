use native.Mathlib.Omega.{arith}
use Rattle.handlers.proofs.Words.{catching_start, catching_more, caught}
use Rattle.handlers.proofs.catch_all.Goals as goal

pub loop-o-init : goal.loop-o-init
loop-o-init c = catching_start _ _ _ _ _ _ c.requires.0

pub loop-o-preserved : goal.loop-o-preserved
loop-o-preserved c =
    let i = c.loop-o in
    catching_more _ _ _ _ _ _ c.max-r.result (omega arith) c.max-r.ensures c.catch_at.ensures i.invariant

pub returns : goal.returns
returns c = caught _ _ _ _ _ _ (omega arith) c.requires.0 c.loop-o.invariant
