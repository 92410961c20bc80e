use mathlib.Core.Path.{◌≡◌, refl, subst, ◌∙◌}
use native.Mathlib.Omega.{arith}
use Rattle.handlers.specs.Handlers.{handler_count}
use Rattle.handlers.specs.mirror.Catches.{Painted}
use Rattle.handlers.proofs.Painting.{painted_more}
use Rattle.handlers.proofs.paint_all.Goals as goal

pub loop-r-preserved : goal.loop-r-preserved
loop-r-preserved c =
    let i = c.loop-r in
    let a = c.args in
    let p = c.paint_within in (
      p.auto.places ∙ i.invariant.0,
      p.auto.blocks ∙ i.invariant.1,
      λ s. painted_more a.handlers.now i.places i.blocks p.new.places p.new.blocks i.r refl p.auto.places (rw (← c.u32_at-start.ensures, ← c.u32_at-end.ensures) p.ensures) (i.invariant.2 s),
    )

pub returns : goal.returns
returns c =
    let i = c.loop-r in
    let a = c.args in
    let e : i.r ≡ handler_count a.handlers.now = omega arith in
    λ s. subst (Painted a.handlers.now i.places i.blocks) e (i.invariant.2 s)
