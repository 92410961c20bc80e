use Prim.Native.Nat.{ℕ}
use mathlib.Core.Path.{◌≡◌, refl, ap, ◌∙◌, subst}
use native.Mathlib.Omega.{arith}
use Rattle.graph.specs.Graph.{exits}
use Rattle.graph.specs.mirror.Queue.{Grown, SuccIn}
use Rattle.graph.proofs.Queues.{grown_none, held-le}
use Rattle.graph.proofs.Scan.{level_more}
use Rattle.search.specs.mirror.Kept.{graph_by}
use Rattle.search.proofs.push_level.Goals as goal

pub loop-i-init : goal.loop-i-init
loop-i-init c = (grown_none c.requires.0 (λ p x. absurd (omega (arith, x.1, x.2))), refl, refl)

pub offset_bounds-queue-i : goal.offset_bounds-queue-i
offset_bounds-queue-i c = omega (arith, held-le c.requires.0, c.requires.0.small, c.loop-i-test.true)

pub bounds-queue-i : goal.bounds-queue-i
bounds-queue-i c = omega (arith, held-le c.requires.0, c.requires.0.room, c.loop-i-test.true, c.loop-i.invariant.2)

pub push_steps-end-requires : goal.push_steps-end-requires
push_steps-end-requires c =
    let i = c.loop-i in
    let a = c.args in
    let g = graph_by a.slots.now a.payload.now a.e.ts a.e.pool a.heads.now a.words.now a.catches.now in
    let h = c.loop-i-test.true in (
      i.invariant.0.held,
      i.invariant.1 ∙ c.requires.1,
      ap (exits g) (i.invariant.0.kept i.i h) ∙ c.requires.3 i.i i.auto.i h,
      c.requires.4,
    )

pub loop-i-preserved : goal.loop-i-preserved
loop-i-preserved c =
    let i = c.loop-i in
    let a = c.args in
    let g = graph_by a.slots.now a.payload.now a.e.ts a.e.pool a.heads.now a.words.now a.catches.now in
    let h = c.loop-i-test.true in
    let p = c.push_steps-end in (
      level_more g _ _ _ refl i.auto.i h i.invariant.0 p.ensures,
      p.auto.marks ∙ i.invariant.1,
      p.auto.queue ∙ i.invariant.2,
    )

pub shape_of-marks : goal.shape_of-marks
shape_of-marks c = c.loop-i.invariant.1

pub shape_of-queue : goal.shape_of-queue
shape_of-queue c = c.loop-i.invariant.2

pub returns : goal.returns
returns c =
    let i = c.loop-i in
    let a = c.args in
    let g = graph_by a.slots.now a.payload.now a.e.ts a.e.pool a.heads.now a.words.now a.catches.now in
    let e : i.i ≡ a.hi = omega arith in
    subst (λ (k : ℕ). Grown a.queue.now a.hi i.marks i.queue i.end (SuccIn g a.queue.now a.lo k)) e i.invariant.0
