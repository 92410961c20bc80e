use mathlib.Core.Path.{◌≡◌, refl, sym, ◌∙◌}
use Prim.Native.Nat.{ℕ}
use mathlib.Core.List.{List}
use native.Mathlib.Omega.{arith}
use Rattle.graph.specs.Graph.{Graph}
use Rattle.graph.specs.mirror.Queue.{Lowest}
use Rattle.graph.proofs.Queues.{held-le}
use Rattle.graph.proofs.Walks.{level_start, level_next, level_leaves, level_closed}
use Rattle.targets.specs.mirror.Search.{pool_searched}
use Rattle.std.specs.Prelude.{Option, Some, None}
use Rattle.search.proofs.Laws.{inside}
use Rattle.search.proofs.levels.Goals as goal

-- the scan's answer, where an arm says that nothing was found
none : (g : Graph) (q : List ℕ) (lo hi : ℕ) (r : Option ℕ) → ((o : ℕ) → r ≡ Some o → ⊥) → Lowest g q lo hi r → Lowest g q lo hi None
none g q lo hi (Some o) h l = absurd (h o refl)
none g q lo hi None h l = l

pub push-hi-requires : goal.push-hi-requires
push-hi-requires c =
    let a = c.args in
    (c.requires.0, omega (arith, c.requires.1, inside (pool_searched a.slots.now a.payload.now a.e.ts a.e.pool) a.heads.now a.words.now a.catches.now 0 c.requires.2))

pub loop-lo-init : goal.loop-lo-init
loop-lo-init c = (level_start c.requires.2 c.push-hi.ensures, c.push-hi.auto.marks ∙ c.requires.1, refl)

pub lowest-f-requires : goal.lowest-f-requires
lowest-f-requires c = let l = c.loop-lo.invariant.0 in (l.order, omega (arith, held-le l.held, l.held.room), c.requires.3)

pub overflow_add-steps : goal.overflow_add-steps
overflow_add-steps c = let l = c.loop-lo.invariant.0 in omega (arith, l.depth, l.order, held-le l.held, l.held.small)

pub shape_of-marks-in-Some : goal.shape_of-marks-in-Some
shape_of-marks-in-Some c = c.loop-lo.invariant.1 ∙ sym c.requires.1

pub shape_of-queue-in-Some : goal.shape_of-queue-in-Some
shape_of-queue-in-Some c = c.loop-lo.invariant.2 ∙ c.push-hi.auto.queue

pub returns-in-Some : goal.returns-in-Some
returns-in-Some c = level_leaves c.loop-lo.invariant.0 c.in-Some.ensures _

pub push_level-end-requires : goal.push_level-end-requires
push_level-end-requires c =
    let l = c.loop-lo in
    (l.invariant.0.held, l.invariant.1, l.invariant.0.order, none _ _ _ _ _ c.in_default.not-Some c.lowest-f.ensures, c.requires.3)

pub overflow_add-d : goal.overflow_add-d
overflow_add-d c = let l = c.loop-lo.invariant.0 in omega (arith, l.depth, l.order, held-le l.held, l.held.small)

pub loop-lo-smaller : goal.loop-lo-smaller
loop-lo-smaller c = omega (arith, held-le c.loop-lo.invariant.0.held, c.loop-lo.invariant.1, c.loop-lo-test.true)

pub loop-lo-preserved : goal.loop-lo-preserved
loop-lo-preserved c =
    let l = c.loop-lo in
    let p = c.push_level-end in (
      level_next l.invariant.0 (none _ _ _ _ _ c.in_default.not-Some c.lowest-f.ensures) c.loop-lo-test.true p.ensures,
      p.auto.marks ∙ l.invariant.1,
      p.auto.queue ∙ l.invariant.2,
    )

pub shape_of-marks : goal.shape_of-marks
shape_of-marks c = c.loop-lo.invariant.1 ∙ sym c.requires.1

pub shape_of-queue : goal.shape_of-queue
shape_of-queue c = c.loop-lo.invariant.2 ∙ c.push-hi.auto.queue

pub returns : goal.returns
returns c = level_closed c.loop-lo.invariant.0 c.loop-lo-test.false _
