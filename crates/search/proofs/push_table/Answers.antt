use mathlib.Core.Path.{◌≡◌, refl, sym, ap, ◌∙◌}
use native.Mathlib.Omega.{arith}
use Rattle.targets.specs.mirror.Search.{pool_searched}
use Rattle.search.specs.mirror.Kept.{count_of, shown}
use Rattle.search.proofs.Laws.{entries_none, entries_grown, entry_below, entries_read, grown_read, below_read}
use Rattle.search.proofs.push_table.Goals as goal

pub loop-k-init : goal.loop-k-init
loop-k-init c = (entries_none _ _ _ c.requires.0, refl, refl)

pub push_entry-end-requires : goal.push_entry-end-requires
push_entry-end-requires c =
    let a = c.args in
    let el = pool_searched a.slots.now a.payload.now a.e.ts a.e.pool in
    let whole = entries_read el c.here_of-at.ensures c.number_at-first.ensures refl in
    (c.loop-k.invariant.0.held, below_read (ap shown (sym c.entry_target-target.ensures)) refl (entry_below _ _ _ c.loop-k.k _ _ c.loop-k-test.true (below_read (sym whole) (sym c.loop-k.invariant.1) c.requires.1)))

pub loop-k-preserved : goal.loop-k-preserved
loop-k-preserved c =
    let i = c.loop-k in
    let p = c.push_entry-end in
    (entries_grown _ _ _ i.k i.invariant.0 (grown_read (ap shown c.entry_target-target.ensures) p.ensures), p.auto.marks ∙ i.invariant.1, p.auto.queue ∙ i.invariant.2)

pub shape_of-marks : goal.shape_of-marks
shape_of-marks c = c.loop-k.invariant.1

pub shape_of-queue : goal.shape_of-queue
shape_of-queue c = c.loop-k.invariant.2

pub returns : goal.returns
returns c =
    let a = c.args in
    let el = pool_searched a.slots.now a.payload.now a.e.ts a.e.pool in
    let e : c.loop-k.k ≡ count_of a.h = omega arith in
    grown_read (entries_read el c.here_of-at.ensures c.number_at-first.ensures e) c.loop-k.invariant.0
