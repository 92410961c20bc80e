use mathlib.Core.Path.{refl, sym, ◌∙◌}
use Rattle.targets.specs.mirror.Search.{pool_searched}
use Rattle.search.proofs.Laws.{on_below, target_below, catch_below, table_below, grown_parts, grown_read, below_read, grown_nothing, table_yes, table_no}
use Rattle.search.proofs.push_steps.Goals as goal

pub push_on-a-requires : goal.push_on-a-requires
push_on-a-requires c =
    let s = c in
    let a = s.args in
    (s.requires.0, on_below (pool_searched a.slots.now a.payload.now a.e.ts a.e.pool) a.heads.now a.words.now a.catches.now a.o _ c.number_at-h.ensures s.requires.2 _ s.requires.1)

pub push_target-t-requires : goal.push_target-t-requires
push_target-t-requires c =
    let s = c in
    let a = s.args in
    (c.push_on-a.ensures.held, target_below (pool_searched a.slots.now a.payload.now a.e.ts a.e.pool) a.heads.now a.words.now a.catches.now a.o _ c.number_at-h.ensures s.requires.2 _ (c.push_on-a.auto.marks ∙ s.requires.1))

pub push_catch-b-requires : goal.push_catch-b-requires
push_catch-b-requires c =
    let s = c in
    let a = s.args in
    (c.push_target-t.ensures.held, catch_below (pool_searched a.slots.now a.payload.now a.e.ts a.e.pool) a.heads.now a.words.now a.catches.now a.o _ c.number_at-h.ensures s.requires.2 _ (c.push_target-t.auto.marks ∙ c.push_on-a.auto.marks ∙ s.requires.1))

pub push_table-requires : goal.push_table-requires
push_table-requires c =
    let s = c in
    let a = s.args in
    let el = (pool_searched a.slots.now a.payload.now a.e.ts a.e.pool) in
    (c.push_catch-b.ensures.held, below_read (table_yes a.o _ a.words.now el c.if-h-eq1.true) refl (table_below el a.heads.now a.words.now a.catches.now a.o _ c.number_at-h.ensures s.requires.2 _ (c.push_catch-b.auto.marks ∙ c.push_target-t.auto.marks ∙ c.push_on-a.auto.marks ∙ s.requires.1)), s.requires.3)

pub shape_of-marks-then-h-eq1 : goal.shape_of-marks-then-h-eq1
shape_of-marks-then-h-eq1 c = c.push_table.auto.marks ∙ c.push_catch-b.auto.marks ∙ c.push_target-t.auto.marks ∙ c.push_on-a.auto.marks

pub shape_of-queue-then-h-eq1 : goal.shape_of-queue-then-h-eq1
shape_of-queue-then-h-eq1 c = c.push_table.auto.queue ∙ c.push_catch-b.auto.queue ∙ c.push_target-t.auto.queue ∙ c.push_on-a.auto.queue

pub returns-then-h-eq1 : goal.returns-then-h-eq1
returns-then-h-eq1 c =
    let s = c in
    let a = s.args in
    let el = (pool_searched a.slots.now a.payload.now a.e.ts a.e.pool) in
    grown_parts el a.heads.now a.words.now a.catches.now a.o _ c.number_at-h.ensures s.requires.2 c.push_on-a.ensures c.push_target-t.ensures c.push_catch-b.ensures
    (grown_read (sym (table_yes a.o _ a.words.now el c.if-h-eq1.true)) c.push_table.ensures)

pub shape_of-marks : goal.shape_of-marks
shape_of-marks c = c.push_catch-b.auto.marks ∙ c.push_target-t.auto.marks ∙ c.push_on-a.auto.marks

pub shape_of-queue : goal.shape_of-queue
shape_of-queue c = c.push_catch-b.auto.queue ∙ c.push_target-t.auto.queue ∙ c.push_on-a.auto.queue

pub returns : goal.returns
returns c =
    let s = c in
    let a = s.args in
    let el = (pool_searched a.slots.now a.payload.now a.e.ts a.e.pool) in
    grown_parts el a.heads.now a.words.now a.catches.now a.o _ c.number_at-h.ensures s.requires.2 c.push_on-a.ensures c.push_target-t.ensures c.push_catch-b.ensures
    (grown_nothing _ (table_no a.o _ a.words.now el c.if-h-eq1.false) c.push_catch-b.ensures.held)
