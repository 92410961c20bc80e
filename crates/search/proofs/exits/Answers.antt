use mathlib.Core.Path.{sym, ap, ◌∙◌}
use borrow.Author.Tests.{ne_eqb}
use Rattle.laws.proofs.Tests.{clash}
use Rattle.graph.specs.Lists.{any}
use Rattle.targets.specs.mirror.Search.{pool_searched}
use Rattle.search.specs.mirror.Kept.{off_heads}
use Rattle.search.proofs.Laws.{exits_on, exits_target, exits_catch, exits_table, table_yes, table_no}
use Rattle.search.proofs.exits.Goals as goal
use Rattle.search.proofs.exits.Goals.{then-on_leaves, else-on_leaves, then-target_leaves, else-target_leaves}

pub returns-then-catch_leaves : goal.returns-then-catch_leaves
returns-then-catch_leaves c =
    let a = c.args in
    let el = pool_searched a.slots.now a.payload.now a.e.ts a.e.pool in
    c.if-catch_leaves.true ∙ sym (elim c.if-target_leaves.branch [
      | then-target_leaves w ↦ elim c.if-on_leaves.branch [
        | then-on_leaves u ↦ exits_on el a.heads.now a.words.now a.catches.now a.o _ c.number_at-h.ensures (sym c.on_leaves.ensures ∙ u.if-on_leaves.true)
        | else-on_leaves u ↦ exits_target el a.heads.now a.words.now a.catches.now a.o _ c.number_at-h.ensures (sym u.target_leaves.ensures ∙ sym u.value-is ∙ w.if-target_leaves.true)
      ]
      | else-target_leaves w ↦ exits_catch el a.heads.now a.words.now a.catches.now a.o _ c.number_at-h.ensures (sym w.catch_leaves.ensures ∙ sym w.value-is ∙ c.if-catch_leaves.true)
    ])

pub returns-then-h-eq1 : goal.returns-then-h-eq1
returns-then-h-eq1 c =
    let a = c.args in
    let el = pool_searched a.slots.now a.payload.now a.e.ts a.e.pool in
    c.table_leaves.ensures ∙ ap (any (off_heads a.heads.now)) (sym (table_yes a.o _ a.words.now el c.if-h-eq1.true))
    ∙ sym (elim c.if-target_leaves.branch [
      | then-target_leaves w ↦ clash (w.value-is ∙ w.if-target_leaves.true) c.if-catch_leaves.false
      | else-target_leaves w ↦ elim c.if-on_leaves.branch [
        | then-on_leaves u ↦ clash (u.value-is ∙ u.if-on_leaves.true) w.if-target_leaves.false
        | else-on_leaves u ↦ exits_table el a.heads.now a.words.now a.catches.now a.o _ c.number_at-h.ensures (sym c.on_leaves.ensures ∙ u.if-on_leaves.false)
            (sym u.target_leaves.ensures ∙ sym u.value-is ∙ w.if-target_leaves.false) (sym w.catch_leaves.ensures ∙ sym w.value-is ∙ c.if-catch_leaves.false)
      ]
    ])

pub returns-else-h-eq1 : goal.returns-else-h-eq1
returns-else-h-eq1 c =
    let a = c.args in
    let el = pool_searched a.slots.now a.payload.now a.e.ts a.e.pool in
    ne_eqb _ 1 c.if-h-eq1.false ∙ ap (any (off_heads a.heads.now)) (sym (table_no a.o _ a.words.now el c.if-h-eq1.false))
    ∙ sym (elim c.if-target_leaves.branch [
      | then-target_leaves w ↦ clash (w.value-is ∙ w.if-target_leaves.true) c.if-catch_leaves.false
      | else-target_leaves w ↦ elim c.if-on_leaves.branch [
        | then-on_leaves u ↦ clash (u.value-is ∙ u.if-on_leaves.true) w.if-target_leaves.false
        | else-on_leaves u ↦ exits_table el a.heads.now a.words.now a.catches.now a.o _ c.number_at-h.ensures (sym c.on_leaves.ensures ∙ u.if-on_leaves.false)
            (sym u.target_leaves.ensures ∙ sym u.value-is ∙ w.if-target_leaves.false) (sym w.catch_leaves.ensures ∙ sym w.value-is ∙ c.if-catch_leaves.false)
      ]
    ])
