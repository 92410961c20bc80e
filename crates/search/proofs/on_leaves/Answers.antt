use mathlib.Core.Path.{◌∙◌}
use borrow.Author.Tests.{ne_eqb}
use Rattle.search.proofs.Laws.{on_yes, on_no, leaves_one, leaves_nothing}
use Rattle.search.proofs.on_leaves.Goals as goal

pub returns-then-h-eq1 : goal.returns-then-h-eq1
returns-then-h-eq1 c = let a = c.args in leaves_one a.heads.now _ (on_yes a.o a.h c.if-h-eq1.true) c.end_of.ensures c.number_at.ensures

pub returns-else-h-eq1 : goal.returns-else-h-eq1
returns-else-h-eq1 c = let a = c.args in ne_eqb _ 1 c.if-h-eq1.false ∙ leaves_nothing a.heads.now (on_no a.o a.h c.if-h-eq1.false)
