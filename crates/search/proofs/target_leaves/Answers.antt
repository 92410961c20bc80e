use mathlib.Core.Path.{◌∙◌}
use borrow.Author.Tests.{ne_eqb}
use Rattle.search.proofs.Laws.{target_yes, target_no, leaves_one, leaves_nothing}
use Rattle.search.proofs.target_leaves.Goals as goal

pub returns-then-h-eq1 : goal.returns-then-h-eq1
returns-then-h-eq1 c = let a = c.args in leaves_one a.heads.now _ (target_yes a.o a.h a.words.now c.if-h-eq1.true) c.number_at.ensures c.number_at-then-h-eq1.ensures

pub returns-else-h-eq1 : goal.returns-else-h-eq1
returns-else-h-eq1 c = let a = c.args in ne_eqb _ 1 c.if-h-eq1.false ∙ leaves_nothing a.heads.now (target_no a.o a.h a.words.now c.if-h-eq1.false)
