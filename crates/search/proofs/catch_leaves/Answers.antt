use mathlib.Core.Path.{refl, ap, ◌∙◌}
use mathlib.Core.Bool.{not}
use borrow.Author.Tests.{eq-eqb}
use Rattle.search.proofs.Laws.{catch_yes, catch_no, leaves_one, leaves_nothing}
use Rattle.search.proofs.catch_leaves.Goals as goal

pub returns-then-c-ne0 : goal.returns-then-c-ne0
returns-then-c-ne0 c = let a = c.args in leaves_one a.heads.now _ (catch_yes a.catches.now a.o c.number_at-c.ensures c.if-c-ne0.true) refl c.number_at.ensures

pub returns-else-c-ne0 : goal.returns-else-c-ne0
returns-else-c-ne0 c =
    let a = c.args in
    ap not (eq-eqb _ 0 c.if-c-ne0.false) ∙ leaves_nothing a.heads.now (catch_no a.catches.now a.o c.number_at-c.ensures c.if-c-ne0.false)
