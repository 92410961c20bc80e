use mathlib.Core.Path.{sym, ◌∙◌}
use native.Mathlib.Omega.{arith}
use borrow.Author.Tests.{eqb-true}
use Rattle.handlers.proofs.Painting.{painted_none}
use Rattle.handlers.proofs.Words.{caught_none}
use Rattle.handlers.proofs.catch_table.Goals as goal

pub returns-then-is_empty : goal.returns-then-is_empty
returns-then-is_empty c = let a = c.args in λ f. caught_none a.code.now a.opcodes.now a.handlers.now a.prefixes a.catches.now (eqb-true _ _ (sym c.is_empty.ensures ∙ c.if-is_empty.true)) f.clear

pub returns : goal.returns
returns c = let a = c.args in λ f. c.catch_by.ensures (painted_none a.handlers.now a.catches.now (omega (arith, f.as_long, f.short)) f.clear)
