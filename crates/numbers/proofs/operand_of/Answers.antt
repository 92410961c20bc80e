use mathlib.Core.Path.{sym, ◌∙◌}
use borrow.Author.Rules.{sfits_of}
use mir.Facts.{to_z-of_z}
use mir.Syntax.{w32}
use Rattle.numbers.specs.Back.{told_operand}
use Rattle.numbers.proofs.Back.{reg_told, list_told}
use Rattle.numbers.proofs.operand_of.Goals as goal

pub returns-in-1 : goal.returns-in-1
returns-in-1 c =
    reg_told c.args.a c.args.b c.in-1.is (sym c.is_reg.ensures ∙ c.if-is_reg.true) (λ h. to_z-of_z {w = w32} {z = c.narrow.result} (sfits_of {w = w32} c.narrow.type_inv) ∙ c.narrow.ensures h)

pub returns-in-2 : goal.returns-in-2
returns-in-2 c =
    list_told c.args.a c.args.b c.in-2.is (sym c.is_reg_list.ensures ∙ c.if-is_reg_list.true) (λ h. to_z-of_z {w = w32} {z = c.narrow-in-2.result} (sfits_of {w = w32} c.narrow-in-2.type_inv) ∙ c.narrow-in-2.ensures h)

pub returns-in_default-2 : goal.returns-in_default-2
unfolding told_operand
returns-in_default-2 c = rw (c.in-2.is, sym c.is_reg_list.ensures ∙ c.if-is_reg_list.false)
