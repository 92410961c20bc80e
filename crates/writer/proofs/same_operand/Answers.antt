use Rattle.std.proofs.Common.{sym, ◌∙◌, ne_eqb, w64}
use borrow.Author.Rules.{sfits_of}
use Rattle.laws.proofs.Tests.{clash}
use Rattle.words.proofs.Signs.{same_bits}
use Rattle.writer.proofs.Loops.{kinds_differ, firsts_differ, by_second}
use Rattle.writer.proofs.same_operand.Goals as goal
use Rattle.writer.proofs.same_operand.Goals.{then-kind_number, else-kind_number}

pub returns-then-first_number : goal.returns-then-first_number
returns-then-first_number c =
    let a = c.args in
    elim c.if-kind_number.branch [
      | then-kind_number w ↦
          let same = same_bits w64 w.first_number.result w.first_number-then-kind_number.result (sfits_of {w = w64} w.first_number.type_inv) (sfits_of {w = w64} w.first_number-then-kind_number.type_inv) in
          sym (by_second a.a a.b c.kind_number.ensures c.kind_number-2.ensures w.first_number.ensures w.first_number-then-kind_number.ensures w.if-kind_number.true (sym same ∙ (sym w.value-is ∙ c.if-first_number.true)) c.second_number.ensures c.second_number-then-first_number.ensures)
      | else-kind_number w ↦ clash c.if-first_number.true (w.value-is ∙ ne_eqb _ _ w.if-kind_number.false)
    ]

pub returns-else-first_number : goal.returns-else-first_number
returns-else-first_number c =
    let a = c.args in
    elim c.if-kind_number.branch [
      | then-kind_number w ↦
          let same = same_bits w64 w.first_number.result w.first_number-then-kind_number.result (sfits_of {w = w64} w.first_number.type_inv) (sfits_of {w = w64} w.first_number-then-kind_number.type_inv) in
          c.if-first_number.false ∙ sym (firsts_differ a.a a.b c.kind_number.ensures c.kind_number-2.ensures w.first_number.ensures w.first_number-then-kind_number.ensures w.if-kind_number.true (sym same ∙ (sym w.value-is ∙ c.if-first_number.false)))
      | else-kind_number w ↦ c.if-first_number.false ∙ sym (kinds_differ a.a a.b c.kind_number.ensures c.kind_number-2.ensures w.if-kind_number.false)
    ]
