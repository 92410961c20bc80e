use mathlib.Core.Path.{sym, ◌∙◌}
use native.Mathlib.Omega.{arith}
use mir.Facts.{to_z-of_z}
use Rattle.text.proofs.Put.{then}
use Rattle.writer.proofs.Loops.{text_is, number_is, plain_bytes, list_bytes}
use Rattle.writer.proofs.put_operand.Goals as goal

pub returns-then-not-is_list : goal.returns-then-not-is_list
returns-then-not-is_list c =
    let a = c.args in
    text_is (number_is a.types.now a.t a.scale (simp (to_z-of_z c.ranges.start) at c.stored_of.ensures) c.type_width.ensures ∙ plain_bytes a.types.now a.t a.scale a.start a.op (sym c.is_list.ensures ∙ c.if-not-is_list.true)) c.put_number-p.ensures

pub returns : goal.returns
returns c =
    let a = c.args in
    let first = text_is (number_is a.types.now a.t a.scale (simp (to_z-of_z c.ranges.start) at c.stored_of.ensures) c.type_width.ensures) c.put_number-p.ensures in
    let second = text_is (number_is a.types.now 8 a.scale c.count_of.ensures c.type_width-2.ensures) c.put_number.ensures in
    text_is (list_bytes a.types.now a.t a.scale a.start a.op (sym c.is_list.ensures ∙ c.if-not-is_list.false)) (then (omega (arith, c.well_formed)) first second)
