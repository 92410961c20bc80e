use mathlib.Core.Path.{◌∙◌}
use mir.Facts.{to_z-of_z}
use Rattle.writer.proofs.Loops.{low_is, back_by}
use Rattle.writer.proofs.reads_back.Goals as goal

pub returns : goal.returns
returns c =
    let a = c.args in
    c.same_operand.ensures ∙ back_by a.types.now a.t a.scale a.start a.op c.interpret_operand.result c.type_width-w.ensures (low_is a.types.now a.t a.scale c.low_bytes-value.ensures (simp (to_z-of_z c.ranges.start) at c.stored_of.ensures) c.type_width-w.ensures) c.list_count-count.ensures (simp (to_z-of_z c.ranges.start) at c.interpret_operand.ensures.1)
