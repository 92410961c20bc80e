use mathlib.Core.Path.{sym, ◌∙◌}
use native.Mathlib.Omega.{arith}
use Rattle.text.proofs.Put.{then}
use Rattle.flow.specs.Opcodes.{opcodes_of}
use Rattle.writer.proofs.Loops.{is_none, head_is, text_is}
use Rattle.writer.proofs.put_head.Goals as goal

pub returns-in_default : goal.returns-in_default
returns-in_default c =
    text_is (sym (head_is (opcodes_of c.args.opcodes.now) c.args.scale c.args.opcode (sym (is_none c.prefix_of.result c.in_default.not-Some) ∙ c.prefix_of.ensures))) c.put_byte.ensures

pub returns : goal.returns
returns c =
    text_is (sym (head_is (opcodes_of c.args.opcodes.now) c.args.scale c.args.opcode (sym c.in-Some.is ∙ c.prefix_of.ensures))) (then (omega (arith, c.well_formed)) c.put_byte-p.ensures c.put_byte-2.ensures)
