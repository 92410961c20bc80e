use mathlib.Core.Path.{◌≡◌, sym, ap, ◌∙◌}
use mathlib.Core.Bool.{false}
use lib.IntN.{pos}
use Rattle.std.specs.Prelude.{Ok}
use Rattle.std.proofs.iter.Serving.{serving}
use Rattle.std.proofs.lemmas.Result.{err_from_is_err_and}
use Rattle.flow.specs.Opcodes.{opcodes_of}
use Rattle.decoder.specs.Decode.{operand_types, parts_from}
use Rattle.decoder.specs.mirror.Extent.{extent_of}
use Rattle.decoder.proofs.Extents.{extent_any}
use Rattle.decoder.proofs.extent_op.Goals as goal

pub returns-in_err-decoded : goal.returns-in_err-decoded
returns-in_err-decoded c = λ rfs.
    let a = c.args in
    let p = err_from_is_err_and c.from_residual.result c.from_residual.ensures.1 in
    rw p.1 (rw p.2
    (ap extent_of (sym c.in_err-decoded.was ∙ c.decode_op.ensures)
    ∙ extent_any a.code.now a.types.now a.head.scale a.head.opcode a.start a.head.at (pos 0) rfs (parts_from false (operand_types (opcodes_of a.opcodes.now) a.head.opcode))))

pub returns : goal.returns
returns c = λ rfs.
    let a = c.args in
    let known : Ok c.map.result ≡ extent_of (Ok c.in_ok-decoded.decoded) = grind serving in
    known ∙ ap extent_of (sym c.in_ok-decoded.was ∙ c.decode_op.ensures)
    ∙ extent_any a.code.now a.types.now a.head.scale a.head.opcode a.start a.head.at (pos 0) rfs (parts_from false (operand_types (opcodes_of a.opcodes.now) a.head.opcode))
