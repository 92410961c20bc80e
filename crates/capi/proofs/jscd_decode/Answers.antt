use mathlib.Core.Path.{sym, ap, ◌∙◌}
use Rattle.capi.proofs.Instr.{decode_done}
use Rattle.std.specs.Prelude.{Ok}
use borrow.Author.Rules.{rules}
use Rattle.capi.proofs.jscd_decode.Goals as goal

pub returns-in-Ok-Some : goal.returns-in-Ok-Some
returns-in-Ok-Some c =
    let a = c.args in
    decode_done a.opcodes.now a.types.now a.layout.now a.code.now a.start _ (sym c.decode.ensures.1 ∙ c.in-Ok-Some.is ∙ ap Ok c.in-Ok-Some.field-0-is) c.instr_numbers.result (search rules) c.instr_numbers.ensures
