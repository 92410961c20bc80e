use mir.Facts.{to_z-of_z}
use mir.Syntax.{w32}
use mir.Val.{SFits}
use borrow.Author.Rules.{rules}
use Rattle.disasm.proofs.list_header.Goals as goal

pub returns : goal.returns
returns c =
    let f : SFits w32 c.args.h.parameter_count = search rules in
    rw (simp (to_z-of_z f) at c.function_of-f.ensures) at c.list_code.ensures
