use Prim.Native.Nat.{◌-◌, ◌%◌}
use mathlib.Core.Path.{sym, ap, ◌∙◌}
use native.Mathlib.Omega.{arith}
use Rattle.std.specs.Prelude.{Option}
use Rattle.operand.specs.declared.Operand.{Operand}
use Rattle.numbers.specs.mirror.Instr.{operand_number}
use Rattle.numbers.proofs.Instr.{instr_operand}
use Rattle.numbers.proofs.instr_number.Goals as goal

pub returns-in_default : goal.returns-in_default
returns-in_default c =
    c.operand_number.ensures ∙ ap (λ (p : Option Operand). operand_number p ((c.args.k - 4) % 3)) c.operand_in.ensures ∙ sym (instr_operand c.args.instr c.args.k (omega arith))
