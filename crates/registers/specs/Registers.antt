-- The largest register that is not negative. 01: "yields the largest non-negative register or none"; the Rust: `max_register`.
use Rattle.std.specs.Prelude.{ℕ, zero, suc, max, min, List, [], ◌∷◌, ℤ, pos, negsuc, take}
use Rattle.words.specs.Signed.{list_last}
use Rattle.operand.specs.declared.Operand.{Operand}
use Rattle.operand.specs.declared.Operand.TheVariants.{Reg, RegList, Imm, Idx, Flag8, Flag16, RuntimeId, IntrinsicId, Raw}
use Rattle.decoder.specs.declared.OperandRecord.{OperandRecord}
use Rattle.decoder.specs.declared.Instr.{Instr}
use Rattle.std.specs.Prelude.{Option, Some, None}

-- the larger of a number and what was largest
abbrev pub larger : Option ℕ → ℕ → Option ℕ
larger None n = Some n
larger (Some m) n = Some (max m n)

-- `negsuc n` is -(n + 1): a register below 0 does not count
abbrev pub with_register : Option ℕ → ℤ → Option ℕ
with_register best (pos n) = larger best n
with_register best (negsuc n) = best

-- a list's last register; the first of an empty one
abbrev pub list_end : ℤ → ℕ → ℤ
list_end first zero = first
list_end first (suc n) = list_last first (suc n)

abbrev pub with_operand : Option ℕ → Operand → Option ℕ
with_operand best (Reg index) = with_register best index
with_operand best (RegList first count) = with_register best (list_end first count)
with_operand best (Imm v) = best
with_operand best (Idx v) = best
with_operand best (Flag8 v) = best
with_operand best (Flag16 v) = best
with_operand best (RuntimeId v) = best
with_operand best (IntrinsicId v) = best
with_operand best (Raw t v) = best

abbrev pub with_place : Option ℕ → Option Operand → Option ℕ
with_place best (Some o) = with_operand best o
with_place best None = best

unfoldable pub with_operands : Option ℕ → List OperandRecord → Option ℕ
with_operands best [] = best
with_operands best (x ∷ xs) = with_operands (with_place best x.operand) xs

-- an instruction's operands are the first count of the eight
abbrev pub with_instr : Option ℕ → Instr → Option ℕ
with_instr best x = with_operands best (take (min x.count 8) x.operands)

abbrev pub with_instrs : Option ℕ → List Instr → Option ℕ
with_instrs best [] = best
with_instrs best (x ∷ xs) = with_instrs (with_instr best x) xs

-- the largest register of a run of instructions
abbrev pub max_register : List Instr → Option ℕ
max_register xs = with_instrs None xs
