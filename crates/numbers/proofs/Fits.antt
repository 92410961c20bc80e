-- What an instruction's fields may hold, for law `told_back` (Inverse.antt): each is in the range of its type.
use Prim.Native.Nat.{ℕ, ◌^◌, ◌<◌}
use mathlib.Core.Path.{◌≡◌}
use lib.ListN.{length}
use mir.Syntax.{w32, w64}
use mir.Val.{SFits}
use Rattle.std.specs.Prelude.{Option, Some, None}
use Rattle.operand.specs.declared.Operand.{Operand}
use Rattle.operand.specs.declared.Operand.TheVariants.{Reg, RegList, Imm, Idx, Flag8, Flag16, RuntimeId, IntrinsicId, Raw}
use Rattle.decoder.specs.declared.Instr.{Instr}
use Rattle.numbers.specs.mirror.Instr.{operand_in}

-- a raw operand's value is told as it is
abbrev pub OperandFits : Operand → Type 0
OperandFits (Reg i) = SFits w32 i
OperandFits (RegList first count) = SFits w32 first × (count < 2 ^ 32)
OperandFits (Imm v) = SFits w64 v
OperandFits (Idx v) = v < 2 ^ 32
OperandFits (Flag8 v) = v < 2 ^ 8
OperandFits (Flag16 v) = v < 2 ^ 16
OperandFits (RuntimeId v) = v < 2 ^ 32
OperandFits (IntrinsicId v) = v < 2 ^ 32
OperandFits (Raw ty value) = ty < 2 ^ 8

-- a place without an operand tells 0, 0 and 0
abbrev pub PlaceFits : Option Operand → Type 0
PlaceFits (Some o) = OperandFits o
PlaceFits None = Unit {0}

-- where it starts is not told
pub record InstrFits (i : Instr) : Type 0 where
  pub start : i.offset ≡ 0
  pub fits_opcode : i.opcode < 2 ^ 8
  pub fits_scale : i.scale < 2 ^ 8
  pub eight : length i.operands ≡ 8
  pub fit_operands : (j : ℕ) → PlaceFits (operand_in i j)
