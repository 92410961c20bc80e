-- Operands and names as texts: the Rust's `reg_name`, `render_operand` and instruction name, in 01's words "written as `render_operand` does".
use Rattle.std.specs.Prelude.{ℕ, List, [], ◌++◌, cond, eqb, ℤ, pos, ◌-ℤ◌}
use Rattle.laws.specs.Ascii.{ascii}
use Rattle.words.specs.Signed.{wrap32, list_last, param_number, negative, eq_z}
use Rattle.text.specs.Texts.{decimal, signed_decimal}
use Rattle.std.specs.Prelude.{Option, Some, None}
use Rattle.layout.specs.declared.Frame.{Frame}
use Rattle.tables.specs.Texts.{type_name, runtime_name, intrinsic_name}
use Rattle.flow.specs.Opcodes.{Opcodes}
use Rattle.operand.specs.declared.Operand.{Operand}
use Rattle.operand.specs.declared.Operand.TheVariants.{Reg, RegList, Imm, Idx, Flag8, Flag16, RuntimeId, IntrinsicId, Raw}

-- the number of the parameter that a negative index means: from the base and the parameter count where there is a base
abbrev pub parameter_index : Option ℤ → ℤ → ℤ → ℤ → ℤ
parameter_index (Some b) first params index = param_number index b params
parameter_index None first params index = wrap32 (first -ℤ index)

-- parameter 0 is the receiver
unfoldable pub param_name : ℤ → List ℕ
param_name p = cond (eq_z p (pos 0)) (ascii "<this>") (ascii "a" ++ signed_decimal (wrap32 (p -ℤ pos 1)))

-- The Rust's `reg_name`; V8: Register::ToString. Context and closure come before the sign of the index.
unfoldable pub reg_name : Frame → ℤ → ℤ → List ℕ
reg_name frame params index =
    cond (eq_z index frame.context) (ascii "<context>")
    (cond (eq_z index frame.closure) (ascii "<closure>")
    (cond (negative index) (param_name (parameter_index frame.param_base frame.first_param params index))
    (ascii "r" ++ signed_decimal index)))

-- a list by its first and its last register; V8: RegisterList, whose first and last are register 0 where it is empty
unfoldable pub list_name : Frame → ℤ → ℤ → ℕ → List ℕ
list_name frame params first count =
    cond (eqb count 0) (reg_name frame params (pos 0) ++ ascii "-" ++ reg_name frame params (pos 0))
    (reg_name frame params first ++ ascii "-" ++ reg_name frame params (list_last first count))

-- what the names of a table's types, runtime functions and intrinsics are taken from
pub record NameFiles : Type 0 where
  pub types : List ℕ
  pub runtime : List ℕ
  pub intrinsic : List ℕ

-- The Rust's `render_operand`; V8: BytecodeDecoder::Decode's printing. Of a place without an operand nothing.
unfoldable pub operand_text : NameFiles → Frame → ℤ → Option Operand → List ℕ
operand_text files frame params None = []
operand_text files frame params (Some (Reg i)) = reg_name frame params i
operand_text files frame params (Some (RegList first count)) = list_name frame params first count
operand_text files frame params (Some (Imm v)) = ascii "[" ++ signed_decimal v ++ ascii "]"
operand_text files frame params (Some (Idx v)) = ascii "[" ++ decimal v ++ ascii "]"
operand_text files frame params (Some (Flag8 v)) = ascii "#" ++ decimal v
operand_text files frame params (Some (Flag16 v)) = ascii "#" ++ decimal v
operand_text files frame params (Some (RuntimeId v)) = ascii "[" ++ runtime_name files.runtime v ++ ascii "]"
operand_text files frame params (Some (IntrinsicId v)) = ascii "[_" ++ intrinsic_name files.intrinsic v ++ ascii "]"
operand_text files frame params (Some (Raw ty v)) = type_name files.types ty ++ ascii ":" ++ decimal v

-- V8: Bytecodes::ToString(bytecode, scale, "."): the plain name, and the prefix behind a dot
unfoldable pub instr_name : Opcodes → ℕ → ℕ → List ℕ
instr_name ops opcode scale = ops.name opcode ++ cond (eqb scale 1) [] (cond (eqb scale 2) (ascii ".Wide") (ascii ".ExtraWide"))
