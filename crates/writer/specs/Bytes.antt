-- The bytes of an instruction. 02, Wish 2: "table, scale, opcode and operands in, bytes out". V8: BytecodeArrayWriter::EmitBytecode.
use Rattle.std.specs.Prelude.{ℕ, ◌^◌, Bool, false, cond, ◌&&◌, List, [], ◌∷◌, ◌++◌, eqb, ℤ, ◌-ℤ◌, Option, Some, None}
use Rattle.words.specs.Le.{le_bytes}
use Rattle.words.specs.Signed.{modulo}
use Rattle.tables.specs.Records.{width}
use Rattle.flow.specs.Opcodes.{Opcodes, prefix_with}
use Rattle.operand.specs.Operand.{is_list}
use Rattle.operand.specs.declared.Operand.{Operand}
use Rattle.operand.specs.declared.Operand.TheVariants.{Reg, RegList, Imm, Idx, Flag8, Flag16, RuntimeId, IntrinsicId, Raw}
use Rattle.decoder.specs.Decode.{operand_types}

-- The number that stands for an operand: it has no bits that reading drops, so that "bytes that reading drops are written 0".
-- V8: Register::ToOperand is reg_file_start minus the index.
abbrev pub stored_of : ℤ → Operand → ℕ
stored_of rfs (Reg i) = modulo (2 ^ 32) (rfs -ℤ i)
stored_of rfs (RegList first count) = modulo (2 ^ 32) (rfs -ℤ first)
stored_of rfs (Imm v) = modulo (2 ^ 32) v
stored_of rfs (Idx v) = v
stored_of rfs (Flag8 v) = v
stored_of rfs (Flag16 v) = v
stored_of rfs (RuntimeId v) = v
stored_of rfs (IntrinsicId v) = v
stored_of rfs (Raw ty value) = value

-- "a list writes its own RegCount"
abbrev pub count_of : Operand → ℕ
count_of (Reg i) = 0
count_of (RegList first count) = count
count_of (Imm v) = 0
count_of (Idx v) = 0
count_of (Flag8 v) = 0
count_of (Flag16 v) = 0
count_of (RuntimeId v) = 0
count_of (IntrinsicId v) = 0
count_of (Raw ty value) = 0

-- the bytes of an operand of type t: a list's count, of RegCount's width (8), stands behind its register
unfoldable pub operand_bytes : List ℕ → ℕ → ℤ → ℕ → Operand → List ℕ
operand_bytes types scale rfs t o =
    le_bytes (width types t scale) (stored_of rfs o) ++ cond (is_list t) (le_bytes (width types 8 scale) (count_of o)) []

-- the bytes of operands of these types; the Bool says whether the type before was a list: then a RegCount takes no operand
unfoldable pub bytes_by : List ℕ → ℕ → ℤ → Bool → List ℕ → List Operand → List ℕ
bytes_by types scale rfs after [] os = []
bytes_by types scale rfs after (t ∷ ts) [] = []
bytes_by types scale rfs after (t ∷ ts) (o ∷ os) =
    cond (eqb t 8 && after) (bytes_by types scale rfs false ts (o ∷ os))
    (operand_bytes types scale rfs t o ++ bytes_by types scale rfs (is_list t) ts os)

-- a prefix opcode, if there is one
abbrev pub prefix_byte : Option ℕ → List ℕ
prefix_byte (Some op) = op ∷ []
prefix_byte None = []

-- the prefix opcode of a scale, if any, and the opcode
unfoldable pub head_bytes : Opcodes → ℕ → ℕ → List ℕ
head_bytes ops scale opcode =
    cond (eqb scale 1) [] (cond (eqb scale 2) (prefix_byte (prefix_with ops 1)) (prefix_byte (prefix_with ops 2))) ++ (opcode ∷ [])

unfoldable pub instr_bytes : Opcodes → List ℕ → ℤ → ℕ → ℕ → List Operand → List ℕ
instr_bytes ops types rfs scale opcode os = head_bytes ops scale opcode ++ bytes_by types scale rfs false (operand_types ops opcode) os
