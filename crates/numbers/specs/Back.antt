-- The way back: the instruction that 28 numbers tell. Laws of proofs/Inverse.antt: the numbers that are told of an instruction tell it (`told_back`),
-- and three numbers that tell an operand are those that are told of it (`told_again`).
use Rattle.std.specs.Prelude.{ℕ, zero, suc, ◌+◌, ◌-◌, ◌*◌, ◌%◌, ◌^◌, Bool, cond, ◌&&◌, ◌||◌, List, [], ◌∷◌, eqb, leb, ltb, get_or, Option, Some, None}
use Rattle.std.specs.Int.{w64}
use mir.Val.{to_z}
use Rattle.operand.specs.declared.Operand.{Operand}
use Rattle.operand.specs.declared.Operand.TheVariants.{Reg, RegList, Imm, Idx, Flag8, Flag16, RuntimeId, IntrinsicId, Raw}
use Rattle.decoder.specs.declared.OperandRecord.{OperandRecord}
use Rattle.decoder.specs.declared.Instr.{Instr}
use Rattle.decoder.specs.Decode.{record_of}

-- the 64 bits of a number that 32 bits hold in two's complement: of 0 to 2 ^ 31 - 1, or of -2 ^ 31 to -1
unfoldable pub is_i32 : ℕ → Bool
is_i32 a = ltb a (2 ^ 31) || leb (2 ^ 64 - 2 ^ 31) a

-- an operand where its numbers are in range, else none
abbrev pub only : Bool → Operand → Option Operand
only b o = cond b (Some o) None

-- The operand that a kind and two numbers tell. An entry for each kind from 0 on, as operand's `operand_numbers` numbers them: each number is in
-- the range of its field, and a second one that is not there is 0. There is no operand of kind 0 or of a higher kind.
unfoldable pub told_operand : ℕ → ℕ → ℕ → Option Operand
told_operand kind a b =
    get_or
    (None
    ∷ only (is_i32 a && eqb b 0) (Reg (to_z w64 a))
    ∷ only (is_i32 a && ltb b (2 ^ 32)) (RegList (to_z w64 a) b)
    ∷ only (eqb b 0) (Imm (to_z w64 a))
    ∷ only (ltb a (2 ^ 32) && eqb b 0) (Idx a)
    ∷ only (ltb a (2 ^ 8) && eqb b 0) (Flag8 a)
    ∷ only (ltb a (2 ^ 16) && eqb b 0) (Flag16 a)
    ∷ only (ltb a (2 ^ 32) && eqb b 0) (RuntimeId a)
    ∷ only (ltb a (2 ^ 32) && eqb b 0) (IntrinsicId a)
    ∷ only (ltb a (2 ^ 8)) (Raw a b)
    ∷ [])
    kind None

-- operand j of the eight: behind the first four numbers each has three
abbrev pub told_at : List ℕ → ℕ → OperandRecord
told_at ns j = let k = 4 + 3 * j in record_of (told_operand (get_or ns k 0) (get_or ns (k + 1) 0) (get_or ns (k + 2) 0))

-- n of them from operand j on
unfoldable pub told_from : List ℕ → ℕ → ℕ → List OperandRecord
told_from ns j zero = []
told_from ns j (suc n) = told_at ns j ∷ told_from ns (j + 1) n

-- a scale that no u8 holds is told as 0, which is no scale
abbrev pub told_scale : ℕ → ℕ
told_scale n = cond (ltb n 256) n 0

-- whether the opcode's number is one that a u8 holds; no table has an opcode of another
abbrev pub opcode_known : List ℕ → Bool
opcode_known ns = ltb (get_or ns 0 0) 256

-- The instruction, at place 0. Its opcode is the number's only where `opcode_known`.
unfoldable pub told_instr : List ℕ → Instr
told_instr ns = record {
  offset = 0;
  opcode = get_or ns 0 0 % 256;
  scale = told_scale (get_or ns 1 0);
  end = get_or ns 2 0;
  count = get_or ns 3 0;
  operands = told_from ns 0 8;
}
