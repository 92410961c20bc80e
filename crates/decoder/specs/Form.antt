-- Which of our tables are V8's at an instruction, and what V8 reads there (V8.antt) as an instruction of ours. `v8_decoding` of
-- proofs/V8.antt says that for such a table it is what we decode.
use Rattle.std.specs.Prelude.{ℕ, suc, ◌+◌, ◌<◌, ◌≤◌, ◌≡◌, List, [], ◌∷◌, Bool, true, false, cond, not, ◌&&◌, ◌||◌, eqb, length, ℤ, nat_abs, Option, Some, None, Ok}
use Rattle.tables.specs.Records.{type_byte}
use Rattle.flow.specs.Opcodes.{Opcodes, prefix_with}
use Rattle.operand.specs.declared.Operand.{Operand}
use Rattle.operand.specs.declared.Operand.TheVariants.{Reg, RegList, Imm, Idx, Flag8, Flag16, RuntimeId, IntrinsicId}
use Rattle.decoder.specs.Decode.{Decoded, instr_of}
use Rattle.decoder.specs.V8.{OperandType, Bytecodes, type_info, is_scalable, unscaled_size, from_operand, operand_scale, current_bytecode, current_types, next_offset, get_operand}
use Rattle.decoder.specs.V8.OperandType.{k_flag8, k_flag16, k_intrinsic_id, k_runtime_id, k_native_context_index, k_idx, k_u_imm, k_reg_count, k_imm, k_reg, k_reg_list, k_reg_pair, k_reg_out, k_reg_out_list, k_reg_out_pair, k_reg_out_triple, k_reg_in_out}

-- 01: "Codes 0 to 16 mean Reg, RegOut, RegInOut, .."
unfoldable pub code_of : OperandType → ℕ
code_of k_reg = 0
code_of k_reg_out = 1
code_of k_reg_in_out = 2
code_of k_reg_pair = 3
code_of k_reg_out_pair = 4
code_of k_reg_out_triple = 5
code_of k_reg_list = 6
code_of k_reg_out_list = 7
code_of k_reg_count = 8
code_of k_imm = 9
code_of k_idx = 10
code_of k_u_imm = 11
code_of k_native_context_index = 12
code_of k_flag8 = 13
code_of k_flag16 = 14
code_of k_runtime_id = 15
code_of k_intrinsic_id = 16

-- bytecodes.cc, IsRegisterListOperandType
abbrev pub is_register_list : OperandType → Bool
is_register_list t = eqb (code_of t) (code_of k_reg_list) || eqb (code_of t) (code_of k_reg_out_list)

-- the record of a type has V8's size and scaling
pub record Sized (types : List ℕ) (t : OperandType) : Type 0 where
  pub size : type_byte types (code_of t) 28 ≡ unscaled_size (type_info t)
  pub scalable : type_byte types (code_of t) 29 ≡ cond (is_scalable (type_info t)) 1 0
  pub present : type_byte types (code_of t) 30 ≡ 1

-- operands k on of an opcode's record have the types ts
abbrev pub Typed : Opcodes → List ℕ → ℕ → ℕ → List OperandType → Type 0
Typed ops types op k [] = Unit {0}
Typed ops types op k (t ∷ ts) = (ops.code op k ≡ code_of t) × Sized types t × Typed ops types op (k + 1) ts

-- bytecodes.h: behind each kRegList and kRegOutList stands kRegCount. The Bool says whether the type before is such a list.
abbrev pub counted : Bool → List OperandType → Bool
counted after [] = not after
counted true (t ∷ ts) = eqb (code_of t) (code_of k_reg_count) && counted false ts
counted false (t ∷ ts) = counted (is_register_list t) ts

-- the number of a prefix opcode; where the table has no record for it 256, which no byte is
abbrev pub prefix_number : Option ℕ → ℕ
prefix_number (Some op) = op
prefix_number None = 256

-- the table of an instruction that begins with the byte first and has opcode op is V8's, and no debugger has broken into it
pub record V8Form (b : Bytecodes) (ops : Opcodes) (types : List ℕ) (first op : ℕ) : Type 0 where
  pub wide : prefix_number (prefix_with ops 1) ≡ b.k_wide
  pub extra : prefix_number (prefix_with ops 2) ≡ b.k_extra_wide
  pub unbroken : (eqb first b.k_debug_break_wide || eqb first b.k_debug_break_extra_wide) ≡ false
  pub known : op < ops.many
  pub number : ops.operands op ≡ length (b.operand_types op)
  pub few : length (b.operand_types op) ≤ 8
  pub typed : Typed ops types op 0 (b.operand_types op)
  pub lists : counted false (b.operand_types op) ≡ true

-- operand i of type t, by the switch of BytecodeDecoder::Decode; z gives the numbers that operands hold. A kRegCount behind no list, for which
-- that has no case, is what GetRegisterCountOperand reads.
unfoldable pub shown_operand : (ℕ → OperandType → ℤ) → ℤ → ℕ → OperandType → Operand
shown_operand z start i k_reg = Reg (from_operand start (z i k_reg))
shown_operand z start i k_reg_out = Reg (from_operand start (z i k_reg_out))
shown_operand z start i k_reg_in_out = Reg (from_operand start (z i k_reg_in_out))
shown_operand z start i k_reg_pair = RegList (from_operand start (z i k_reg_pair)) 2
shown_operand z start i k_reg_out_pair = RegList (from_operand start (z i k_reg_out_pair)) 2
shown_operand z start i k_reg_out_triple = RegList (from_operand start (z i k_reg_out_triple)) 3
shown_operand z start i k_reg_list = RegList (from_operand start (z i k_reg_list)) (nat_abs (z (suc i) k_reg_count))
shown_operand z start i k_reg_out_list = RegList (from_operand start (z i k_reg_out_list)) (nat_abs (z (suc i) k_reg_count))
shown_operand z start i k_reg_count = Idx (nat_abs (z i k_reg_count))
shown_operand z start i k_imm = Imm (z i k_imm)
shown_operand z start i k_idx = Idx (nat_abs (z i k_idx))
shown_operand z start i k_u_imm = Idx (nat_abs (z i k_u_imm))
shown_operand z start i k_native_context_index = Idx (nat_abs (z i k_native_context_index))
shown_operand z start i k_flag8 = Flag8 (nat_abs (z i k_flag8))
shown_operand z start i k_flag16 = Flag16 (nat_abs (z i k_flag16))
shown_operand z start i k_runtime_id = RuntimeId (nat_abs (z i k_runtime_id))
shown_operand z start i k_intrinsic_id = IntrinsicId (nat_abs (z i k_intrinsic_id))

-- those that its loop shows from operand i on; behind a list stands its count, which the loop passes
abbrev pub shown_from : (ℕ → OperandType → ℤ) → ℤ → Bool → ℕ → List OperandType → List Operand
shown_from z start after i [] = []
shown_from z start true i (t ∷ ts) = shown_from z start false (suc i) ts
shown_from z start false i (t ∷ ts) = shown_operand z start i t ∷ shown_from z start (is_register_list t) (suc i) ts

-- V8's reading of the instruction at an offset
abbrev pub v8_decoded : Bytecodes → List ℕ → ℤ → ℕ → Decoded
v8_decoded b code start offset =
    Ok (Some (instr_of offset (current_bytecode b code offset) (operand_scale b code offset) (next_offset b code offset)
    (shown_from (get_operand b code offset) start false 0 (current_types b code offset))))
