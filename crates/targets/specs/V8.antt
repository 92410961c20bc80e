-- Where V8's jumps and switches go, from bytecode-array-iterator.cc (10.2 and 11.3) alone: nothing of ours stands here. An int is an integer;
-- of a sum that does not fit C++ says nothing. Form.antt says which of our instructions these are.
use Rattle.std.specs.Prelude.{ℕ, zero, suc, ◌+◌, Bool, cond, List, [], ◌∷◌, ℤ, pos, ◌+ℤ◌, neg_ℤ, unsigned_abs}
use Rattle.decoder.specs.V8.{OperandType, to_int}
use Rattle.decoder.specs.V8.OperandType.{k_idx, k_u_imm, k_imm}

-- the bytecodes that jump: kJumpLoop, the others that IsJumpImmediate, and those that IsJumpConstant
pub data Jump : Type 0 where
  jump_loop jump_immediate jump_constant : Jump

-- those that IsSwitch
pub data Switch : Type 0 where
  switch_on_generator_state switch_on_smi_no_feedback : Switch

-- the constant pool: IsConstantAtIndexSmi, GetConstantAtIndexAsSmi
pub record ConstantPool : Type 0 where
  pub is_smi : ℕ → Bool
  pub as_smi : ℕ → ℤ

-- JumpTableTargetOffset
pub record TargetOffset : Type 0 where
  pub case_value : ℤ
  pub target_offset : ℤ

-- at an instruction: current_offset, prefix_size_, the numbers that its operands hold (GetUnsignedOperand, GetSignedOperand), and the pool
module _ (offset prefix : ℕ) (operand : ℕ → OperandType → ℤ) (pool : ConstantPool) where
  abbrev pub get_absolute_offset : ℤ → ℤ
  get_absolute_offset relative = pos offset +ℤ relative +ℤ pos prefix

  -- the uint32_t of GetUnsignedImmediateOperand becomes an int
  abbrev pub get_relative_jump_target_offset : Jump → ℤ
  get_relative_jump_target_offset jump_immediate = to_int (operand 0 k_u_imm)
  get_relative_jump_target_offset jump_loop = neg_ℤ (to_int (operand 0 k_u_imm))
  get_relative_jump_target_offset jump_constant = pool.as_smi (unsigned_abs (operand 0 k_idx))

  abbrev pub get_jump_target_offset : Jump → ℤ
  get_jump_target_offset jump = get_absolute_offset (get_relative_jump_target_offset jump)

  -- JumpTableTargetOffsets::iterator: index_ and table_offset_ go on together; what is no Smi is passed (UpdateAndAdvanceToValid)
  abbrev pub offsets_from : ℤ → ℕ → ℕ → List TargetOffset
  offsets_from index place zero = []
  offsets_from index place (suc left) =
      let rest = offsets_from (index +ℤ pos 1) (place + 1) left in
      cond (pool.is_smi place) (record { case_value = index; target_offset = get_absolute_offset (pool.as_smi place) } ∷ rest) rest

  -- table_start, table_size, case_value_base
  abbrev pub get_jump_table_target_offsets : Switch → List TargetOffset
  get_jump_table_target_offsets switch_on_generator_state = offsets_from (pos 0) (unsigned_abs (operand 1 k_idx)) (unsigned_abs (operand 2 k_u_imm))
  get_jump_table_target_offsets switch_on_smi_no_feedback = offsets_from (operand 2 k_imm) (unsigned_abs (operand 0 k_idx)) (unsigned_abs (operand 1 k_u_imm))
