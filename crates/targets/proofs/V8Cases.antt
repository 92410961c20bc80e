-- Where V8's targets are not ours, and a prefixed switch: 01's sample, computed. Assumes nothing.
use Rattle.std.proofs.Common.{◌≡◌, ℕ, true, false, List, [], ◌∷◌, get_or, ℤ, pos, negsuc, refl}
use Rattle.words.specs.Signed.{modulo, wrap32}
use Rattle.operand.specs.declared.Operand.TheVariants.{Idx, Imm}
use Rattle.decoder.specs.declared.Instr.{Instr}
use Rattle.decoder.specs.Decode.{instr_of}
use Rattle.decoder.specs.V8.{Bytecodes, type_info, is_scalable, is_unsigned, unscaled_size, prefix_size, get_operand}
use Rattle.decoder.specs.V8.OperandType.{k_idx, k_u_imm, k_imm}
use Rattle.std.specs.Prelude.{Some, None, Ok}
use Rattle.serializer.specs.declared.Elem.TheVariants as elem
use Rattle.targets.specs.declared.Entries.{Entries}
use Rattle.targets.specs.Targets.{operand_of, here, index_of, number_of, distance_by, jump_target, sized_by, table_by, jump_table, entry_at}
use Rattle.targets.specs.V8.{Jump, ConstantPool, get_jump_target_offset, get_jump_table_target_offsets}
use Rattle.targets.specs.V8.Jump.{jump_loop, jump_immediate}
use Rattle.targets.specs.V8.Switch.{switch_on_smi_no_feedback}
use Rattle.targets.specs.Form.{jump_flow, switch_flow}

-- 05 Jump, 07 JumpLoop, 09 SwitchOnSmiNoFeedback of the sample
abbrev v8 : Bytecodes
v8 = record {
  k_wide = 0;
  k_extra_wide = 1;
  k_debug_break_wide = 256;
  k_debug_break_extra_wide = 257;
  operand_types = λ op. get_or ([] ∷ [] ∷ [] ∷ [] ∷ [] ∷ (k_u_imm ∷ []) ∷ [] ∷ (k_u_imm ∷ k_imm ∷ []) ∷ [] ∷ (k_idx ∷ k_u_imm ∷ k_imm ∷ []) ∷ []) op [];
}

-- a pool of Smis 4
abbrev pool : ConstantPool
pool = record { is_smi = λ n. true; as_smi = λ n. pos 4 }

-- V8's target of a jump at the start of a code
abbrev target_of_lem : List ℕ → Jump → ℤ
target_of_lem code j = get_jump_target_offset 0 (prefix_size v8 code 0) (get_operand v8 code 0) pool j

-- `07 03 00`: V8's target is below zero, ours is kept modulo 2 ^ 64
loop_parts : (target_of_lem (0x07 ∷ 0x03 ∷ 0x00 ∷ []) jump_loop ≡ negsuc 2)
    × (jump_target (λ n. None) (jump_flow jump_loop false) (instr_of 0 7 1 3 (Idx 3 ∷ Imm (pos 0) ∷ [])) ≡ Some 18446744073709551613)
unfolding type_info is_scalable is_unsigned unscaled_size jump_target distance_by number_of operand_of modulo
loop_parts = (refl, refl)

-- `01 05 00 00 00 80`: V8's int holds no distance of 2 ^ 31
far_parts : (target_of_lem (0x01 ∷ 0x05 ∷ 0x00 ∷ 0x00 ∷ 0x00 ∷ 0x80 ∷ []) jump_immediate ≡ negsuc 2147483646)
    × (jump_target (λ n. None) (jump_flow jump_immediate false) (instr_of 0 5 4 6 (Idx 2147483648 ∷ [])) ≡ Some 2147483649)
unfolding type_info is_scalable is_unsigned unscaled_size jump_target distance_by number_of operand_of modulo
far_parts = (refl, refl)

-- `00 09 00 00 01 00 05 00`: the entry of a switch under a prefix counts from behind it, in V8 and here
abbrev wide_switch_lem : List ℕ
wide_switch_lem = 0x00 ∷ 0x09 ∷ 0x00 ∷ 0x00 ∷ 0x01 ∷ 0x00 ∷ 0x05 ∷ 0x00 ∷ []

abbrev wide_instr : Instr
wide_instr = instr_of 0 9 2 8 (Idx 0 ∷ Idx 1 ∷ Imm (pos 5) ∷ [])

abbrev wide_table : Entries
wide_table = record { start = 0; count = 1; base = pos 5 }

switch_same : (get_jump_table_target_offsets 0 (prefix_size v8 wide_switch_lem 0) (get_operand v8 wide_switch_lem 0) pool switch_on_smi_no_feedback ≡ record { case_value = pos 5; target_offset = pos 5 } ∷ [])
    × (jump_table true (switch_flow switch_on_smi_no_feedback) wide_instr ≡ Ok (Some wide_table))
    × (entry_at (λ n. Some (elem.Smi (pos 4))) (here wide_instr) wide_table 0 ≡ Some (record { case = (pos 5); target = 5 }))
unfolding type_info is_scalable is_unsigned unscaled_size jump_table table_by sized_by index_of number_of operand_of entry_at wrap32 modulo
switch_same = (refl, refl, refl)
