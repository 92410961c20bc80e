-- A table in V8's form, and what V8 reads by it. Assumes nothing.
use Prim.Native.Nat.{ℕ, zero, suc, ◌-◌}
use mathlib.Core.Path.{◌≡◌, refl}
use mathlib.Core.List.{List, [], ◌∷◌, ◌++◌, map}
use native.Mathlib.Omega.{arith}
use lib.IntN.{pos, negsuc}
use lib.ListN.{length, get_or, replicate}
use Rattle.laws.specs.Scan.{first_from}
use Rattle.tables.specs.Records.{first_marked, type_code}
use Rattle.flow.specs.Opcodes.{opcodes_of}
use Rattle.operand.specs.declared.Operand.TheVariants.{RegList, Imm, RuntimeId}
use Rattle.std.specs.Prelude.{Some, Ok}
use Rattle.decoder.specs.Decode.{instr_of}
use Rattle.decoder.specs.V8.{Bytecodes, type_info, is_scalable, is_unsigned, unscaled_size}
use Rattle.decoder.specs.V8.OperandType.{k_runtime_id, k_reg_count, k_imm, k_reg_list}
use Rattle.decoder.specs.Form.{code_of, V8Form, shown_operand, v8_decoded}

-- 00 Wide, 01 ExtraWide, 02 LdaSmi, 03 CallRuntime; a debugger's bytecodes are no bytes
abbrev v8 : Bytecodes
v8 = record {
  k_wide = 0;
  k_extra_wide = 1;
  k_debug_break_wide = 256;
  k_debug_break_extra_wide = 257;
  operand_types = λ op. get_or ([] ∷ [] ∷ (k_imm ∷ []) ∷ (k_runtime_id ∷ k_reg_list ∷ k_reg_count ∷ []) ∷ []) op [];
}

-- records as 01 and 02 have them; names and flows do not matter here
abbrev opcode : ℕ → List ℕ → List ℕ
opcode mark codes = replicate 40 0x41 ++ (mark ∷ length codes ∷ codes) ++ replicate (30 - length codes) 0

abbrev ops : List ℕ
ops = opcode 1 [] ++ opcode 2 [] ++ opcode 0 (9 ∷ []) ++ opcode 0 (15 ∷ 6 ∷ 8 ∷ [])

abbrev scalables : ℕ → List ℕ
scalables zero = []
scalables (suc n) = replicate 28 0x41 ++ (1 ∷ 1 ∷ 1 ∷ 0 ∷ scalables n)

abbrev types : List ℕ
types = scalables 15 ++ replicate 28 0x41 ++ (2 ∷ 0 ∷ 1 ∷ 0 ∷ scalables 1)

form_runtime : V8Form v8 (opcodes_of ops) types 0x00 0x03
unfolding first_marked first_from type_code code_of type_info is_scalable unscaled_size
form_runtime = record {
  wide = refl;
  extra = refl;
  unbroken = refl;
  known = omega arith;
  number = refl;
  few = omega arith;
  typed = (refl, record { size = refl; scalable = refl; present = refl }, (refl, record { size = refl; scalable = refl; present = refl }, (refl, record { size = refl; scalable = refl; present = refl }, tt)));
  lists = refl;
}

-- a table without prefix records is V8's where V8 has no prefix that a byte is
abbrev v8_plain : Bytecodes
v8_plain = record {
  k_wide = 256;
  k_extra_wide = 256;
  k_debug_break_wide = 257;
  k_debug_break_extra_wide = 258;
  operand_types = λ op. get_or ((k_imm ∷ []) ∷ []) op [];
}

form_plain : V8Form v8_plain (opcodes_of (opcode 0 (9 ∷ []))) types 0x00 0x00
unfolding first_marked first_from type_code code_of type_info is_scalable unscaled_size
form_plain = record {
  wide = refl;
  extra = refl;
  unbroken = refl;
  known = omega arith;
  number = refl;
  few = omega arith;
  typed = (refl, record { size = refl; scalable = refl; present = refl }, tt);
  lists = refl;
}

-- P2, P3, P4, and P7 behind a Wide: the same bytes as in 01, under these opcodes
v8_reads : map (λ code. v8_decoded v8 code (negsuc 5) 0) (
    (0x02 ∷ 0xff ∷ []) ∷ (0x00 ∷ 0x02 ∷ 0x80 ∷ 0x01 ∷ []) ∷ (0x01 ∷ 0x02 ∷ 0x00 ∷ 0x00 ∷ 0x00 ∷ 0x80 ∷ [])
    ∷ (0x00 ∷ 0x03 ∷ 0x05 ∷ 0x00 ∷ 0xfa ∷ 0xff ∷ 0x02 ∷ 0x00 ∷ []) ∷ []
    )
    ≡ map (λ i. Ok (Some i)) (
    instr_of 0 2 1 2 (Imm (negsuc 0) ∷ []) ∷ instr_of 0 2 2 4 (Imm (pos 384) ∷ []) ∷ instr_of 0 2 4 6 (Imm (negsuc 2147483647) ∷ [])
    ∷ instr_of 0 3 2 8 (RuntimeId 5 ∷ RegList (pos 0) 2 ∷ []) ∷ []
    )
unfolding code_of type_info is_scalable is_unsigned unscaled_size shown_operand
v8_reads = refl
