-- Instructions of 01's sample table written, by computing. Assumes nothing.
use Prim.Native.Nat.{ℕ}
use mathlib.Core.Path.{◌≡◌, refl}
use mathlib.Core.List.{List, [], ◌∷◌}
use lib.IntN.{pos, negsuc}
use lib.ListN.{replicate}
use Rattle.laws.specs.Scan.{first_from, within}
use Rattle.words.specs.Le.{le_at, le_bytes}
use Rattle.words.specs.Signed.{modulo, wrap32, signed}
use Rattle.refusal.specs.Check.{refusal_at}
use Rattle.std.specs.Prelude.{Result, Ok, Err}
use Rattle.refusal.specs.Refusal.{Refusal}
use Rattle.refusal.specs.declared.Fault.{Fault}
use Rattle.refusal.specs.declared.Fault.TheVariants as fault
use Rattle.tables.specs.Names.{name_ok, is_named}
use Rattle.tables.specs.Records.{width, first_marked, type_names, name_fits, size_good, size_fits, fields_ok as opcode_fields, flow_fits, type_code}
use Rattle.layout.specs.Layout.{ranges, range_of, layout_of}
use Rattle.tables.specs.Check.{whole_records, check_table}
use Rattle.operand.specs.Operand.{kinds, kind_of, of_kind, interpret, is_list}
use Rattle.operand.specs.declared.Operand.{Operand}
use Rattle.operand.specs.declared.Operand.TheVariants.{Reg, RegList, Imm, Idx, RuntimeId}
use Rattle.decoder.specs.Decode.{instr_of}
use Rattle.writer.specs.Bytes.{operand_bytes, bytes_by, head_bytes, instr_bytes}
use Rattle.writer.specs.Write.{same_operand, back_as, reads_back, operands_ok, scale_ok, opcode_fits, write_call}
use Rattle.sample.specs.Sample.{padded, opcode, typed, opcodes, types, four, fours, layout}

-- an opcode at a scale with operands, into n bytes of 7
abbrev written : ℕ → ℕ → List Operand → ℕ → Result ℕ Refusal × List ℕ
written scale op os n = write_call opcodes types layout (instr_of 0 op scale 0 os) (replicate n 7)

-- the same with one operand, whose place is empty
abbrev written_empty : ℕ → ℕ → ℕ → Result ℕ Refusal × List ℕ
written_empty scale op n = write_call opcodes types layout (record (instr_of 0 op scale 0 []) { count = 1 }) (replicate n 7)

abbrev sevens : Fault → Result ℕ Refusal × List ℕ
sevens f = (Err (refusal_at f 0), replicate 5 7)

-- `LdaSmi.Wide [384]`, `LdaSmi.ExtraWide [-1]`, `Star r0`, `CallRuntime [5], r0-r1`, `Wide.Wide`: behind a prefix any opcode can be written
pub written-cases :
    (written 2 3 (Imm (pos 384) ∷ []) 5
    ∷ written 4 3 (Imm (negsuc 0) ∷ []) 6
    ∷ written 1 4 (Reg (pos 0) ∷ []) 3
    ∷ written 1 10 (RuntimeId 5 ∷ RegList (pos 0) 2 ∷ []) 5
    ∷ written 2 0 [] 2
    ∷ [])
    ≡ (Ok 4, 0x00 ∷ 0x03 ∷ 0x80 ∷ 0x01 ∷ 7 ∷ [])
    ∷ (Ok 6, 0x01 ∷ 0x03 ∷ 0xff ∷ 0xff ∷ 0xff ∷ 0xff ∷ [])
    ∷ (Ok 2, 0x04 ∷ 0xfa ∷ 7 ∷ [])
    ∷ (Ok 5, 0x0a ∷ 0x05 ∷ 0x00 ∷ 0xfa ∷ 0x02 ∷ [])
    ∷ (Ok 2, 0x00 ∷ 0x00 ∷ [])
    ∷ []
unfolding opcodes opcode typed types padded four fours layout check_table whole_records within first_from name_ok opcode_fields flow_fits type_code size_fits size_good name_fits is_named type_names ranges range_of
    layout_of first_marked width is_list kinds kind_of of_kind interpret modulo wrap32 signed le_at le_bytes operand_bytes bytes_by head_bytes instr_bytes same_operand back_as reads_back
    operands_ok scale_ok opcode_fits write_call
written-cases = refl

-- scale 3; an opcode behind the last; a prefix opcode at scale 1; both wrong; a number too large; another kind; too few and too many operands; an empty
-- place; one byte too few
pub refused-cases :
    (written 3 12 [] 5
    ∷ written 1 12 [] 5
    ∷ written 1 0 [] 5
    ∷ written 1 12 (Idx 1 ∷ []) 5
    ∷ written 1 3 (Imm (pos 128) ∷ []) 5
    ∷ written 1 4 (Idx 250 ∷ []) 5
    ∷ written 1 4 [] 5
    ∷ written 1 11 (Reg (pos 0) ∷ []) 5
    ∷ written_empty 1 4 5
    ∷ written 4 3 (Imm (pos 1) ∷ []) 5
    ∷ [])
    ≡ sevens fault.WrongScale ∷ sevens fault.WrongOpcode ∷ sevens fault.WrongOpcode ∷ sevens fault.WrongOpcode
    ∷ sevens fault.WrongOperands ∷ sevens fault.WrongOperands ∷ sevens fault.WrongOperands ∷ sevens fault.WrongOperands ∷ sevens fault.WrongOperands ∷ sevens fault.ShortOutput ∷ []
unfolding opcodes opcode typed types padded four fours layout check_table whole_records within first_from name_ok opcode_fields flow_fits type_code size_fits size_good name_fits is_named type_names ranges range_of
    layout_of first_marked width is_list kinds kind_of of_kind interpret modulo wrap32 signed le_at le_bytes operand_bytes bytes_by head_bytes instr_bytes same_operand back_as reads_back
    operands_ok scale_ok opcode_fits write_call
refused-cases = refl
