-- Targets, tables and entries at places of small codes over 01's sample table, by computing. Assumes nothing.
use Prim.Native.Nat.{ℕ}
use mathlib.Core.Path.{◌≡◌, refl}
use mathlib.Core.List.{List, [], ◌∷◌, ◌++◌}
use lib.IntN.{pos}
use Rattle.laws.specs.Scan.{first_from, within}
use Rattle.words.specs.Le.{le_at}
use Rattle.words.specs.Signed.{modulo, wrap32, signed}
use Rattle.refusal.specs.Check.{refusal_at}
use Rattle.store.specs.Records.{slot_of, object_of}
use Rattle.store.specs.Check.{sizes_ok, object_ok, fields_ok, value_ok, slot_ok, falls_in, falls, check_store}
use Rattle.serializer.specs.Smi.{smi_bytes}
use Rattle.serializer.specs.Down.{down}
use Rattle.serializer.specs.Slots.{slot_at}
use Rattle.serializer.specs.Element.{elem_at}
use Rattle.tables.specs.Names.{name_ok, name_at, is_named}
use Rattle.tables.specs.Records.{width, first_marked, type_names, name_fits, size_good, size_fits, fields_ok as opcode_fields, flow_fits, type_code}
use Rattle.layout.specs.Layout.{ranges, range_of, layout_of}
use Rattle.tables.specs.Check.{whole_records, check_table}
use Rattle.operand.specs.Operand.{kinds, kind_of, of_kind, interpret, is_list}
use Rattle.prefix.specs.Head.{head_at}
use Rattle.decoder.specs.Decode.{parts_from, read_parts, decode_at}
use Rattle.sample.specs.Sample.{padded, opcode, typed, opcodes, types, four, fours, layout}
use Rattle.flow.specs.Flow.{flow_kind, flow_of}
use Rattle.targets.specs.Targets.{pool_elem, operand_of, index_of, number_of, distance_by, jump_target, jump_table, table_by, sized_by, entry_at}
use Rattle.function.specs.Files.{Files}
use Rattle.function.specs.Pool.{pool_by}
use Rattle.jumps.specs.Jumps.{target_of, target_call, table_of, table_call, entry_call}
use Rattle.std.specs.Prelude.{Some, None, Ok, Err}
use Rattle.refusal.specs.declared.Fault.TheVariants as fault
use Rattle.jumps.specs.declared.Entry.TheVariants.{Shown, Skipped, Beyond}

-- an object of kind 0, by its first slot and their count
abbrev object_record : ℕ → ℕ → List ℕ
object_record first count = 0 ∷ 0 ∷ 0 ∷ 0 ∷ four first ++ four count ++ four 0

-- a slot, by its index, kind, number and length
abbrev slot : ℕ → ℕ → ℕ → ℕ → List ℕ
slot index kind number len = four index ++ (kind ∷ 0 ∷ 0 ∷ 0 ∷ []) ++ four number ++ four len ++ four 0 ++ four 0

-- object 0 has object 1 for its pool, whose elements are 4 and a reference
abbrev files : List ℕ → Files
files ops = record {
  opcodes = ops;
  types = types;
  runtime = [];
  intrinsic = [];
  layout = layout;
  objects = object_record 0 1 ++ object_record 1 2;
  slots = slot 2 1 1 0 ++ slot 2 4 0 8 ++ slot 3 1 0 0;
  payload = four 0 ++ four 4;
}

-- P9; the code's end and a place beyond it; a constant jump without and with a pool; an object that is not there
pub target-cases :
    (target_call (files opcodes) None (0x07 ∷ 0x03 ∷ 0x00 ∷ []) 0
    ∷ target_call (files opcodes) None (0x02 ∷ []) 1
    ∷ target_call (files opcodes) None (0x02 ∷ []) 2
    ∷ target_call (files opcodes) None (0x08 ∷ 0x00 ∷ []) 0
    ∷ target_call (files opcodes) (Some 0) (0x08 ∷ 0x00 ∷ []) 0
    ∷ target_call (files opcodes) (Some 2) (0x08 ∷ 0x00 ∷ []) 0
    ∷ [])
    ≡ (Ok (Some (Some 18446744073709551613)) ∷ Ok None ∷ Err (refusal_at fault.BeyondCode 2) ∷ Ok (Some None) ∷ Ok (Some (Some 4))
    ∷ Err (refusal_at fault.NoObject 0) ∷ [])
unfolding target_call target_of opcodes opcode typed types padded four fours layout check_table whole_records within first_from name_ok opcode_fields flow_fits type_code size_fits size_good name_fits is_named type_names
    ranges range_of le_at check_store sizes_ok object_ok slot_ok value_ok fields_ok falls falls_in object_of slot_of layout_of pool_by slot_at pool_elem elem_at down smi_bytes decode_at head_at
    first_marked read_parts parts_from width is_list kinds kind_of of_kind interpret modulo wrap32 signed name_at flow_kind flow_of operand_of index_of
    number_of distance_by jump_target
target-cases = refl

-- 01's switch with and without its pool, and both under Wide
abbrev switch : List ℕ
switch = 0x09 ∷ 0x00 ∷ 0x02 ∷ 0x05 ∷ 0x0b ∷ []

abbrev wide_switch : List ℕ
wide_switch = 0x00 ∷ 0x09 ∷ 0x00 ∷ 0x00 ∷ 0x02 ∷ 0x00 ∷ 0x05 ∷ 0x00 ∷ 0x0b ∷ []

pub table-cases :
    (table_call (files opcodes) (Some 0) switch 0
    ∷ table_call (files opcodes) None switch 0
    ∷ table_call (files opcodes) (Some 0) wide_switch 0
    ∷ table_call (files opcodes) None wide_switch 0
    ∷ [])
    ≡ (Ok (Some (Some (record { start = 0; count = 2; base = pos 5 }))) ∷ Ok (Some None) ∷ Ok (Some (Some (record { start = 0; count = 2; base = pos 5 }))) ∷ Ok (Some None)
    ∷ [])
unfolding table_call table_of opcodes opcode typed types padded four fours layout check_table whole_records within first_from name_ok opcode_fields flow_fits type_code size_fits size_good name_fits is_named type_names
    ranges range_of le_at check_store sizes_ok object_ok slot_ok value_ok fields_ok falls falls_in object_of slot_of layout_of pool_by slot_at decode_at head_at
    first_marked read_parts parts_from width is_list kinds kind_of of_kind interpret modulo wrap32 signed name_at flow_kind flow_of operand_of index_of
    number_of jump_table table_by sized_by
table-cases = refl

-- its entries: one shown, the reference, none; without its pool; what is no switch; the code's end; the one shown and the reference under Wide
pub entry-cases :
    (entry_call (files opcodes) (Some 0) switch 0 0
    ∷ entry_call (files opcodes) (Some 0) switch 0 1
    ∷ entry_call (files opcodes) (Some 0) switch 0 2
    ∷ entry_call (files opcodes) None switch 0 0
    ∷ entry_call (files opcodes) (Some 0) switch 4 0
    ∷ entry_call (files opcodes) (Some 0) switch 5 0
    ∷ entry_call (files opcodes) (Some 0) wide_switch 0 0
    ∷ entry_call (files opcodes) (Some 0) wide_switch 0 1
    ∷ [])
    ≡ (Ok (Some (Some (Shown (record { case = pos 5; target = 4 })))) ∷ Ok (Some (Some Skipped)) ∷ Ok (Some (Some Beyond)) ∷ Ok (Some None) ∷ Ok (Some None) ∷ Ok None
    ∷ Ok (Some (Some (Shown (record { case = pos 5; target = 5 })))) ∷ Ok (Some (Some Skipped)) ∷ [])
unfolding entry_call table_call table_of opcodes opcode typed types padded four fours layout check_table whole_records within first_from name_ok opcode_fields flow_fits type_code size_fits size_good name_fits is_named type_names
    ranges range_of le_at check_store sizes_ok object_ok slot_ok value_ok fields_ok falls falls_in object_of slot_of layout_of pool_by slot_at pool_elem elem_at down smi_bytes decode_at head_at
    first_marked read_parts parts_from width is_list kinds kind_of of_kind interpret modulo wrap32 signed name_at flow_kind flow_of operand_of index_of
    number_of jump_table table_by sized_by entry_at
entry-cases = refl

-- a switch whose count is signed: 16 at its start, and only of the table
abbrev signed_switch : List ℕ
signed_switch = opcode "SwitchOnSmiNoFeedback" 0 (10 ∷ 9 ∷ 9 ∷ []) (5 ∷ 0 ∷ 0 ∷ 1 ∷ [])

abbrev two_switches : List ℕ
two_switches = 0x00 ∷ 0x00 ∷ 0x01 ∷ 0x05 ∷ 0x00 ∷ 0x00 ∷ 0xff ∷ 0x05 ∷ []

pub sixteen_case : table_call (files signed_switch) (Some 0) two_switches 4 ≡ Err (refusal_at fault.BadSwitch 4)
unfolding table_call table_of opcode typed types padded four fours layout check_table whole_records within first_from name_ok opcode_fields flow_fits type_code size_fits size_good name_fits is_named type_names
    ranges range_of le_at check_store sizes_ok object_ok slot_ok value_ok fields_ok falls falls_in object_of slot_of layout_of pool_by slot_at decode_at head_at
    first_marked read_parts parts_from width is_list kinds kind_of of_kind interpret modulo wrap32 signed name_at flow_kind flow_of operand_of index_of
    number_of jump_table table_by sized_by
sixteen_case = refl

-- under Wide too
pub sixteen_wide : table_call (files (opcode "Wide" 1 [] [] ++ signed_switch)) (Some 0) (0x00 ∷ 0x01 ∷ 0x00 ∷ 0x00 ∷ 0x01 ∷ 0x10 ∷ 0x05 ∷ 0x00 ∷ []) 0 ≡ Err (refusal_at fault.BadSwitch 0)
unfolding table_call table_of opcode typed types padded four fours layout check_table whole_records within first_from name_ok opcode_fields flow_fits type_code size_fits size_good name_fits is_named type_names
    ranges range_of le_at check_store sizes_ok object_ok slot_ok value_ok fields_ok falls falls_in object_of slot_of layout_of pool_by slot_at decode_at head_at
    first_marked read_parts parts_from width is_list kinds kind_of of_kind interpret modulo wrap32 signed name_at flow_kind flow_of operand_of index_of
    number_of jump_table table_by sized_by
sixteen_wide = refl

pub sixteen_target : target_call (files signed_switch) (Some 0) two_switches 4 ≡ Ok (Some None)
unfolding target_call target_of opcode typed types padded four fours layout check_table whole_records within first_from name_ok opcode_fields flow_fits type_code size_fits size_good name_fits is_named type_names
    ranges range_of le_at check_store sizes_ok object_ok slot_ok value_ok fields_ok falls falls_in object_of slot_of layout_of pool_by slot_at decode_at head_at
    first_marked read_parts parts_from width is_list kinds kind_of of_kind interpret modulo wrap32 signed name_at flow_kind flow_of jump_target
sixteen_target = refl
