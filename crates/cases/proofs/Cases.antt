-- 01's P rows, by computing. Assumes nothing.
use mathlib.Core.Path.{◌≡◌, refl}
use mathlib.Core.List.{[], ◌∷◌, map, flat_map}
use Rattle.laws.specs.Scan.{first_from, within}
use Rattle.words.specs.Le.{le_at}
use Rattle.words.specs.Signed.{modulo, wrap32, signed}
use Rattle.text.specs.Texts.{decimal, last_digits, hex_digit, hex_byte}
use Rattle.tables.specs.Names.{name_ok, name_at, is_named}
use Rattle.tables.specs.Records.{width, first_marked, type_names, name_fits, size_good, size_fits, fields_ok as opcode_fields, flow_fits, type_code}
use Rattle.layout.specs.Layout.{ranges, range_of, layout_of}
use Rattle.tables.specs.Texts.{runtime_name}
use Rattle.tables.specs.Check.{whole_records, check_table}
use Rattle.operand.specs.Operand.{kinds, kind_of, of_kind, interpret, is_list}
use Rattle.prefix.specs.Head.{head_at}
use Rattle.decoder.specs.Decode.{parts_from, read_parts, decode_at}
use Rattle.decoder.specs.Listed.{list_from}
use Rattle.bytecode.specs.Decode.{decode_one}
use Rattle.bytecode.specs.Texts.{param_name, reg_name, list_name, operand_text, instr_name}
use Rattle.flow.specs.Flow.{flow_kind, flow_of, is_return}
use Rattle.targets.specs.Targets.{pool_elem, operand_of, index_of, number_of, distance_by, jump_target, jump_table, table_by, sized_by}
use Rattle.lines.specs.Line.{operands_by, line_by}
use Rattle.function.specs.Code.{switch_check}
use Rattle.handlers.specs.Handlers.{handler_among, check_handlers}
use Rattle.graph.specs.Graph.{is_start, exits, after, level, first_exit, finding, reached, marked, bits, mark_list}
use Rattle.steps.specs.Steps.{entries_steps, instr_steps, steps_at, walk_graph}
use Rattle.jumps.specs.Jumps.{target_of, target_call}
use Rattle.walk.specs.Walk.{walk_source, walk_lent_with}
use Rattle.sample.specs.Sample.{padded, opcode, typed, opcodes, types, four, fours, layout}
use Rattle.std.specs.Prelude.{Ok}
use Rattle.search.specs.declared.Walked.TheVariants as walked-as
use Rattle.cases.specs.Rows.{told, asked, rows}
use Rattle.cases.specs.Rows.Asked.{walks}
use Rattle.cases.specs.Rows.Told.{walked}

-- P1 to P12
pub cases : map told asked ≡ rows
unfolding told asked rows opcodes opcode typed types padded four fours layout check_table whole_records within first_from name_ok opcode_fields flow_fits type_code size_fits size_good name_fits is_named
    type_names ranges range_of layout_of decode_one decode_at head_at first_marked read_parts parts_from width is_list kinds kind_of of_kind interpret le_at modulo wrap32
    signed line_by operands_by hex_byte hex_digit flat_map name_at decimal last_digits runtime_name param_name reg_name list_name operand_text instr_name target_call target_of
    flow_kind flow_of is_return pool_elem operand_of index_of number_of distance_by jump_target jump_table table_by sized_by walk_lent_with walk_source list_from
    switch_check walk_graph steps_at instr_steps entries_steps handler_among check_handlers finding first_exit level after exits is_start mark_list marked reached bits
cases = refl

-- 02, Wish 4: empty code is closed, and no mark is written, whatever the mark buffer
pub empty_cases : told (walks [] 0) ∷ told (walks [] 2) ∷ [] ≡ walked (Ok walked-as.Closed, []) ∷ walked (Ok walked-as.Closed, 7 ∷ 7 ∷ []) ∷ []
unfolding told opcodes opcode typed types padded four fours layout check_table whole_records within first_from name_ok opcode_fields flow_fits type_code size_fits size_good name_fits is_named
    type_names ranges range_of layout_of decode_one decode_at head_at first_marked read_parts parts_from width is_list kinds kind_of of_kind interpret le_at modulo wrap32
    signed line_by operands_by hex_byte hex_digit flat_map name_at decimal last_digits runtime_name param_name reg_name list_name operand_text instr_name target_call target_of
    flow_kind flow_of is_return pool_elem operand_of index_of number_of distance_by jump_target jump_table table_by sized_by walk_lent_with walk_source list_from
    switch_check walk_graph steps_at instr_steps entries_steps handler_among check_handlers finding first_exit level after exits is_start mark_list marked reached bits
empty_cases = refl
