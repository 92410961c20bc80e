-- 02, Wish 5, by computing: walks with handler records over the sample's table and a Throw, 0c. Assumes nothing.
use Prim.Native.Nat.{ℕ}
use mathlib.Core.Path.{◌≡◌, refl}
use mathlib.Core.List.{List, [], ◌∷◌, ◌++◌}
use lib.ListN.{replicate}
use Rattle.laws.specs.Scan.{first_from, within}
use Rattle.words.specs.Le.{le_at}
use Rattle.words.specs.Signed.{modulo, wrap32, signed}
use Rattle.refusal.specs.Check.{refusal_at}
use Rattle.tables.specs.Names.{name_ok, is_named}
use Rattle.tables.specs.Records.{width, first_marked, type_names, name_fits, size_good, size_fits, fields_ok as opcode_fields, flow_fits, type_code}
use Rattle.tables.specs.Check.{whole_records, check_table}
use Rattle.layout.specs.Layout.{ranges, range_of, layout_of}
use Rattle.operand.specs.Operand.{kinds, kind_of, of_kind, interpret, is_list}
use Rattle.prefix.specs.Head.{head_at}
use Rattle.decoder.specs.Decode.{parts_from, read_parts, decode_at}
use Rattle.decoder.specs.Listed.{list_from}
use Rattle.flow.specs.Flow.{flow_kind, flow_of, is_return}
use Rattle.targets.specs.Targets.{pool_elem, operand_of, index_of, number_of, distance_by, jump_target, jump_table, table_by, sized_by}
use Rattle.function.specs.Files.{Files}
use Rattle.function.specs.Code.{switch_check}
use Rattle.handlers.specs.Handlers.{handler_among, check_handlers}
use Rattle.graph.specs.Graph.{is_start, exits, after, level, first_exit, finding, reached, marked, bits, mark_list}
use Rattle.steps.specs.Steps.{entries_steps, instr_steps, steps_at, walk_graph}
use Rattle.std.specs.Prelude.{None, Result, Ok, Err}
use Rattle.refusal.specs.Refusal.{Refusal}
use Rattle.search.specs.declared.Walked.{Walked}
use Rattle.refusal.specs.declared.Fault.TheVariants as fault
use Rattle.search.specs.declared.Walked.TheVariants as walked
use Rattle.walk.specs.Walk.{given_of, walk_source, walk_lent_with}
use Rattle.sample.specs.Sample.{padded, opcode, typed, opcodes, types, four, fours, layout}

pub thrown : List ℕ
thrown = opcodes ++ opcode "Throw" 0 [] (1 ∷ [])

pub files : Files
files = record { opcodes = thrown; types = types; runtime = []; intrinsic = []; layout = layout; objects = []; slots = []; payload = [] }

-- the walks of a code with records, each start, end and handler offset, and so many marks, which are sevens
pub walks : List ℕ → List ℕ → ℕ → Result Walked Refusal × List ℕ
walks code records marks = walk_lent_with files (given_of (fours records)) None code (replicate marks 7)

-- a conditional jump to the Return at 2
pub branch : List ℕ
branch = 0x06 ∷ 0x02 ∷ 0x0b ∷ []

-- a jump under a prefix to what falls off at 4
pub wide : List ℕ
wide = 0x00 ∷ 0x05 ∷ 0x03 ∷ 0x00 ∷ 0x02 ∷ []

-- a handler where no instruction starts; of two records that hold the jump the last one
pub last_record : walks branch (0 ∷ 2 ∷ 1 ∷ []) 3 ∷ walks branch (0 ∷ 2 ∷ 1 ∷ 0 ∷ 3 ∷ 2 ∷ []) 4 ∷ []
    ≡ (Ok (walked.Leaves 1 0), 1 ∷ 0 ∷ 0 ∷ []) ∷ (Ok walked.Closed, 1 ∷ 0 ∷ 1 ∷ 7 ∷ []) ∷ []
unfolding walks branch wide files thrown opcodes opcode typed types padded four fours layout check_table whole_records within first_from name_ok opcode_fields flow_fits type_code size_fits size_good
    name_fits is_named type_names ranges range_of layout_of decode_at head_at first_marked read_parts parts_from width is_list kinds kind_of of_kind interpret le_at modulo wrap32
    signed flow_kind flow_of is_return pool_elem operand_of index_of number_of distance_by jump_target jump_table table_by sized_by walk_lent_with walk_source list_from
    switch_check walk_graph steps_at instr_steps entries_steps handler_among check_handlers finding first_exit level after exits is_start mark_list marked reached bits
last_record = refl

-- a Return has no handler; a Throw without and with one
pub two_names : walks branch (2 ∷ 3 ∷ 1 ∷ []) 3 ∷ walks (0x0c ∷ 0x0b ∷ []) [] 2 ∷ walks (0x0c ∷ 0x0b ∷ []) (0 ∷ 1 ∷ 1 ∷ []) 2 ∷ []
    ≡ (Ok walked.Closed, 1 ∷ 0 ∷ 1 ∷ []) ∷ (Ok walked.Closed, 1 ∷ 0 ∷ []) ∷ (Ok walked.Closed, 1 ∷ 1 ∷ []) ∷ []
unfolding walks branch wide files thrown opcodes opcode typed types padded four fours layout check_table whole_records within first_from name_ok opcode_fields flow_fits type_code size_fits size_good
    name_fits is_named type_names ranges range_of layout_of decode_at head_at first_marked read_parts parts_from width is_list kinds kind_of of_kind interpret le_at modulo wrap32
    signed flow_kind flow_of is_return pool_elem operand_of index_of number_of distance_by jump_target jump_table table_by sized_by walk_lent_with walk_source list_from
    switch_check walk_graph steps_at instr_steps entries_steps handler_among check_handlers finding first_exit level after exits is_start mark_list marked reached bits
two_names = refl

-- a range of the byte behind a prefix holds nothing, one of the prefix holds the instruction
pub prefix_counts : walks wide (1 ∷ 2 ∷ 1 ∷ []) 5 ∷ walks wide (0 ∷ 1 ∷ 1 ∷ []) 5 ∷ []
    ≡ (Ok (walked.Leaves 2 4), 1 ∷ 0 ∷ 0 ∷ 0 ∷ 1 ∷ []) ∷ (Ok (walked.Leaves 1 0), 1 ∷ 0 ∷ 0 ∷ 0 ∷ 0 ∷ []) ∷ []
unfolding walks branch wide files thrown opcodes opcode typed types padded four fours layout check_table whole_records within first_from name_ok opcode_fields flow_fits type_code size_fits size_good
    name_fits is_named type_names ranges range_of layout_of decode_at head_at first_marked read_parts parts_from width is_list kinds kind_of of_kind interpret le_at modulo wrap32
    signed flow_kind flow_of is_return pool_elem operand_of index_of number_of distance_by jump_target jump_table table_by sized_by walk_lent_with walk_source list_from
    switch_check walk_graph steps_at instr_steps entries_steps handler_among check_handlers finding first_exit level after exits is_start mark_list marked reached bits
prefix_counts = refl

-- 25 at the second record; 24; 18 before 24; 25 on empty code
pub rows_in_order : walks branch (0 ∷ 2 ∷ 2 ∷ 2 ∷ 4 ∷ 0 ∷ []) 3 ∷ walks branch (0 ∷ 2 ∷ []) 3 ∷ walks branch (0 ∷ 2 ∷ []) 2 ∷ walks [] (0 ∷ 0 ∷ 0 ∷ []) 1 ∷ []
    ≡ (Err (refusal_at fault.BadHandler 1), 7 ∷ 7 ∷ 7 ∷ []) ∷ (Err (refusal_at fault.HandlersSize 0), 7 ∷ 7 ∷ 7 ∷ []) ∷ (Err (refusal_at fault.ShortMarks 0), 7 ∷ 7 ∷ []) ∷ (Err (refusal_at fault.BadHandler 0), 7 ∷ []) ∷ []
unfolding walks branch wide files thrown opcodes opcode typed types padded four fours layout check_table whole_records within first_from name_ok opcode_fields flow_fits type_code size_fits size_good
    name_fits is_named type_names ranges range_of layout_of decode_at head_at first_marked read_parts parts_from width is_list kinds kind_of of_kind interpret le_at modulo wrap32
    signed flow_kind flow_of is_return pool_elem operand_of index_of number_of distance_by jump_target jump_table table_by sized_by walk_lent_with walk_source list_from
    switch_check walk_graph steps_at instr_steps entries_steps handler_among check_handlers finding first_exit level after exits is_start mark_list marked reached bits
rows_in_order = refl
