-- 02, Wish 6, by computing: walks over the sample's table and one opcode more, 0c, with an UImm, a name that no list has and bytes of its own. Assumes nothing.
use Prim.Native.Nat.{ℕ}
use Prim.Native.String.{String}
use mathlib.Core.Path.{◌≡◌, refl}
use mathlib.Core.List.{List, [], ◌∷◌, ◌++◌}
use lib.ListN.{replicate}
use Rattle.laws.specs.Scan.{first_from, within}
use Rattle.words.specs.Le.{le_at}
use Rattle.words.specs.Signed.{modulo, wrap32, signed}
use Rattle.refusal.specs.Check.{refusal_at}
use Rattle.tables.specs.Names.{name_ok, is_named}
use Rattle.tables.specs.Records.{width, first_marked, type_names, name_fits, size_good, size_fits, fields_ok as opcode_fields, flow_fits, type_code}
use Rattle.tables.specs.Check.{whole_records, check_table}
use Rattle.layout.specs.Layout.{ranges, range_of, layout_of}
use Rattle.operand.specs.Operand.{kinds, kind_of, of_kind, interpret, is_list}
use Rattle.prefix.specs.Head.{head_at}
use Rattle.decoder.specs.Decode.{parts_from, read_parts, decode_at}
use Rattle.decoder.specs.Listed.{list_from}
use Rattle.flow.specs.Flow.{flow_kind, flow_of, is_return}
use Rattle.targets.specs.Targets.{pool_elem, operand_of, index_of, number_of, distance_by, jump_target, jump_table, table_by, sized_by}
use Rattle.function.specs.Files.{Files}
use Rattle.function.specs.Code.{switch_check}
use Rattle.handlers.specs.Handlers.{handler_among, check_handlers}
use Rattle.graph.specs.Graph.{is_start, exits, after, level, first_exit, finding, reached, marked, bits, mark_list}
use Rattle.steps.specs.Steps.{entries_steps, instr_steps, steps_at, walk_graph}
use Rattle.std.specs.Prelude.{None, Result, Ok, Err}
use Rattle.refusal.specs.Refusal.{Refusal}
use Rattle.search.specs.declared.Walked.{Walked}
use Rattle.refusal.specs.declared.Fault.TheVariants as fault
use Rattle.search.specs.declared.Walked.TheVariants as walked
use Rattle.walk.specs.Walk.{given_of, walk_source, walk_lent_with}
use Rattle.sample.specs.Sample.{padded, opcode, typed, opcodes, types, four, fours, layout}

-- the sample's table with this name and these bytes 50 to 53
pub files : String → List ℕ → Files
files name flow = record { opcodes = opcodes ++ opcode name 0 (11 ∷ []) flow; types = types; runtime = []; intrinsic = []; layout = layout; objects = []; slots = []; payload = [] }

-- the walks of a code with handler records and three marks, which are sevens
pub walks : String → List ℕ → List ℕ → List ℕ → Result Walked Refusal × List ℕ
walks name flow code records = walk_lent_with (files name flow) (given_of (fours records)) None code (replicate 3 7)

-- to the Return at 2, and to the byte before it
pub branch : List ℕ
branch = 0x0c ∷ 0x02 ∷ 0x0b ∷ []

pub bad : List ℕ
bad = 0x0c ∷ 0x01 ∷ 0x0b ∷ []

-- a jump whose name the list lacks is followed: it goes on or to its target, jumps only, or goes back
pub followed : walks "JumpIfForInDone" (3 ∷ []) branch [] ∷ walks "JumpIfForInDone" (3 ∷ []) bad [] ∷ walks "JumpIfForInDone" (0 ∷ []) bad [] ∷ []
    ≡ (Ok walked.Closed, 1 ∷ 0 ∷ 1 ∷ []) ∷ (Ok (walked.Leaves 1 0), 1 ∷ 0 ∷ 0 ∷ []) ∷ (Ok walked.Closed, 1 ∷ 0 ∷ 1 ∷ []) ∷ []
unfolding walks files branch bad opcodes opcode typed types padded four fours layout check_table whole_records within first_from name_ok opcode_fields flow_fits type_code size_fits size_good
    name_fits is_named type_names ranges range_of layout_of decode_at head_at first_marked read_parts parts_from width is_list kinds kind_of of_kind interpret le_at modulo wrap32
    signed flow_kind flow_of is_return pool_elem operand_of index_of number_of distance_by jump_target jump_table table_by sized_by walk_lent_with walk_source list_from
    switch_check walk_graph steps_at instr_steps entries_steps handler_among check_handlers finding first_exit level after exits is_start mark_list marked reached bits
followed = refl

-- the bytes count, not the name: a JumpLoop that adds, an operand that there is not, a Return that goes on and has no handler, a name that ends and has one
pub by_bytes : walks "JumpLoop" (3 ∷ []) branch [] ∷ walks "JumpLoop" (2 ∷ 0 ∷ 1 ∷ []) branch [] ∷ walks "Return" (0 ∷ []) branch (0 ∷ 1 ∷ 1 ∷ []) ∷ walks "Stop" (1 ∷ []) branch (0 ∷ 1 ∷ 2 ∷ []) ∷ []
    ≡ (Ok walked.Closed, 1 ∷ 0 ∷ 1 ∷ []) ∷ (Ok (walked.Leaves 1 0), 1 ∷ 0 ∷ 0 ∷ []) ∷ (Ok walked.Closed, 1 ∷ 0 ∷ 1 ∷ []) ∷ (Ok walked.Closed, 1 ∷ 0 ∷ 1 ∷ []) ∷ []
unfolding walks files branch bad opcodes opcode typed types padded four fours layout check_table whole_records within first_from name_ok opcode_fields flow_fits type_code size_fits size_good
    name_fits is_named type_names ranges range_of layout_of decode_at head_at first_marked read_parts parts_from width is_list kinds kind_of of_kind interpret le_at modulo wrap32
    signed flow_kind flow_of is_return pool_elem operand_of index_of number_of distance_by jump_target jump_table table_by sized_by walk_lent_with walk_source list_from
    switch_check walk_graph steps_at instr_steps entries_steps handler_among check_handlers finding first_exit level after exits is_start mark_list marked reached bits
by_bytes = refl

-- 26 at record 12, for each byte; 3 before it in the same record
pub rows_in_order : walks "Stop" (6 ∷ []) branch [] ∷ walks "Stop" (0 ∷ 2 ∷ []) branch [] ∷ walks "Stop" (0 ∷ 0 ∷ 8 ∷ []) branch [] ∷ walks "Stop" (0 ∷ 0 ∷ 0 ∷ 2 ∷ []) branch [] ∷ walks "Stop" (6 ∷ 0 ∷ 0 ∷ 0 ∷ 1 ∷ []) branch [] ∷ []
    ≡ (Err (refusal_at fault.BadFlow 12), 7 ∷ 7 ∷ 7 ∷ []) ∷ (Err (refusal_at fault.BadFlow 12), 7 ∷ 7 ∷ 7 ∷ []) ∷ (Err (refusal_at fault.BadFlow 12), 7 ∷ 7 ∷ 7 ∷ []) ∷ (Err (refusal_at fault.BadFlow 12), 7 ∷ 7 ∷ 7 ∷ [])
    ∷ (Err (refusal_at fault.BadOpcode 12), 7 ∷ 7 ∷ 7 ∷ []) ∷ []
unfolding walks files branch bad opcodes opcode typed types padded four fours layout check_table whole_records within first_from name_ok opcode_fields flow_fits type_code size_fits size_good
    name_fits is_named type_names ranges range_of layout_of decode_at head_at first_marked read_parts parts_from width is_list kinds kind_of of_kind interpret le_at modulo wrap32
    signed flow_kind flow_of is_return pool_elem operand_of index_of number_of distance_by jump_target jump_table table_by sized_by walk_lent_with walk_source list_from
    switch_check walk_graph steps_at instr_steps entries_steps handler_among check_handlers finding first_exit level after exits is_start mark_list marked reached bits
rows_in_order = refl
