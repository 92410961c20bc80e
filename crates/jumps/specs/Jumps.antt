-- The target of a jump, and the table of a switch and its entries, at a place of lent code, as calls of 01: the checks for what they are
-- lent, in 01's order, then the instruction at the place. They are lent no name files: those of `Files` are empty.
use Rattle.std.specs.Prelude.{ℕ, Bool, cond, List, ltb, Option, Some, None, Result, Ok, Err}
use Rattle.refusal.specs.Refusal.{Refusal}
use Rattle.refusal.specs.Check.{refusal_at, guarded}
use Rattle.targets.specs.declared.Case.{Case}
use Rattle.refusal.specs.declared.Fault.TheVariants as fault
use Rattle.serializer.specs.declared.Elem.{Elem}
use Rattle.decoder.specs.Decode.{Decoded, instr_in}
use Rattle.flow.specs.Opcodes.{Opcodes, opcodes_of}
use Rattle.targets.specs.declared.Entries.{Entries}
use Rattle.targets.specs.Targets.{found, here, jump_target, jump_table, entry_at}
use Rattle.function.specs.Files.{Files, check_lent}
use Rattle.function.specs.Pool.{lent_pool, lent_elem}
use Rattle.function.specs.Code.{decoded_at}
use Rattle.jumps.specs.declared.Entry.{Entry}
use Rattle.jumps.specs.declared.Entry.TheVariants.{Shown, Skipped, Beyond}
use Rattle.targets.specs.declared.BadSwitch.{BadSwitch}

-- what is asked of the instruction at a place: None at the code's end, Some None where the instruction has no target or table
abbrev pub Asked : Type 0 → Type 0
Asked A = Result (Option (Option A)) Refusal

-- the target of what was decoded, for the elements of a pool
unfoldable pub target_of : Opcodes → (ℕ → Option Elem) → Decoded → Asked ℕ
target_of ops el (Ok (Some i)) = Ok (Some (jump_target el (ops.flow i.opcode) i))
target_of ops el (Ok None) = Ok None
target_of ops el (Err r) = Err r

-- 01's `jump_target`
unfoldable pub target_call : Files → Option ℕ → List ℕ → ℕ → Asked ℕ
target_call f w code at = guarded (check_lent f w code) Err (target_of (opcodes_of f.opcodes) (lent_elem f w) (decoded_at f code at))

-- 16: "entry count below 0 or above 4,096"; its place is the instruction's start
abbrev pub table_told : Result (Option Entries) BadSwitch → ℕ → Asked Entries
table_told (Ok e) at = Ok (Some e)
table_told (Err e) at = Err (refusal_at fault.BadSwitch at)

-- the table of what was decoded at a place, by whether a pool is found
unfoldable pub table_of : Opcodes → Bool → Decoded → ℕ → Asked Entries
table_of ops pooled (Ok (Some i)) at = table_told (jump_table pooled (ops.flow i.opcode) i) at
table_of ops pooled (Ok None) at = Ok None
table_of ops pooled (Err r) at = Err r

-- 01's `jump_table`
unfoldable pub table_call : Files → Option ℕ → List ℕ → ℕ → Asked Entries
table_call f w code at = guarded (check_lent f w code) Err (table_of (opcodes_of f.opcodes) (found (lent_pool f w)) (decoded_at f code at) at)

-- "Elements that are no small integer are skipped."
abbrev pub entry_told : Option Case → Entry
entry_told (Some c) = Shown c
entry_told None = Skipped

-- the table's entries are those below its count; their distances count from a place
abbrev pub entry_in : (ℕ → Option Elem) → ℕ → Entries → ℕ → Entry
entry_in el from e k = cond (ltb k e.count) (entry_told (entry_at el from e k)) Beyond

-- entry k, by the answer that `jump_table` gives
abbrev pub entry_of : (ℕ → Option Elem) → ℕ → Asked Entries → ℕ → Asked Entry
entry_of el from (Ok (Some (Some e))) k = Ok (Some (Some (entry_in el from e k)))
entry_of el from (Ok (Some None)) k = Ok (Some None)
entry_of el from (Ok None) k = Ok None
entry_of el from (Err r) k = Err r

-- entry k of 01's `jump_table`: "`{ 5: @4 }`" shows case 5 and target 4
unfoldable pub entry_call : Files → Option ℕ → List ℕ → ℕ → ℕ → Asked Entry
entry_call f w code at k = entry_of (lent_elem f w) (here (instr_in (decoded_at f code at))) (table_call f w code at) k
