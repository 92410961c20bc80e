-- Which of our instructions are V8's jumps and switches (V8.antt), and what V8's targets are here. `v8_jump` and `v8_switch` of
-- proofs/V8.antt say that for such an instruction they are ours.
use Rattle.std.specs.Prelude.{◌≡◌, ℕ, zero, suc, ◌+◌, ◌^◌, ◌<◌, Bool, true, false, cond, List, [], ◌∷◌, ℤ, pos, negsuc, unsigned_abs}
use Rattle.decoder.specs.V8.{OperandType}
use Rattle.decoder.specs.V8.OperandType.{k_idx, k_u_imm, k_imm, k_reg}
use Rattle.flow.specs.Flow.{plain}
use Rattle.flow.specs.declared.Kind.TheVariants as kind
use Rattle.flow.specs.declared.Flow.{Flow}
use Rattle.std.specs.Prelude.{Option, Some, None}
use Rattle.targets.specs.declared.Case.{Case}
use Rattle.serializer.specs.declared.Elem.{Elem}
use Rattle.targets.specs.declared.Entries.{Entries}
use Rattle.targets.specs.Targets.{smi_of, entry_at}
use Rattle.targets.specs.V8.{Jump, Switch, ConstantPool, TargetOffset}
use Rattle.targets.specs.V8.Jump.{jump_loop, jump_immediate, jump_constant}
use Rattle.targets.specs.V8.Switch.{switch_on_generator_state, switch_on_smi_no_feedback}

-- our pool is V8's: small integers stand where Smis do
abbrev pub SamePool : (ℕ → Option Elem) → ConstantPool → Type 0
SamePool el pool = (n : ℕ) → smi_of (el n) ≡ cond (pool.is_smi n) (Some (pool.as_smi n)) None

-- the flow of a jump; the Bool says whether it is conditional
abbrev pub jump_flow : Jump → Bool → Flow
jump_flow jump_loop conditional = plain kind.JumpsBack false
jump_flow jump_immediate conditional = plain (cond conditional kind.Branches kind.Jumps) false
jump_flow jump_constant conditional = plain (cond conditional kind.Branches kind.Jumps) true

abbrev pub switch_flow : Switch → Flow
switch_flow switch_on_smi_no_feedback = record { kind = kind.Switch; pool = false; first = 0; base = true }
switch_flow switch_on_generator_state = record { kind = kind.Switch; pool = false; first = 1; base = false }

-- bytecodes.h: the first operands of jumps and switches
abbrev pub jump_types : Jump → List OperandType
jump_types jump_loop = k_u_imm ∷ []
jump_types jump_immediate = k_u_imm ∷ []
jump_types jump_constant = k_idx ∷ []

abbrev pub switch_types : Switch → List OperandType
switch_types switch_on_generator_state = k_reg ∷ k_idx ∷ k_u_imm ∷ []
switch_types switch_on_smi_no_feedback = k_idx ∷ k_u_imm ∷ k_imm ∷ []

-- V8's int holds an integer, and it is not below zero
abbrev pub Int : ℤ → Type 0
Int (pos n) = n < 2 ^ 31
Int (negsuc n) = n < 2 ^ 31

abbrev pub Offset : ℤ → Type 0
Offset (pos n) = n < 2 ^ 31
Offset (negsuc n) = ⊥

-- what a jump reads is held by V8's int: the distance of an operand, a Smi in the pool
abbrev pub Distance : (ℕ → OperandType → ℤ) → ConstantPool → Jump → Type 0
Distance operand pool jump_loop = Int (operand 0 k_u_imm)
Distance operand pool jump_immediate = Int (operand 0 k_u_imm)
Distance operand pool jump_constant = pool.is_smi (unsigned_abs (operand 0 k_idx)) ≡ true

-- table_start, table_size and case_value_base as our table
abbrev pub v8_table : (ℕ → OperandType → ℤ) → Switch → Entries
v8_table operand switch_on_generator_state = record { start = unsigned_abs (operand 1 k_idx); count = unsigned_abs (operand 2 k_u_imm); base = pos 0 }
v8_table operand switch_on_smi_no_feedback = record { start = unsigned_abs (operand 0 k_idx); count = unsigned_abs (operand 1 k_u_imm); base = operand 2 k_imm }

-- the case values and targets of a switch are held by V8's int, the targets not below zero
abbrev pub Held : List TargetOffset → Type 0
Held [] = Unit {0}
Held (o ∷ os) = Int o.case_value × Offset o.target_offset × Held os

-- V8's entries as ours
abbrev pub v8_entries : List TargetOffset → List (Option Case)
v8_entries [] = []
v8_entries (o ∷ os) = Some (record { case = o.case_value; target = unsigned_abs o.target_offset }) ∷ v8_entries os

-- the entries shown of entries k to k + n - 1, whose distances count from place at
abbrev pub shown_of : Option Case → List (Option Case) → List (Option Case)
shown_of (Some c) rest = Some c ∷ rest
shown_of None rest = rest

abbrev pub shown_entries : (ℕ → Option Elem) → ℕ → Entries → ℕ → ℕ → List (Option Case)
shown_entries el at e k zero = []
shown_entries el at e k (suc n) = shown_of (entry_at el at e k) (shown_entries el at e (k + 1) n)
