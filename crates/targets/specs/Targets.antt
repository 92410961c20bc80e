-- Where an instruction goes: the Rust's `jump_target` and `jump_table`; V8: BytecodeArrayIterator::GetJumpTargetOffset, GetAbsoluteOffset,
-- GetJumpTableTargetOffsets. `elem` gives the elements of the constant pool.
use Rattle.std.specs.Prelude.{ℕ, ◌+◌, ◌%◌, ◌^◌, min, Bool, true, false, cond, List, ℤ, pos, negsuc, ◌+ℤ◌, ◌-ℤ◌, nat_le, nat_lt, slice_index_or, unsigned_abs}
use Rattle.words.specs.Signed.{modulo, wrap32}
use Rattle.operand.specs.declared.Operand.{Operand}
use Rattle.operand.specs.declared.Operand.TheVariants.{Reg, RegList, Imm, Idx, Flag8, Flag16, RuntimeId, IntrinsicId, Raw}
use Rattle.decoder.specs.declared.Instr.{Instr}
use Rattle.decoder.specs.Decode.{record_of}
use Rattle.flow.specs.declared.Kind.{Kind}
use Rattle.flow.specs.declared.Kind.TheVariants.{On, Ends, Jumps, Branches, JumpsBack, Switch}
use Rattle.flow.specs.declared.Flow.{Flow}
use Rattle.std.specs.Prelude.{Option, Some, None, Result, Ok, Err}
use Rattle.targets.specs.declared.PoolSlots.{PoolSlots}
use Rattle.targets.specs.declared.Case.{Case}
use Rattle.serializer.specs.declared.Elem.{Elem}
use Rattle.serializer.specs.declared.Elem.TheVariants as elem
use Rattle.serializer.specs.Element.{elem_at}
use Rattle.targets.specs.declared.Entries.{Entries}
use Rattle.targets.specs.declared.BadSwitch.{BadSwitch}

-- the pool's elements; without a pool there is none
unfoldable pub pool_elem : List ℕ → List ℕ → ℕ → Option PoolSlots → ℕ → Option Elem
pool_elem s payload ts (Some p) n = elem_at s payload p.first p.count ts n
pool_elem s payload ts None n = None

abbrev pub found : Option PoolSlots → Bool
found (Some p) = true
found None = false

-- operand k of an instruction
unfoldable pub operand_of : Instr → ℕ → Option Operand
operand_of i k = cond (nat_lt k (min i.count 8)) (slice_index_or i.operands k (record_of None)).operand None

-- 01: "It counts from the opcode byte behind any prefix."
abbrev pub here : Instr → ℕ
here i = (i.offset + cond (nat_lt 1 i.scale) 1 0) % 2 ^ 64

-- an index operand, and a number that an operand of the right kind holds
unfoldable pub index_of : Option Operand → Option ℕ
index_of (Some (Idx v)) = Some v
index_of (Some (Reg r)) = None
index_of (Some (RegList f n)) = None
index_of (Some (Imm v)) = None
index_of (Some (Flag8 v)) = None
index_of (Some (Flag16 v)) = None
index_of (Some (RuntimeId v)) = None
index_of (Some (IntrinsicId v)) = None
index_of (Some (Raw t v)) = None
index_of None = None

unfoldable pub number_of : Option Operand → Option ℤ
number_of (Some (Idx v)) = Some (pos v)
number_of (Some (Imm v)) = Some v
number_of (Some (Reg r)) = None
number_of (Some (RegList f n)) = None
number_of (Some (Flag8 v)) = None
number_of (Some (Flag16 v)) = None
number_of (Some (RuntimeId v)) = None
number_of (Some (IntrinsicId v)) = None
number_of (Some (Raw t v)) = None
number_of None = None

-- "that pool element, a small integer"
abbrev pub smi_of : Option Elem → Option ℤ
smi_of (Some (elem.Smi v)) = Some v
smi_of (Some (elem.Object n)) = None
smi_of (Some elem.Root) = None
smi_of (Some elem.OtherRef) = None
smi_of (Some (elem.Bytes s)) = None
smi_of None = None

abbrev pub elem_number : (ℕ → Option Elem) → Option ℕ → Option ℤ
elem_number el (Some v) = smi_of (el v)
elem_number el None = None

-- "distance is the first operand, or, where the plain name ends in Constant, that pool element"
unfoldable pub distance_by : (ℕ → Option Elem) → Bool → Option Operand → Option ℤ
distance_by el from-pool op = cond from-pool (elem_number el (index_of op)) (number_of op)

-- "The value is kept modulo 2^64"
abbrev pub target_from : ℕ → Option ℤ → Option ℕ
target_from at (Some d) = Some (modulo (2 ^ 64) (pos at +ℤ d))
target_from at None = None

-- "JumpLoop subtracts."
abbrev pub target_back : ℕ → Option ℤ → Option ℕ
target_back at (Some d) = Some (modulo (2 ^ 64) (pos at -ℤ d))
target_back at None = None

-- "Names outside the Rust's list .. mean no target."
abbrev pub target_by : Kind → ℕ → Option ℤ → Option ℕ
target_by On at d = None
target_by Ends at d = None
target_by Jumps at d = target_from at d
target_by Branches at d = target_from at d
target_by JumpsBack at d = target_back at d
target_by Switch at d = None

unfoldable pub jump_target : (ℕ → Option Elem) → Flow → Instr → Option ℕ
jump_target el flow i = target_by flow.kind (here i) (distance_by el flow.pool (operand_of i flow.first))

-- 16: "entry count below 0 or above 4,096"
abbrev pub count_ok : ℤ → Bool
count_ok (pos n) = nat_le n 4096
count_ok (negsuc n) = false

unfoldable pub sized_by : ℕ → ℤ → Option ℤ → Result (Option Entries) BadSwitch
sized_by start n None = Ok None
sized_by start n (Some b) = cond (count_ok n) (Ok (Some (record { start = start; count = unsigned_abs n; base = wrap32 b }))) (Err (record {}))

-- "pool found, operands of the right kinds"
unfoldable pub table_by : Bool → Option ℕ → Option ℤ → Option ℤ → Result (Option Entries) BadSwitch
table_by false start size base = Ok None
table_by true None size base = Ok None
table_by true (Some start) None base = Ok None
table_by true (Some start) (Some n) base = sized_by start n base

abbrev pub is_switch : Kind → Bool
is_switch On = false
is_switch Ends = false
is_switch Jumps = false
is_switch Branches = false
is_switch JumpsBack = false
is_switch Switch = true

abbrev pub base_of : Bool → Option Operand → Option ℤ
base_of based op = cond based (number_of op) (Some (pos 0))

-- Wish 1: "entries for both switch names under either prefix", so at every scale
unfoldable pub jump_table : Bool → Flow → Instr → Result (Option Entries) BadSwitch
jump_table pooled flow i =
    cond (is_switch flow.kind)
    (table_by pooled (index_of (operand_of i flow.first)) (number_of (operand_of i (flow.first + 1))) (base_of flow.base (operand_of i (flow.first + 2))))
    (Ok None)

-- "Elements that are no small integer are skipped", while the case number counts on
abbrev pub entry_by : Option ℤ → ℕ → Entries → ℕ → Option Case
entry_by (Some v) at e k = Some (record { case = (wrap32 (e.base +ℤ pos k)); target = (modulo (2 ^ 64) (pos at +ℤ v)) })
entry_by None at e k = None

unfoldable pub entry_at : (ℕ → Option Elem) → ℕ → Entries → ℕ → Option Case
entry_at el at e k = entry_by (smi_of (el (e.start + k))) at e k
