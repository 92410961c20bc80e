-- 01's sample object, and objects that differ from it in one point, by computing. Assumes nothing.
use Prim.Native.Nat.{ℕ, ◌-◌, ◌/◌, ◌%◌, ◌^◌}
use mathlib.Core.Path.{◌≡◌, refl}
use mathlib.Core.Bool.{Bool, true, false}
use mathlib.Core.List.{List, [], ◌∷◌, ◌++◌, map}
use lib.IntN.{ℤ, pos, negsuc}
use lib.ListN.{replicate}
use Rattle.laws.specs.Scan.{first_from, within}
use Rattle.words.specs.Le.{le_at}
use Rattle.words.specs.Signed.{modulo}
use Rattle.refusal.specs.Check.{refusal_at}
use Rattle.refusal.specs.Numbers.{Numbers, refusal_numbers, answered, finds, finds_nothing}
use Rattle.store.specs.Records.{slot_of, object_of}
use Rattle.store.specs.Check.{sizes_ok, object_ok, fields_ok, value_ok, slot_ok, falls_in, falls, check_store}
use Rattle.serializer.specs.Down.{down}
use Rattle.serializer.specs.Smi.{smi_bytes}
use Rattle.serializer.specs.Field.{raw_at}
use Rattle.serializer.specs.Offset.{rt_off}
use Rattle.layout.specs.Layout.{ranges, range_of, layout_of}
use Rattle.tables.specs.Check.{whole_records, check_layout_file}
use Rattle.header.specs.Header.{header_with, header_by}
use Rattle.header.specs.Slots.{smi_by, field_num}
use Rattle.header.specs.Calls.{header_call, smi_call, num_call}
use Rattle.header.specs.Numbers.{header_numbers, smi_slot_numbers, num_field_numbers}
use Rattle.std.specs.Prelude.{Result, Ok}
use Rattle.refusal.specs.Refusal.{Refusal}
use Rattle.header.specs.declared.Header.{Header}
use Rattle.refusal.specs.declared.Fault.{Fault}
use Rattle.refusal.specs.declared.Fault.TheVariants as fault

-- a number in four bytes, and one below 0
abbrev four : ℕ → List ℕ
four v = v % 256 ∷ v / 256 % 256 ∷ v / 65536 % 256 ∷ v / 16777216 ∷ []

abbrev minus : ℕ → ℕ
minus n = 2 ^ 32 - n

-- 01's object record, of a kind, and its slot
abbrev object : ℕ → List ℕ
object kind = four kind ++ four 0 ++ four 1 ++ four 0

abbrev slot : List ℕ
slot = four 1 ++ four 4 ++ four 0 ++ four 51 ++ four 0 ++ four 0

-- 01's payload, with other first bytes and another parameter size
abbrev payload : List ℕ → ℕ → List ℕ
payload start size = start ++ replicate 24 0 ++ four 8 ++ four size ++ replicate 6 0 ++ (0x03 ∷ 0x05 ∷ 0x04 ∷ 0xfa ∷ 0x0b ∷ [])

abbrev absent : List ℕ
absent = four 0xffffffff

-- 01's layout, with another tagged size and direct
abbrev layout : ℕ → ℕ → List ℕ
layout ts direct =
    four ts ++ four 0 ++ four 54 ++ four 16 ++ four 24 ++ four 32 ++ absent ++ four 40 ++ four 44 ++ absent ++ absent ++ four 53 ++ four direct
    ++ four (minus 6) ++ four (minus 5) ++ four (minus 4) ++ four (minus 8) ++ four 0 ++ four 0 ++ four 0

abbrev length : ℕ → List ℕ
length n = four 0 ++ four n

abbrev header : ℕ → ℕ → List ℕ → ℕ → Result Header Refusal
header ts direct start size = header_call (object 1) slot (payload start size) (layout ts direct) 0

-- 01's sample
pub sample : header 8 0 (length 5) 8 ≡ Ok (record {
  length = 5;
  parameter_count = pos 1;
  register_count = 1;
  frame_size = 8;
  osr = 0;
  age = 0;
  code_at = 46;
  code_len = 5;
})
unfolding header_call header_by header_with layout_of check_layout_file whole_records within ranges range_of check_store sizes_ok object_ok fields_ok value_ok slot_ok falls_in falls first_from le_at slot_of object_of raw_at down smi_bytes rt_off
sample = refl

-- a header with one register and a frame of 8 bytes: its length, its parameters, its code
abbrev of : ℕ → ℤ → ℕ → ℕ → Numbers
of length parameters code-at code-len = answered (pos length ∷ parameters ∷ pos 1 ∷ pos 8 ∷ pos 0 ∷ pos 0 ∷ pos code-at ∷ pos code-len ∷ [])

abbrev refused : Fault → Numbers
refused f = refusal_numbers (refusal_at f 0)

abbrev headers : List (Result Header Refusal)
headers =
    -- parameter size -9: count -1; direct: its low 16 bits
    header 8 0 (length 5) (minus 9)
    ∷ header 8 1 (length 5) (minus 9)
    -- 4-byte tagged slots, captured in units of 8
    ∷ header 4 0 (four 10 ++ four 0) 8
    -- a length that the payload does not hold, one that is no small integer, one too long, one below 0
    ∷ header 8 0 (length 65536) 8
    ∷ header 8 0 (four 1 ++ four 5) 8
    ∷ header 8 0 (length 65537) 8
    ∷ header 8 0 (length (minus 1)) 8
    -- no BytecodeArray, no object
    ∷ header_call (object 0) slot (payload (length 5) 8) (layout 8 0) 0
    ∷ header_call (object 1) slot (payload (length 5) 8) (layout 8 0) 1
    -- no layout record; a tagged size whose low byte is 8; both before what is wrong with the store
    ∷ header_call (object 1) slot (payload (length 5) 8) [] 0
    ∷ header 264 0 (length 5) 8
    ∷ header_call (object 3) slot (payload (length 5) 8) [] 1
    ∷ header_call (object 3) slot (payload (length 5) 8) (layout 264 0) 1
    ∷ []

pub header_cases : map header_numbers headers ≡
    of 5 (negsuc 0) 46 5 ∷ of 5 (pos 65527) 46 5
    ∷ of 5 (pos 1) 46 5
    ∷ of 65536 (pos 1) 0 0 ∷ of 0 (pos 1) 46 0 ∷ refused fault.BadLength ∷ refused fault.BadLength
    ∷ refused fault.NoObject ∷ refused fault.NoObject
    ∷ refused fault.TableSize ∷ refused fault.BadLayout ∷ refused fault.TableSize ∷ refused fault.BadLayout ∷ []
unfolding header_call header_by header_with layout_of check_layout_file whole_records within ranges range_of check_store sizes_ok object_ok fields_ok value_ok slot_ok falls_in falls first_from le_at slot_of object_of raw_at down smi_bytes rt_off
header_cases = refl

abbrev smi : ℕ → ℕ → Numbers
smi ts n = smi_slot_numbers (smi_call (object 1) slot (payload (length 5) (minus 9)) ts 0 n)

abbrev num : ℕ → ℕ → Bool → Numbers
num ts n flag = num_field_numbers (num_call (object 1) slot (payload (length 5) (minus 9)) ts 0 n flag)

abbrev found : ℕ → Numbers
found n = finds (pos n ∷ [])

abbrev below : ℕ → Numbers
below n = finds (negsuc n ∷ [])

abbrev slots : List Numbers
slots =
    -- slot 1 is 0 and 5, slot 5 is 8 and -9
    smi 8 1 ∷ smi 8 5 ∷ num 8 1 false ∷ num 8 1 true ∷ num 8 5 false ∷ num 8 5 true
    -- the same in 4-byte slots 9 and 10
    ∷ smi 4 9 ∷ smi 4 10 ∷ num 4 10 false ∷ num 4 10 true
    -- another tagged size has no small integers
    ∷ smi 2 17 ∷ num 2 17 true
    -- a slot that no run holds, and one that is too high
    ∷ smi 8 0 ∷ num 8 0 false ∷ smi 8 (2 ^ 32) ∷ num 8 (2 ^ 32) true ∷ []

pub slot_cases : slots ≡
    found 5 ∷ below 8 ∷ found 5 ∷ found 5 ∷ found 8 ∷ found (minus 9)
    ∷ found 4 ∷ below 4 ∷ found (minus 9) ∷ found (minus 5)
    ∷ finds_nothing ∷ found 8
    ∷ finds_nothing ∷ finds_nothing ∷ finds_nothing ∷ finds_nothing ∷ []
unfolding smi_call num_call smi_by field_num check_store sizes_ok object_ok fields_ok value_ok slot_ok falls_in falls first_from le_at slot_of object_of raw_at down modulo
slot_cases = refl
