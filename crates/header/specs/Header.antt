-- The header of a BytecodeArray: the Rust's `render_sfi`, up to the code. A header is read by two functions: `raw off len` says where in
-- the payload the len bytes from byte off of the object on are (raw_at), and `rt off` where byte off of the capture is at run time
-- (bca_rt_off).
use Rattle.std.specs.Prelude.{ℕ, ◌/◌, ◌%◌, ◌^◌, Bool, false, cond, List, leb, ℤ, pos, negsuc, nat_abs}
use Rattle.std.specs.Int.Signed.{quot_z}
use Rattle.std.specs.Int.{w32}
use mir.Val.{to_z}
use Rattle.words.specs.Le.{le_at}
use Rattle.refusal.specs.Check.{refusal_at}
use Rattle.store.specs.declared.Object.{Object}
use Rattle.std.specs.Prelude.{Option, Some, None, Result, Ok, Err}
use Rattle.refusal.specs.Refusal.{Refusal}
use Rattle.refusal.specs.declared.Fault.TheVariants as fault
use Rattle.serializer.specs.declared.Span.{Span}
use Rattle.serializer.specs.Field.{raw_at}
use Rattle.serializer.specs.Length.{smi_field}
use Rattle.serializer.specs.Offset.{rt_off}
use Rattle.layout.specs.declared.Layout.{Layout}
use Rattle.header.specs.declared.Header.{Header}

-- 01: absent values take "the tagged size for 6 (not passed through `bca_rt_off`)"
abbrev pub length_off : (ℕ → ℕ) → ℕ → Option ℕ → ℕ
length_off rt ts (Some off) = rt off
length_off rt ts None = ts

-- a length that is no small integer is 0
abbrev pub or_zero : Option ℤ → ℤ
or_zero (Some v) = v
or_zero None = pos 0

-- the length field; one that is not found is 0
abbrev pub length_by : List ℕ → (ℕ → ℕ → Option ℕ) → (ℕ → ℕ) → Layout → ℤ
length_by payload raw rt l = or_zero (smi_field payload l.tagged_size (raw (length_off rt l.tagged_size l.length) l.tagged_size))

-- 9: "code length field negative or above 65,536"
abbrev pub length_ok : ℤ → Bool
length_ok (pos n) = leb n 65536
length_ok (negsuc n) = false

-- where the w bytes of a field are; an absent field is not found
abbrev pub field_by : (ℕ → ℕ → Option ℕ) → (ℕ → ℕ) → Option ℕ → ℕ → Option ℕ
field_by raw rt (Some off) w = raw (rt off) w
field_by raw rt None w = None

-- the number in the w bytes of a field; 0 where it is not found
abbrev pub number_at : List ℕ → ℕ → Option ℕ → ℕ
number_at payload w (Some a) = le_at payload a w
number_at payload w None = 0

-- 01: "Parameter count is the size's low 16 bits if direct, else size divided by 8 toward zero"
abbrev pub param_count : Bool → ℕ → ℤ
param_count direct size = cond direct (pos (size % 2 ^ 16)) (quot_z (to_z w32 size) (pos 8))

-- 01: "Length positive but not found in any run means empty code with that length printed"
abbrev pub code_span : Option ℕ → ℕ → Span
code_span (Some a) n = record { at = a; len = n }
code_span None n = record { at = 0; len = 0 }

-- the header of code of length n. V8: register_count is frame_size / kSystemPointerSize.
unfoldable pub header_with : List ℕ → (ℕ → ℕ → Option ℕ) → (ℕ → ℕ) → Layout → ℕ → Header
header_with payload raw rt l n = record {
  length = n;
  parameter_count = param_count l.direct (number_at payload 4 (field_by raw rt l.parameter_size 4));
  register_count = number_at payload 4 (field_by raw rt l.frame_size 4) / 8;
  frame_size = number_at payload 4 (field_by raw rt l.frame_size 4);
  osr = number_at payload 1 (field_by raw rt l.osr 1);
  age = number_at payload 1 (field_by raw rt l.age 1);
  code_at = (code_span (raw (rt l.header_size) n) n).at;
  code_len = (code_span (raw (rt l.header_size) n) n).len;
}

unfoldable pub header_by : List ℕ → (ℕ → ℕ → Option ℕ) → (ℕ → ℕ) → Layout → Result Header Refusal
header_by payload raw rt l =
    let z = length_by payload raw rt l in
    cond (length_ok z) (Ok (header_with payload raw rt l (nat_abs z))) (Err (refusal_at fault.BadLength 0))

-- bca_rt_off for an object's slots s and a layout
abbrev pub rt_for : List ℕ → Object → Layout → ℕ → ℕ
rt_for s o l = rt_off s o.first o.count l.tagged_size l.unit

abbrev pub header_of : List ℕ → List ℕ → Object → Layout → Result Header Refusal
header_of s payload o l = header_by payload (raw_at s o.first o.count l.tagged_size) (rt_for s o l) l
