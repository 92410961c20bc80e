-- The layout. 01: "Layout, 80 bytes: twenty 4-byte values".
use Rattle.std.specs.Prelude.{ℕ, ◌*◌, ◌/◌, ◌%◌, List, [], ◌∷◌, Bool, true, cond, not, ◌||◌, leb, eqb, get_or, ℤ}
use Rattle.std.specs.Int.{w32}
use mir.Val.{to_z}
use Rattle.words.specs.Le.{le_at}
use Rattle.std.specs.Prelude.{Option, Some, None}
use Rattle.refusal.specs.Check.{Check}
use Rattle.refusal.specs.declared.Fault.TheVariants as fault
use Rattle.refusal.specs.Check.{first_bad}
use Rattle.layout.specs.declared.Frame.{Frame}
use Rattle.layout.specs.declared.Layout.{Layout}

abbrev pub layout_size : ℕ
layout_size = 80

-- value k
abbrev pub value : List ℕ → ℕ → ℕ
value l k = le_at l (4 * k) 4

abbrev pub signed_value : List ℕ → ℕ → ℤ
signed_value l k = to_z w32 (value l k)

-- the ranges of values
pub data Range : Type 0 where
  tagged unit small optional flag any zero : Range

abbrev pub in_range : Range → ℕ → Bool
in_range tagged v = eqb v 4 || eqb v 8
in_range unit v = eqb v 0 || (eqb v 4 || eqb v 8)
in_range small v = leb v 65535
in_range optional v = leb v 65535 || eqb v 4294967295
in_range flag v = leb v 1
in_range any v = true
in_range zero v = eqb v 0

-- 0 tagged size, 1 capture unit, 2 header size, 3 to 11 offsets that may be absent, 12 direct, 13 to 17 signed, 18 param_base present, 19 zero
unfoldable pub ranges : List Range
ranges =
    tagged ∷ unit ∷ small
    ∷ optional ∷ optional ∷ optional ∷ optional ∷ optional ∷ optional ∷ optional ∷ optional ∷ optional
    ∷ flag ∷ any ∷ any ∷ any ∷ any ∷ any ∷ flag ∷ zero ∷ []

unfoldable pub range_of : ℕ → Range
range_of k = get_or ranges k any

abbrev pub bad_value : List ℕ → ℕ → Bool
bad_value l k = not (in_range (range_of k) (value l k))

-- 01: "may be ffffffff, absent"
abbrev pub field_of : ℕ → Option ℕ
field_of v = cond (eqb v 4294967295) None (Some v)

-- The Rust's `slot_unit`: "0 means 8". A tagged size and a unit are bytes.
abbrev pub slot_unit : List ℕ → ℕ
slot_unit l = cond (eqb (value l 1 % 256) 0) 8 (value l 1 % 256)

-- "Absent values take the Rust's fallback: slots 2, 3 and 4 for values 3 to 5". The Rust's `bca_slot`.
abbrev pub slot_for : ℕ → ℕ → ℕ → ℕ
slot_for v u fallback = cond (eqb v 4294967295) fallback (v / u)

-- "10 is used where 9 is absent"
abbrev pub osr_field : ℕ → ℕ → Option ℕ
osr_field nine ten = cond (eqb nine 4294967295) (field_of ten) (Some nine)

abbrev pub param_base_of : ℕ → ℤ → Option ℤ
param_base_of present b = cond (eqb present 0) None (Some b)

abbrev pub frame_of : List ℕ → Frame
frame_of l = record {
  reg_file_start = signed_value l 13;
  context = signed_value l 14;
  closure = signed_value l 15;
  first_param = signed_value l 16;
  param_base = param_base_of (value l 18) (signed_value l 17);
}

unfoldable pub layout_of : List ℕ → Layout
layout_of l = record {
  tagged_size = value l 0 % 256;
  unit = slot_unit l;
  header_size = value l 2;
  pool_slot = slot_for (value l 3) (slot_unit l) 2;
  handler_slot = slot_for (value l 4) (slot_unit l) 3;
  source_slot = slot_for (value l 5) (slot_unit l) 4;
  length = field_of (value l 6);
  frame_size = field_of (value l 7);
  parameter_size = field_of (value l 8);
  osr = osr_field (value l 9) (value l 10);
  age = field_of (value l 11);
  direct = not (eqb (value l 12) 0);
  frame = frame_of l;
}

-- 5: "layout value outside its range"; its place is the value's number
abbrev pub check_layout : List ℕ → Check
check_layout layout = first_bad fault.BadLayout (bad_value layout) 20
