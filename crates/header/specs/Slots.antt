-- Numbers in tagged slots, ts bytes apart: the Rust's `smi_slot` and `num_field`. `raw off len` says where in the payload the len bytes
-- from byte off of the object on are (raw_at).
use Rattle.std.specs.Prelude.{ℤ, ℕ, ◌*◌, ◌/◌, ◌^◌, Bool, true, false, cond, List, eqb, leb}
use Rattle.std.specs.Int.Signed.{shr_z}
use Rattle.std.specs.Int.{w32}
use mir.Val.{to_z}
use Rattle.words.specs.Le.{le_at}
use Rattle.words.specs.Signed.{modulo}
use Rattle.std.specs.Prelude.{Option, Some, None}

-- where the first len bytes of a slot are. 01: "A slot .. number above 4,294,967,295 finds nothing"
abbrev pub slot_by : (ℕ → ℕ → Option ℕ) → ℕ → ℕ → ℕ → Option ℕ
slot_by raw ts slot len = cond (leb slot 4294967295) (raw (slot * ts) len) None

-- Eight bytes: the high half. Four bytes: what is above bit 0. Neither the low half nor bit 0 is tested.
abbrev pub untested : List ℕ → ℕ → ℕ → Option ℤ
untested payload ts a =
    cond (eqb ts 8) (Some (to_z w32 (le_at payload a 8 / 2 ^ 32)))
    (cond (eqb ts 4) (Some (shr_z (to_z w32 (le_at payload a 4)) 2))
    None)

abbrev pub smi_raw : List ℕ → ℕ → Option ℕ → Option ℤ
smi_raw payload ts (Some a) = untested payload ts a
smi_raw payload ts None = None

-- the Rust: smi_slot
unfoldable pub smi_by : List ℕ → (ℕ → ℕ → Option ℕ) → ℕ → ℕ → Option ℤ
smi_by payload raw ts slot = smi_raw payload ts (slot_by raw ts slot ts)

abbrev pub plain_num : List ℕ → Option ℕ → Option ℕ
plain_num payload (Some a) = Some (le_at payload a 4)
plain_num payload None = None

-- `as u32`
abbrev pub smi_num : Option ℤ → Option ℕ
smi_num (Some v) = Some (modulo (2 ^ 32) v)
smi_num None = None

-- By the flag, the plain number and the small integer: with the flag the small integer comes first, else the plain number does unless
-- it is 0; where only one is found, that one.
abbrev pub num_by : Bool → Option ℕ → Option ℕ → Option ℕ
num_by true plain (Some s) = Some s
num_by true plain None = plain
num_by false (Some r) (Some s) = Some (cond (eqb r 0) s r)
num_by false (Some r) None = Some r
num_by false None tagged = tagged

-- the Rust: num_field
unfoldable pub field_num : List ℕ → (ℕ → ℕ → Option ℕ) → ℕ → ℕ → Bool → Option ℕ
field_num payload raw ts slot flags = num_by flags (plain_num payload (slot_by raw ts slot 4)) (smi_num (smi_by payload raw ts slot))
