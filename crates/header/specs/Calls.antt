-- The calls on a lent store o, s, p and an object number k: rows 6, 7 and 8 are checked, behind those of the layout where it is lent, then
-- the call answers.
use Rattle.std.specs.Prelude.{ℤ, ℕ, Bool, List}
use Rattle.std.specs.Prelude.{Option, Result, Ok, Err}
use Rattle.refusal.specs.Refusal.{Refusal}
use Rattle.refusal.specs.Check.{Check}
use Rattle.header.specs.declared.Header.{Header}
use Rattle.refusal.specs.Check.{first_refusal, guarded}
use Rattle.store.specs.Records.{object_of}
use Rattle.store.specs.Check.{check_store, check_code_object}
use Rattle.serializer.specs.Field.{raw_at}
use Rattle.serializer.specs.Calls.{check_at}
use Rattle.layout.specs.Layout.{layout_of}
use Rattle.tables.specs.Check.{check_layout_file}
use Rattle.header.specs.Header.{header_of}
use Rattle.header.specs.Slots.{smi_by, field_num}

-- 8 also where "header or code is wanted of one that is not a BytecodeArray"
abbrev pub check_code : List ℕ → List ℕ → List ℕ → ℕ → Check
check_code o s p k = first_refusal (check_store o s p) (check_code_object o k)

-- l is the layout file: "Rows are in the order of checking", 1 and 5 before 6 to 8
abbrev pub check_header : List ℕ → List ℕ → List ℕ → List ℕ → ℕ → Check
check_header o s p l k = first_refusal (check_layout_file l) (check_code o s p k)

-- row 9 is in header_of
unfoldable pub header_call : List ℕ → List ℕ → List ℕ → List ℕ → ℕ → Result Header Refusal
header_call o s p l k = guarded (check_header o s p l k) Err (header_of s p (object_of o k) (layout_of l))

-- the Rust: smi_slot
unfoldable pub smi_call : List ℕ → List ℕ → List ℕ → ℕ → ℕ → ℕ → Result (Option ℤ) Refusal
smi_call o s p ts k slot =
    guarded (check_at o s p k) Err (Ok (smi_by p (raw_at s (object_of o k).first (object_of o k).count ts) ts slot))

-- the Rust: num_field
unfoldable pub num_call : List ℕ → List ℕ → List ℕ → ℕ → ℕ → ℕ → Bool → Result (Option ℕ) Refusal
num_call o s p ts k slot flags =
    guarded (check_at o s p k) Err (Ok (field_num p (raw_at s (object_of o k).first (object_of o k).count ts) ts slot flags))
