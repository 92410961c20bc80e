-- The files that a call on a function is lent, and their checks in 01's order.
use Rattle.std.specs.Prelude.{ℕ, List, []}
use Rattle.std.specs.Prelude.{Option, Some, None, Ok}
use Rattle.refusal.specs.Check.{Check}
use Rattle.refusal.specs.Check.{first_refusal}
use Rattle.store.specs.Check.{check_store, check_object, check_code_object}
use Rattle.tables.specs.Check.{check_table}
use Rattle.bytecode.specs.Decode.{check_code}

-- the record files, in 01's order
pub record Files : Type 0 where
  pub opcodes : List ℕ
  pub types : List ℕ
  pub runtime : List ℕ
  pub intrinsic : List ℕ
  pub layout : List ℕ
  pub objects : List ℕ
  pub slots : List ℕ
  pub payload : List ℕ

abbrev pub files_of : List ℕ → List ℕ → List ℕ → List ℕ → List ℕ → List ℕ → List ℕ → List ℕ → Files
files_of opcodes types runtime intrinsic layout objects slots payload = record {
  opcodes = opcodes;
  types = types;
  runtime = runtime;
  intrinsic = intrinsic;
  layout = layout;
  objects = objects;
  slots = slots;
  payload = payload;
}

-- of lent code, which is lent no name files
abbrev pub lent_files : List ℕ → List ℕ → List ℕ → List ℕ → List ℕ → List ℕ → Files
lent_files opcodes types layout objects slots payload = files_of opcodes types [] [] layout objects slots payload

-- rows 1 to 8, in 01's order
abbrev pub check_files : Files → ℕ → Check
check_files f object =
    first_refusal (check_table f.opcodes f.types f.runtime f.intrinsic f.layout)
    (first_refusal (check_store f.objects f.slots f.payload) (check_code_object f.objects object))

-- "Each call makes only the checks for what it is lent": rows 6 to 8 where an object is. It must be there; no header is wanted of it.
abbrev pub check_pool_object : List ℕ → List ℕ → List ℕ → Option ℕ → Check
check_pool_object objects slots payload None = Ok tt
check_pool_object objects slots payload (Some n) = first_refusal (check_store objects slots payload) (check_object objects n)

-- rows 1 to 8 and 10, in 01's order
abbrev pub check_lent : Files → Option ℕ → List ℕ → Check
check_lent f w code =
    first_refusal (check_table f.opcodes f.types f.runtime f.intrinsic f.layout)
    (first_refusal (check_pool_object f.objects f.slots f.payload w) (check_code code))
