-- Names and type codes as the code tests them, many bytes at a time; `plain_name` and `codes_zeros` of proofs/Fields.antt tie them to
-- `name_ok` and `fields_ok`.
use Rattle.std.specs.Prelude.{◌≡◌, ℕ, ◌+◌, ◌-◌, ◌<◌, ◌≤◌, max, Bool, true, ◌&&◌, ◌||◌, List, ◌==◌, slice_index}
use Rattle.laws.specs.Scan.{first_from}
use Rattle.words.specs.Le.{le_at}
use Rattle.tables.specs.Names.{is_name}
use Rattle.tables.specs.Records.{no_type, zeros, fields_ok, flow_fits, size_as}
use Rattle.tables.specs.declared.Form.{Form}
use Rattle.tables.specs.declared.Form.TheVariants.{Old, New}

-- a byte that may stand before c in a field with a name: a character, or a zero before a zero
unfoldable pub is_fine : ℕ → ℕ → Bool
is_fine b c = is_name b || max b c == 0

-- the bytes from place from, below to, may each stand before the next
abbrev pub Fine : List ℕ → ℕ → ℕ → Type 0
Fine s from to = (k : ℕ) → from ≤ k → k < to → is_fine (slice_index s k) (slice_index s (k + 1)) ≡ true

-- of the eight codes at place at the first count are of the n types, and the others 0
unfoldable pub codes_fit : List ℕ → ℕ → ℕ → ℕ → Bool
codes_fit s at count n = first_from (no_type s n) at count == at + count && le_at s (at + count) (8 - count) == 0

-- an opcode record at place at by its form: how many of its bytes say something, whether these but for the flow are good and the others 0, and whether
-- its flow, if it has one, is one that there is. `fault_as` says the same form by form.
abbrev pub used_as : Form → ℕ
used_as Old = 50
used_as New = 54

abbrev pub record_fits : Form → List ℕ → ℕ → ℕ → Bool
record_fits form s at n = fields_ok s at n && zeros s (at + used_as form) (at + size_as form)

abbrev pub flow_as : Form → List ℕ → ℕ → Bool
flow_as Old s at = true
flow_as New s at = flow_fits s at
