-- The answers of the calls in 01's numbers.
use Rattle.std.specs.Prelude.{ℤ, ℕ, [], ◌∷◌, pos}
use Rattle.refusal.specs.Numbers.{Numbers, refusal_numbers, answered, finds, finds_nothing}
use Rattle.serializer.specs.Numbers.{smi_numbers}
use Rattle.std.specs.Prelude.{Option, Some, None, Result, Ok, Err}
use Rattle.refusal.specs.Refusal.{Refusal}
use Rattle.header.specs.declared.Header.{Header}

-- the lines of the listing in their order, then the code's place in the payload and its length
abbrev pub header_numbers : Result Header Refusal → Numbers
header_numbers (Ok h) =
    answered
    (pos h.length
    ∷ h.parameter_count
    ∷ pos h.register_count
    ∷ pos h.frame_size
    ∷ pos h.osr
    ∷ pos h.age
    ∷ pos h.code_at
    ∷ pos h.code_len
    ∷ [])
header_numbers (Err r) = refusal_numbers r

abbrev pub smi_slot_numbers : Result (Option ℤ) Refusal → Numbers
smi_slot_numbers (Ok v) = smi_numbers v
smi_slot_numbers (Err r) = refusal_numbers r

abbrev pub num_numbers : Option ℕ → Numbers
num_numbers (Some n) = finds (pos n ∷ [])
num_numbers None = finds_nothing

abbrev pub num_field_numbers : Result (Option ℕ) Refusal → Numbers
num_field_numbers (Ok n) = num_numbers n
num_field_numbers (Err r) = refusal_numbers r
