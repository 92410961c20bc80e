-- The answers of the calls in 01's numbers.
use Rattle.std.specs.Prelude.{ℤ, ℕ, [], ◌∷◌, pos}
use Rattle.refusal.specs.Numbers.{Numbers, refusal_numbers, answered, finds, finds_nothing}
use Rattle.store.specs.Numbers.{value_fields}
use Rattle.std.specs.Prelude.{Option, Some, None, Result, Ok, Err}
use Rattle.refusal.specs.Refusal.{Refusal}
use Rattle.store.specs.declared.SlotValue.{SlotValue}
use Rattle.serializer.specs.declared.Elem.{Elem}
use Rattle.serializer.specs.declared.Elem.TheVariants as elem

abbrev pub smi_numbers : Option ℤ → Numbers
smi_numbers (Some v) = finds (v ∷ [])
smi_numbers None = finds_nothing

-- the fields of the slot's record
abbrev pub slot_numbers : Result (Option SlotValue) Refusal → Numbers
slot_numbers (Ok (Some v)) = finds (value_fields v)
slot_numbers (Ok None) = finds_nothing
slot_numbers (Err r) = refusal_numbers r

-- where in the payload the field starts
abbrev pub raw_numbers : Result (Option ℕ) Refusal → Numbers
raw_numbers (Ok (Some a)) = finds (pos a ∷ [])
raw_numbers (Ok None) = finds_nothing
raw_numbers (Err r) = refusal_numbers r

abbrev pub len_numbers : Result ℕ Refusal → Numbers
len_numbers (Ok n) = answered (pos n ∷ [])
len_numbers (Err r) = refusal_numbers r

-- 0 and an object number; 1 a root; 2 another reference; 3 and a small integer; 4 and the payload offset and length of its bytes
abbrev pub element_numbers : Option Elem → Numbers
element_numbers (Some (elem.Object n)) = finds (pos 0 ∷ pos n ∷ [])
element_numbers (Some elem.Root) = finds (pos 1 ∷ [])
element_numbers (Some elem.OtherRef) = finds (pos 2 ∷ [])
element_numbers (Some (elem.Smi v)) = finds (pos 3 ∷ v ∷ [])
element_numbers (Some (elem.Bytes b)) = finds (pos 4 ∷ pos b.at ∷ pos b.len ∷ [])
element_numbers None = finds_nothing

abbrev pub elem_numbers : Result (Option Elem) Refusal → Numbers
elem_numbers (Ok e) = element_numbers e
elem_numbers (Err r) = refusal_numbers r

abbrev pub off_numbers : Result ℕ Refusal → Numbers
off_numbers = len_numbers
