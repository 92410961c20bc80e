-- What a reader at a record answers, in 01's numbers: the slot's index and the fields of its value; or the end, at that record.
use Rattle.std.specs.Prelude.{ℕ, ◌∷◌, pos}
use Rattle.refusal.specs.Numbers.{Numbers, finds, end_at}
use Rattle.store.specs.Numbers.{value_fields}
use Rattle.std.specs.Prelude.{Option, Some, None}
use Rattle.store.specs.declared.Slot.{Slot}

abbrev pub read_numbers : ℕ → Option Slot → Numbers
read_numbers at (Some slot) = finds (pos slot.index ∷ value_fields slot.value)
read_numbers at None = end_at at
