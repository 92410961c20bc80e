-- The numbers of what was read say all of it. Assumes nothing.
use Prim.Native.Nat.{ℕ}
use mathlib.Core.Path.{◌≡◌, refl, ap}
use mathlib.Core.List.{List, [], ◌∷◌}
use lib.IntN.{ℤ, nat_abs}
use Rattle.refusal.specs.Numbers.{Numbers}
use Rattle.refusal.proofs.Numbers.{one_by, found_or}
use Rattle.store.specs.declared.SlotValue.{SlotValue}
use Rattle.store.proofs.Numbers.{value_by, value_back}
use Rattle.reader.specs.Numbers.{read_numbers}
use Rattle.std.specs.Prelude.{Option, Some, None}
use Rattle.store.specs.declared.Slot.{Slot}

abbrev slot_by : List ℤ → Option Slot
slot_by [] = None
slot_by (index ∷ vs) = Some (record { index = nat_abs index; value = value_by vs })

abbrev read_of : Numbers → Option Slot
read_of n = found_or None slot_by n.values

read_back : (at : ℕ) (r : Option Slot) → read_of (read_numbers at r) ≡ r
read_back at (Some slot) = ap (λ (v : SlotValue). Some (record { index = slot.index; value = v })) (value_back slot.value)
read_back at None = refl

pub read_numbers_one : (at : ℕ) (a b : Option Slot) → read_numbers at a ≡ read_numbers at b → a ≡ b
read_numbers_one at = one_by (read_numbers at) read_of (read_back at)
