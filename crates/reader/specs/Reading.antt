-- What a slot reader finds, and where its cursor goes (01: "a small slot reader that keeps the lent slot bytes and a position").
use Rattle.std.specs.Prelude.{ℕ, ◌+◌, ◌-◌, cond, List, ltb, map}
use Rattle.std.specs.List.{range_with_len}
use Rattle.store.specs.Records.{slot_of, slot_count}
use Rattle.std.specs.Prelude.{Option, Some, None}
use Rattle.store.specs.declared.Slot.{Slot}

-- the slot at a record, where a whole record stands there
unfoldable pub read_at : List ℕ → ℕ → Option Slot
read_at s at = cond (ltb at (slot_count s)) (Some (slot_of s at)) None

-- the cursor behind the slot found; at the end it stays
unfoldable pub next_at : List ℕ → ℕ → ℕ
next_at s at = cond (ltb at (slot_count s)) (at + 1) at

-- the slots from a record on, to the end
unfoldable pub slots_from : List ℕ → ℕ → List Slot
slots_from s at = map (slot_of s) (range_with_len at (slot_count s - at))
