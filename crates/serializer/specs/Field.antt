-- Fields in raw runs. The Rust: raw_at.
use Rattle.std.specs.Prelude.{ℕ, ◌+◌, ◌-◌, ◌*◌, ◌/◌, Bool, cond, ◌&&◌, List, ltb, leb}
use Rattle.store.specs.declared.Run.{Run}
use Rattle.store.specs.declared.SlotValue.{SlotValue}
use Rattle.store.specs.declared.SlotValue.TheVariants as value
use Rattle.store.specs.declared.Slot.{Slot}
use Rattle.serializer.specs.Down.{walk_down}
use Rattle.std.specs.Prelude.{Option, Some, None}

-- a raw run at a slot holds the len bytes from byte off of the object on; slots are ts bytes apart
abbrev pub raw_run : Run → ℕ → ℕ → ℕ → ℕ → Option ℕ
raw_run run index ts off len =
    cond (leb (index * ts) off && leb (off + len) (index * ts + run.len)) (Some (run.off + (off - index * ts))) None

-- only a raw run holds a field
abbrev pub raw_value : SlotValue → ℕ → ℕ → ℕ → ℕ → Option ℕ
raw_value value.Other index ts off len = None
raw_value (value.Object n) index ts off len = None
raw_value value.Root index ts off len = None
raw_value value.OtherRef index ts off len = None
raw_value (value.Raw run) index ts off len = raw_run run index ts off len
raw_value (value.Repeat r) index ts off len = None

abbrev pub raw_or : Option ℕ → Option ℕ → Option ℕ
raw_or (Some a) below = Some a
raw_or None below = below

abbrev pub raw_look : ℕ → ℕ → ℕ → Slot → Option ℕ → Option ℕ
raw_look ts off len slot below = raw_or (raw_value slot.value slot.index ts off len) below

-- 01: "offset or length number above 4,294,967,295 finds nothing"; so does a tagged size of 0
abbrev pub raw_sought : ℕ → ℕ → ℕ → Bool
raw_sought ts off len = ltb 0 ts && (leb off 4294967295 && leb len 4294967295)

abbrev pub raw_from : List ℕ → ℕ → ℕ → ℕ → ℕ → ℕ → Option ℕ
raw_from s first ts off len k = cond (raw_sought ts off len) (walk_down (raw_look ts off len) None s first (off / ts) k) None

-- where in the payload the field starts, by the count slots from number first on
unfoldable pub raw_at : List ℕ → ℕ → ℕ → ℕ → ℕ → ℕ → Option ℕ
raw_at s first count ts off len = raw_from s first ts off len count
