-- Laws `slot_searched_lem`, `raw_searched_lem`, `elem_searched_lem`, `len_searched_lem` (proofs/Searched.antt): on checked slots these are slot_at, raw_at, elem_at, array_len.
-- The binary search as the code makes it (proofs/Point.antt says what it finds among slots in order), and what is found from there downward.
use Rattle.std.specs.Prelude.{ℕ, zero, suc, ◌+◌, ◌-◌, ◌/◌, Bool, cond, List, eqb, ltb}
use Rattle.store.specs.Records.{slot_of}
use Rattle.store.specs.declared.Object.{Object}
use Rattle.serializer.specs.Field.{raw_from}
use Rattle.serializer.specs.Element.{elem_from}
use Rattle.serializer.specs.Length.{length_by}
use Rattle.std.specs.Prelude.{Option, Some, None}
use Rattle.store.specs.declared.SlotValue.{SlotValue}
use Rattle.serializer.specs.declared.Elem.{Elem}

-- halving from lo to hi, at most fuel times
unfoldable pub cut : (ℕ → Bool) → ℕ → ℕ → ℕ → ℕ
cut low zero lo hi = lo
cut low (suc fuel) lo hi =
    let mid = lo + (hi - lo) / 2 in
    let up = cut low fuel (mid + 1) hi in
    let down = cut low fuel lo mid in
    cond (ltb lo hi) (cond (low mid) up down) lo

-- slot i of the slots from number first on has an index below the one given
abbrev pub low_slot : List ℕ → ℕ → ℕ → ℕ → Bool
low_slot s first below i = ltb (slot_of s (first + i)).index below

-- the Rust: partition_point
unfoldable pub point_at : List ℕ → ℕ → ℕ → ℕ → ℕ
point_at s first count below = cut (low_slot s first below) count 0 count

-- the slot at the point, where it has the index
abbrev pub slot_here : List ℕ → ℕ → ℕ → ℕ → ℕ → Option SlotValue
slot_here s first count index i = cond (ltb i count) (cond (eqb (slot_of s (first + i)).index index) (Some (slot_of s (first + i)).value) None) None

unfoldable pub slot_searched : List ℕ → ℕ → ℕ → ℕ → Option SlotValue
slot_searched s first count index = slot_here s first count index (point_at s first count index)

-- the walk from the point
unfoldable pub raw_searched : List ℕ → ℕ → ℕ → ℕ → ℕ → ℕ → Option ℕ
raw_searched s first count ts off len = raw_from s first ts off len (point_at s first count (off / ts + 1))

unfoldable pub elem_searched : List ℕ → List ℕ → ℕ → ℕ → ℕ → ℕ → Option Elem
elem_searched s payload first count ts n = elem_from s payload first ts n (point_at s first count (n + 2 + 1))

unfoldable pub len_searched : List ℕ → List ℕ → Object → ℕ → ℕ
len_searched s payload o ts = length_by payload o ts (raw_searched s o.first o.count ts ts 4) (raw_searched s o.first o.count ts ts ts)
