-- Walks over an object's slots from the last downward.
use Rattle.std.specs.Prelude.{ℕ, zero, suc, ◌+◌, Bool, cond, List, ltb}
use Rattle.store.specs.Records.{slot_of}
use Rattle.store.specs.declared.Slot.{Slot}

-- What the k slots from number first on answer, the last of them first. `step slot below` is a slot's answer where those below it
-- answer `below`; no slot answers `none`.
unfoldable pub down : {A : Type 0} → (Slot → A → A) → A → List ℕ → ℕ → ℕ → A
down step none s first zero = none
down step none s first (suc k) = step (slot_of s (first + k)) (down step none s first k)

-- 01: "stop after one whose index plus 4 is below the index sought"
abbrev pub stops : ℕ → ℕ → Bool
stops index want = ltb (index + 4) want

-- a slot that is passed over answers what those below it do, unless the walk stops there
abbrev pub stopping : {A : Type 0} → (Slot → A → A) → A → ℕ → Slot → A → A
stopping look none want slot below = look slot (cond (stops slot.index want) none below)

-- 01: "walk slots downward and stop after one whose index plus 4 is below the index sought"
abbrev pub walk_down : {A : Type 0} → (Slot → A → A) → A → List ℕ → ℕ → ℕ → ℕ → A
walk_down look none s first want k = down (stopping look none want) none s first k
