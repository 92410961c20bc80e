-- Law `good_ordered` (proofs/Good.antt): each object of a store that `check_store` passes has it. No contract of a call cites it.
use Rattle.std.specs.Prelude.{ℕ, ◌+◌, ◌<◌, ◌≤◌, List}
use Rattle.store.specs.Records.{slot_of}

-- the indices of the count slots from first on never fall
abbrev pub Ordered : List ℕ → ℕ → ℕ → Type 0
Ordered s first count = (i j : ℕ) → i ≤ j → j < count → (slot_of s (first + i)).index ≤ (slot_of s (first + j)).index
