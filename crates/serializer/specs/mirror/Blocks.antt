-- Law `block_passed` (proofs/Windows.antt): a walk that seeks an element goes on below a block whose window holds the index sought. No contract of a call cites it.
-- What is known of slots and blocks of slots that a walk downward passes.
use Rattle.std.specs.Prelude.{ℕ, ◌+◌, ◌*◌, ◌/◌, ◌<◌, ◌≤◌, min, List, get_or}
use Rattle.store.specs.Records.{slot_of}
use Rattle.store.specs.declared.SlotValue.{SlotValue}
use Rattle.store.specs.declared.SlotValue.TheVariants as value
use Rattle.store.specs.declared.Slot.{Slot}

-- how many elements a slot's value is, from the slot's index on
abbrev pub held : SlotValue → ℕ → ℕ
held value.Other ts = 0
held (value.Object n) ts = 1
held value.Root ts = 1
held value.OtherRef ts = 1
held (value.Raw run) ts = run.len / ts
held (value.Repeat rep) ts = rep.count

-- the slot is not the element at the index sought, and the walk does not stop there
pub record Passed (ts want : ℕ) (slot : Slot) : Type 0 where
  pub ended : slot.index + held slot.value ts ≤ want
  pub near : want ≤ slot.index + 4

-- a walk for an index from `from` on, below `to`, passes slots lo to hi - 1
abbrev pub WindowOf : List ℕ → ℕ → ℕ → ℕ → ℕ → ℕ → ℕ → Type 0
WindowOf s first ts lo hi from to = (k want : ℕ) → lo ≤ k → k < hi → from ≤ want → want < to → Passed ts want (slot_of s (first + k))

-- an index lies in the window of block b, whose entries are 2b and 2b + 1; without entries none does
abbrev pub InWindow : List ℕ → ℕ → ℕ → Type 0
InWindow blocks b want = (get_or blocks (b * 2) 0 ≤ want) × (want < get_or blocks (b * 2 + 1) 0)

-- each block's entries are a window of it. A block has 512 slots or, at the end, what is left
pub record Blocked (s : List ℕ) (first count ts : ℕ) (blocks : List ℕ) : Type 0 where
  pub windows : (b : ℕ) → WindowOf s first ts (b * 512) (min (b * 512 + 512) count) (get_or blocks (b * 2) 0) (get_or blocks (b * 2 + 1) 0)
