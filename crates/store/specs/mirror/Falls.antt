-- Laws `level`, `fall_far`, `fall_behind` (proofs/Falls.antt, Parts.antt): by it `falls_in` is found. No contract of a call cites it.
-- What the search for falls writes down.
use Rattle.std.specs.Prelude.{ℕ, ◌-◌, ◌*◌, ◌<◌, ◌≤◌, ◌≡◌, Bool, List, ltb, length, get_or}
use Rattle.laws.specs.Scan.{first_from}
use Rattle.store.specs.Records.{slot_of}

-- the index of slot k is lower than that of the slot before it
unfoldable pub lower : List ℕ → ℕ → Bool
lower s k = ltb (slot_of s k).index (slot_of s (k - 1)).index

-- for each part of 256 slots behind the first: the first slot from its start on, below end, with a lower index than the one before it, or end
pub record Later (s : List ℕ) (end : ℕ) (later : List ℕ) : Type 0 where
  pub room : end ≤ length later * 256
  pub at : (b : ℕ) → 0 < b → b * 256 < end → get_or later b 0 ≡ first_from (lower s) (b * 256) (end - b * 256)
