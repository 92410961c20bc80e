-- Walks from the last slot downward. Assumes nothing.
use Prim.Native.Nat.{ℕ, zero, suc, ◌+◌, ◌-◌, ◌<◌, ◌≤◌}
use mathlib.Core.Path.{◌≡◌, ◌∙◌}
use mathlib.Core.List.{List}
use native.Mathlib.Omega.{arith}
use native.Mathlib.Nat.{not-suc-le-zero}
use native.Mathlib.Decide.{dec_le}
use borrow.Author.Tests.{le-ltb}
use Rattle.store.specs.Records.{slot_of}
use Rattle.store.specs.declared.Slot.{Slot}
use Rattle.serializer.specs.Down.{down, stopping}

module _ {A : Type 0} (step : Slot → A → A) (none : A) (s : List ℕ) (first : ℕ) where
  -- the slot before k, and those below it
  pub down_more : (k : ℕ) → 0 < k → down step none s first k ≡ step (slot_of s (first + (k - 1))) (down step none s first (k - 1))
  unfolding down
  down_more zero h = absurd (not-suc-le-zero h)
  down_more (suc k) h = let e : suc k - 1 ≡ k = omega arith in rw e

  -- no slot
  pub down_none : (k : ℕ) → k ≡ 0 → down step none s first k ≡ none
  unfolding down
  down_none k e = rw e

  -- slots that are passed over change nothing
  pub down_skip : (r count : ℕ) → r ≤ count → ((k : ℕ) → r ≤ k → k < count → (below : A) → step (slot_of s (first + k)) below ≡ below)
      → down step none s first count ≡ down step none s first r
  unfolding down
  down_skip r zero h over = let e : r ≡ 0 = omega arith in rw e
  down_skip r (suc k) h over = go (λ l. down_skip r k l (λ i a b. over i a (omega arith))) (dec_le r k)
    where
      go : (r ≤ k → down step none s first k ≡ down step none s first r) → Dec (r ≤ k) → down step none s first (suc k) ≡ down step none s first r
      go rest (yes l) = over k l (omega arith) (down step none s first k) ∙ rest l
      go rest (no n) = let e : r ≡ suc k = omega arith in rw e

-- a slot above the one sought does not stop the walk
pub above_next : {A : Type 0} (look : Slot → A → A) (none : A) (want : ℕ) (slot : Slot) → want < slot.index → ((below : A) → look slot below ≡ below)
    → (below : A) → stopping look none want slot below ≡ below
above_next look none want slot h over below = rw (le-ltb (slot.index + 4) want (omega arith)) (over below)
