-- A reader yields the slots one after the other, each whole record once. Assumes nothing.
use Prim.Native.Nat.{ℕ, suc, ◌+◌, ◌-◌, ◌<◌, ◌≤◌}
use mathlib.Core.Path.{◌≡◌, refl, ap}
use mathlib.Core.List.{List, [], ◌∷◌}
use native.Mathlib.Omega.{arith}
use native.Mathlib.Decide.{dec_le}
use borrow.Author.Tests.{lt-ltb, le-ltb}
use lib.ListN.{length}
use Rattle.std.specs.Prelude.{Option, Some, None, MatchOption, ⊤}
use Rattle.std.specs.Iterator.{YieldsFirst, item_count, MakesProgress}
use Rattle.std.proofs.lemmas.List.FromFn.{length-map-range_with_len}
use Rattle.store.specs.Records.{slot_of, slot_count}
use Rattle.store.specs.declared.Slot.{Slot}
use Rattle.reader.specs.Reading.{read_at, next_at, slots_from}
use Rattle.reader.specs.Numbers.{read_numbers}
use Rattle.reader.proofs.Numbers.{read_numbers_one}

pub slots_left : (s : List ℕ) (at : ℕ) → length (slots_from s at) ≡ slot_count s - at
unfolding slots_from
slots_left s at = length-map-range_with_len (slot_of s) at (slot_count s - at)

-- the slot at the cursor, and those behind it; or the end
pub slots_yield : (s : List ℕ) (at t : ℕ) (r : Option Slot) → read_numbers at r ≡ read_numbers at (read_at s at) → t ≡ next_at s at
    → MatchOption r ((slots_from s at ≡ []) × (slots_from s t ≡ [])) (λ x. slots_from s at ≡ x ∷ slots_from s t)
unfolding read_at next_at slots_from
slots_yield s at t r e f = rw (read_numbers_one at r (read_at s at) e, f) (go (dec_le (slot_count s) at))
  where
    go : Dec (slot_count s ≤ at) → MatchOption (read_at s at) ((slots_from s at ≡ []) × (slots_from s (next_at s at) ≡ [])) (λ x. slots_from s at ≡ x ∷ slots_from s (next_at s at))
    go (yes l) = let n : slot_count s - at ≡ 0 = omega arith in rw (le-ltb _ _ l, n) (refl, refl)
    go (no m) =
        let l : at < slot_count s = omega arith in
        let n : slot_count s - at ≡ suc (slot_count s - (at + 1)) = omega arith in
        rw (lt-ltb _ _ l, n)

-- with each slot fewer are left
pub fewer_left : {S A : Type 0} (rest : S → List A) (s t : S) (r : Option A) → YieldsFirst rest s r t → MakesProgress (λ _. ⊤) (item_count rest) s r t
fewer_left rest s t (Some x) h = record { on = λ _. (tt, tt, omega (arith, ap length h)); keeps = tt; rests = λ _. tt }
fewer_left rest s t None h = record { on = λ _. tt; keeps = tt; rests = λ _. tt }
