-- Windows of blocks of slots: what a walk passes changes nothing, and how a table of them is made. Assumes nothing.
use Prim.Native.Nat.{ℕ, zero, suc, ◌+◌, ◌-◌, ◌*◌, ◌/◌, ◌<◌, ◌≤◌, min}
use mathlib.Core.Path.{◌≡◌, refl, ap}
use mathlib.Core.Bool.{false}
use mathlib.Core.Logic.{⊎_elim}
use mathlib.Core.List.{List}
use native.Mathlib.Omega.{arith}
use native.Mathlib.Nat.{add-mul, mul-le-mul_right, div-lt_iff_lt-mul}
use borrow.Author.Tests.{le-ltb, le-leb, lt-leb, ne_eqb}
use lib.Dec.{eqb}
use lib.ListN.{length, get_or, set, length-set, replicate}
use lib.Seq.{get_or-set_same, get_or-set_other}
use Rattle.laws.proofs.Tests.{same?}
use Rattle.store.specs.Records.{slot_of}
use Rattle.store.specs.declared.Slot.{Slot}
use Rattle.store.specs.declared.SlotValue.{SlotValue}
use Rattle.serializer.specs.Down.{stopping, walk_down}
use Rattle.serializer.specs.Element.{elem_look}
use Rattle.serializer.specs.mirror.Blocks.{held, Passed, WindowOf, InWindow, Blocked}
use Rattle.std.specs.Prelude.{Option, None}
use Rattle.serializer.specs.declared.Elem.{Elem}
use Rattle.serializer.proofs.Down.{down_skip}
use Rattle.store.specs.declared.SlotValue.TheVariants as value

-- a run that ends at or below an index does not reach the element there
run_ended : (index len ts want : ℕ) → 0 < ts → index + len / ts ≤ want → index * ts + len < want * ts + ts
run_ended index len ts want pos h =
    let d = want - index in
    let l : len < (d + 1) * ts = (div-lt_iff_lt-mul pos).0 (omega arith) in
    let e : index + d ≡ want = omega arith in
    omega (arith, add-mul index d ts, add-mul d 1 ts, ap (λ x. x * ts) e)

-- a slot that is passed is not the element, and does not stop the walk
passed_next : (payload : List ℕ) (ts want : ℕ) (slot : Slot) → 0 < ts → Passed ts want slot → (below : Option Elem) → stopping (elem_look payload ts want) None want slot below ≡ below
passed_next payload ts want slot pos p below = rw (le-ltb (slot.index + 4) want p.near) (go slot.value p.ended)
  where
    i : ℕ
    i = slot.index

    other : i < want → eqb i want ≡ false
    other h = ne_eqb i want (λ e. omega arith)

    go : (v : SlotValue) → i + held v ts ≤ want → elem_look payload ts want (record { index = i; value = v }) below ≡ below
    go value.Other h = refl
    go (value.Object n) h = rw (other (omega arith))
    go value.Root h = rw (other (omega arith))
    go value.OtherRef h = rw (other (omega arith))
    go (value.Raw run) h = rw (le-leb (i * ts) (want * ts) (mul-le-mul_right ts (omega arith)), lt-leb (want * ts + ts) (i * ts + run.len) (run_ended i run.len ts want pos h))
    go (value.Repeat rep) h = rw (le-leb (i * ts) (want * ts) (mul-le-mul_right ts (omega arith)), le-ltb (want * ts) (i * ts + rep.count * ts) (omega (arith, add-mul i rep.count ts, mul-le-mul_right ts h)))

module _ (s : List ℕ) (first ts : ℕ) where
  -- a window that is no wider, and that fits one slot more
  pub window_more : (lo k from to from' to' : ℕ) → WindowOf s first ts lo k from to → from ≤ from' → to' ≤ to → ((want : ℕ) → from' ≤ want → want < to' → Passed ts want (slot_of s (first + k)))
      → WindowOf s first ts lo (k + 1) from' to'
  window_more lo k from to from' to' w p q here i want a b f t = ⊎_elim
      (λ (e : i ≡ k). rw e (here want f t))
      (λ (n : i ≡ k → ⊥). w i want a (omega arith) (omega arith) (omega arith))
      (same? i k)

  module _ (count : ℕ) where
    -- the walk from slot k of block b goes on at the block's first slot where its window holds the index sought
    pub block_passed : (payload blocks : List ℕ) (b want k : ℕ) → 0 < ts → Blocked s first count ts blocks → InWindow blocks b want → b * 512 ≤ k → k ≤ b * 512 + 512 → k ≤ count
        → walk_down (elem_look payload ts want) None s first want k ≡ walk_down (elem_look payload ts want) None s first want (b * 512)
    block_passed payload blocks b want k pos blocked w l m h =
        down_skip (stopping (elem_look payload ts want) None want) None s first (b * 512) k l
        (λ i a n. passed_next payload ts want (slot_of s (first + i)) pos (blocked.windows b i want a (omega arith) w.0 w.1))

    -- zeros are no windows
    pub no_blocks : (n : ℕ) → Blocked s first count ts (replicate n 0)
    no_blocks n = record { windows = λ b k want l h f t. absurd (omega (arith, zeros n (b * 2 + 1))) }
      where
        zeros : (n i : ℕ) → ◌≡◌ {A = ℕ} (get_or (replicate n 0) i 0) 0
        zeros zero i = refl
        zeros (suc n) zero = refl
        zeros (suc n) (suc i) = zeros n i

    -- one window more
    pub block_more : (blocks : List ℕ) (b from to : ℕ) → b * 2 + 1 < length blocks → Blocked s first count ts blocks → WindowOf s first ts (b * 512) (min (b * 512 + 512) count) from to
        → Blocked s first count ts (set (set blocks (b * 2) from) (b * 2 + 1) to)
    block_more blocks b from to h blocked w = record {
      windows = λ i. ⊎_elim
          (λ (e : i ≡ b). rw (e, get_or-set_other (set blocks (b * 2) from) (b * 2 + 1) (b * 2) to 0 (λ z. omega arith), get_or-set_same blocks (b * 2) from 0 (omega arith), get_or-set_same (set blocks (b * 2) from) (b * 2 + 1) to 0 (rw (length-set blocks (b * 2) from) h)) w)
          (λ (n : i ≡ b → ⊥). rw (
            get_or-set_other (set blocks (b * 2) from) (b * 2 + 1) (i * 2) to 0 (λ z. omega arith),
            get_or-set_other blocks (b * 2) (i * 2) from 0 (λ z. n (omega arith)),
            get_or-set_other (set blocks (b * 2) from) (b * 2 + 1) (i * 2 + 1) to 0 (λ z. n (omega arith)),
            get_or-set_other blocks (b * 2) (i * 2 + 1) from 0 (λ z. omega arith),
          ) (blocked.windows i))
          (same? i b);
    }
