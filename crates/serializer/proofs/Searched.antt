-- Among slots in order the search changes nothing: what is found from the point downward is what is found from the last slot
-- downward. Assumes nothing.
use Prim.Native.Nat.{ℕ, ◌+◌, ◌*◌, ◌/◌, ◌<◌, ◌≤◌}
use mathlib.Core.Path.{◌≡◌, refl, sym}
use mathlib.Core.Bool.{Bool, true, false, cond, ◌&&◌}
use mathlib.Core.Logic.{◌⊎◌, inl, inr, ⊎_elim}
use mathlib.Core.List.{List}
use native.Mathlib.Omega.{arith}
use native.Mathlib.Nat.{div-lt_iff_lt-mul, mul-lt-mul_of_pos_right}
use borrow.Author.Tests.{lt-ltb, le-ltb, ltb-true, lt-leb, eq-eqb, eqb-true, ne_eqb}
use lib.Dec.{eqb, ltb, leb}
use Rattle.laws.specs.Scan.{first_from}
use Rattle.laws.proofs.Scan.{first-within, first_holds, first-before, first_none}
use Rattle.laws.proofs.Tests.{and_left, under?, clash}
use Rattle.store.specs.Records.{slot_of}
use Rattle.store.specs.mirror.Ordered.{Ordered}
use Rattle.store.specs.declared.Slot.{Slot}
use Rattle.store.specs.declared.SlotValue.{SlotValue}
use Rattle.store.specs.declared.Object.{Object}
use Rattle.serializer.specs.Down.{walk_down, stopping}
use Rattle.serializer.specs.mirror.Search.{point_at, slot_here, slot_searched, raw_searched, elem_searched, len_searched}
use Rattle.serializer.specs.Slots.{slot_at}
use Rattle.serializer.specs.Field.{raw_look, raw_sought, raw_at}
use Rattle.serializer.specs.Element.{elem_look, elem_sought, elem_at}
use Rattle.serializer.specs.Length.{array_len}
use Rattle.std.specs.Prelude.{Option, Some, None}
use Rattle.serializer.specs.declared.Elem.{Elem}
use Rattle.serializer.proofs.Down.{down_skip, above_next}
use Rattle.serializer.proofs.Point.{Point, point}
use Rattle.store.specs.declared.SlotValue.TheVariants as value

-- a slot above the one sought holds no part of a field, and is no element
raw_over : (slot : Slot) (ts off len : ℕ) → 0 < ts → off / ts < slot.index → (below : Option ℕ) → raw_look ts off len slot below ≡ below
raw_over slot ts off len pos h below = go slot.value
  where
    go : (v : SlotValue) → raw_look ts off len (record { index = slot.index; value = v }) below ≡ below
    go value.Other = refl
    go (value.Object n) = refl
    go value.Root = refl
    go value.OtherRef = refl
    go (value.Raw run) = rw (lt-leb (slot.index * ts) off ((div-lt_iff_lt-mul pos).0 h))
    go (value.Repeat r) = refl

elem_over : (payload : List ℕ) (slot : Slot) (ts want : ℕ) → 0 < ts → want < slot.index → (below : Option Elem) → elem_look payload ts want slot below ≡ below
elem_over payload slot ts want pos h below = go slot.value
  where
    other : eqb slot.index want ≡ false
    other = ne_eqb slot.index want (λ e. omega arith)

    above : leb (slot.index * ts) (want * ts) ≡ false
    above = lt-leb (slot.index * ts) (want * ts) (mul-lt-mul_of_pos_right h pos)

    go : (v : SlotValue) → elem_look payload ts want (record { index = slot.index; value = v }) below ≡ below
    go value.Other = refl
    go (value.Object n) = rw other
    go value.Root = rw other
    go value.OtherRef = rw other
    go (value.Raw run) = rw above
    go (value.Repeat r) = rw above

module _ (s : List ℕ) (first count : ℕ) (ordered : Ordered s first count) where
  walk_searched_lem : {A : Type 0} (look : Slot → A → A) (none : A) (want : ℕ) → ((slot : Slot) → want < slot.index → (below : A) → look slot below ≡ below)
      → walk_down look none s first want (point_at s first count (want + 1)) ≡ walk_down look none s first want count
  walk_searched_lem look none want over =
      let p = point s first count ordered (want + 1) in
      sym (down_skip (stopping look none want) none s first (point_at s first count (want + 1)) count p.within
      (λ k l m. let h : want < (slot_of s (first + k)).index = omega (arith, p.behind k l m) in above_next look none want (slot_of s (first + k)) h (over (slot_of s (first + k)) h)))

  pub raw_searched_lem : (ts off len : ℕ) → raw_searched s first count ts off len ≡ raw_at s first count ts off len
  unfolding raw_searched raw_at
  raw_searched_lem ts off len = go (raw_sought ts off len) refl
    where
      go : (t : Bool) → raw_sought ts off len ≡ t
          → cond t (walk_down (raw_look ts off len) None s first (off / ts) (point_at s first count (off / ts + 1))) None
          ≡ cond t (walk_down (raw_look ts off len) None s first (off / ts) count) None
      go true e = walk_searched_lem (raw_look ts off len) None (off / ts) (λ slot. raw_over slot ts off len (ltb-true 0 ts (and_left (ltb 0 ts) (leb off 4294967295 && leb len 4294967295) e)))
      go false e = refl

  pub elem_searched_lem : (payload : List ℕ) (ts n : ℕ) → elem_searched s payload first count ts n ≡ elem_at s payload first count ts n
  unfolding elem_searched elem_at
  elem_searched_lem payload ts n = go (elem_sought ts n) refl
    where
      go : (t : Bool) → elem_sought ts n ≡ t
          → cond t (walk_down (elem_look payload ts (n + 2)) None s first (n + 2) (point_at s first count (n + 2 + 1))) None
          ≡ cond t (walk_down (elem_look payload ts (n + 2)) None s first (n + 2) count) None
      go true e = walk_searched_lem (elem_look payload ts (n + 2)) None (n + 2) (λ slot. elem_over payload slot ts (n + 2) (ltb-true 0 ts (and_left (ltb 0 ts) (leb n 4294967295) e)))
      go false e = refl

  pub slot_searched_lem : (index : ℕ) → slot_searched s first count index ≡ slot_at s first count index
  unfolding slot_searched slot_at
  slot_searched_lem index = go (under? i count)
    where
      is : ℕ → Bool
      is k = eqb (slot_of s (first + k)).index index

      i : ℕ
      i = first_from is 0 count

      r : ℕ
      r = point_at s first count index

      p : Point s first count index r
      p = point s first count ordered index

      found : Option SlotValue
      found = cond (ltb i count) (Some (slot_of s (first + i)).value) None

      -- the first slot with the index is the one at the point
      here : i < count → i ≡ r
      here l =
          let e : (slot_of s (first + i)).index ≡ index = eqb-true (slot_of s (first + i)).index index (first_holds is 0 count (omega arith)) in
          ⊎_elim
          (λ (h : i < r). let z = p.before i h in absurd (omega arith))
          (λ (h : r ≤ i). ⊎_elim
          (λ (m : r < i).
          let f : (slot_of s (first + r)).index ≡ index = omega (arith, p.behind r (omega arith) (omega arith), ordered r i h l) in
          clash (eq-eqb (slot_of s (first + r)).index index f) (first-before is 0 count r (omega arith) m))
          (λ (m : i ≤ r). omega arith)
          (under? r i))
          (under? i r)

      go : (i < count) ⊎ (count ≤ i) → slot_here s first count index r ≡ found
      go (inl l) =
          let e = here l in
          let f : eqb (slot_of s (first + i)).index index ≡ true = first_holds is 0 count (omega arith) in
          rw (← e, lt-ltb i count l, f)
      go (inr l) = rw (le-ltb i count l) (⊎_elim
          (λ (m : r < count).
          let f : is r ≡ false = first_none is 0 count (omega (arith, (first-within is 0 count).1)) r (omega arith) (omega arith) in
          rw (lt-ltb r count m, f))
          (λ (m : count ≤ r). rw (le-ltb r count m))
          (under? r count))

pub len_searched_lem : (s payload : List ℕ) (o : Object) (ts : ℕ) → Ordered s o.first o.count → len_searched s payload o ts ≡ array_len s payload o ts
unfolding len_searched array_len
len_searched_lem s payload o ts ordered = rw (raw_searched_lem s o.first o.count ordered ts ts 4, raw_searched_lem s o.first o.count ordered ts ts ts)
