-- On a store that passes its check a field that is found lies inside the payload. Assumes nothing.
use Prim.Native.Nat.{ℕ, zero, suc, ◌+◌, ◌-◌, ◌*◌, ◌/◌, ◌<◌, ◌≤◌}
use mathlib.Core.Path.{◌≡◌, refl, ◌∙◌}
use mathlib.Core.Bool.{Bool, true, false, cond, ◌&&◌}
use mathlib.Core.List.{List}
use native.Mathlib.Omega.{arith}
use borrow.Author.Tests.{leb-true}
use lib.Dec.{leb}
use lib.ListN.{length}
use Rattle.laws.proofs.Tests.{and_left, and_right}
use Rattle.std.specs.Prelude.{Option, Some, None, Ok}
use Rattle.store.specs.Records.{slot_of, object_of}
use Rattle.store.specs.declared.Run.{Run}
use Rattle.store.specs.declared.Slot.{Slot}
use Rattle.store.specs.declared.SlotValue.{SlotValue}
use Rattle.store.proofs.Good.{good_slot, good_run}
use Rattle.serializer.specs.Down.{down, stops, walk_down}
use Rattle.serializer.specs.Field.{raw_run, raw_value, raw_or, raw_look, raw_sought, raw_at}
use Rattle.serializer.specs.Calls.{check_at}
use Rattle.serializer.proofs.Checked.{check_store_lem, check_there}
use Rattle.store.specs.declared.SlotValue.TheVariants as value

-- a run that holds the field
record Holds (v : SlotValue) (a len : ℕ) : Type 0 where
  run : Run
  is : v ≡ value.Raw run
  fits : a + len ≤ run.off + run.len

module _ (ts off len a : ℕ) where
  in_run : (index : ℕ) (run : Run) → raw_run run index ts off len ≡ Some a → a + len ≤ run.off + run.len
  in_run index run h = go (leb (index * ts) off && leb (off + len) (index * ts + run.len)) refl h
    where
      go : (t : Bool) → (leb (index * ts) off && leb (off + len) (index * ts + run.len)) ≡ t → cond t (Some (run.off + (off - index * ts))) None ≡ Some a → a + len ≤ run.off + run.len
      go true e f =
          let p = leb-true (index * ts) off (and_left (leb (index * ts) off) (leb (off + len) (index * ts + run.len)) e) in
          let q = leb-true (off + len) (index * ts + run.len) (and_right (leb (index * ts) off) (leb (off + len) (index * ts + run.len)) e) in
          let g : run.off + (off - index * ts) ≡ a = cc in
          omega arith
      go false e f = cc

  in_value : (index : ℕ) (v : SlotValue) → raw_value v index ts off len ≡ Some a → Holds v a len
  in_value index value.Other h = cc
  in_value index (value.Object n) h = cc
  in_value index value.Root h = cc
  in_value index value.OtherRef h = cc
  in_value index (value.Raw run) h = record { run = run; is = refl; fits = in_run index run h }
  in_value index (value.Repeat r) h = cc

  -- a field that is found is in a run of one of the k slots
  in_slots : (s : List ℕ) (first want k : ℕ) → walk_down (raw_look ts off len) None s first want k ≡ Some a → (i : ℕ) × (i < k) × Holds (slot_of s (first + i)).value a len
  unfolding down
  in_slots s first want zero h = cc
  in_slots s first want (suc k) h = go (raw_value slot.value slot.index ts off len) refl (stops slot.index want) h (in_slots s first want k)
    where
      slot : Slot
      slot = slot_of s (first + k)

      go : (x : Option ℕ) → raw_value slot.value slot.index ts off len ≡ x → (t : Bool)
          → raw_or x (cond t None (walk_down (raw_look ts off len) None s first want k)) ≡ Some a
          → (walk_down (raw_look ts off len) None s first want k ≡ Some a → (i : ℕ) × (i < k) × Holds (slot_of s (first + i)).value a len)
          → (i : ℕ) × (i < suc k) × Holds (slot_of s (first + i)).value a len
      go (Some b) e t f rest = (k, omega arith, in_value slot.index slot.value (e ∙ f))
      go None e true f rest = cc
      go None e false f rest = let r = rest f in (r.0, omega (arith, r.1), r.2)

pub raw_inside : (o s p : List ℕ) (k ts off len : ℕ) {a : ℕ} → check_at o s p k ≡ Ok tt → raw_at s (object_of o k).first (object_of o k).count ts off len ≡ Some a → a + len ≤ length p
unfolding raw_at
raw_inside o s p k ts off len {a} ok h = go (raw_sought ts off len) h
  where
    first : ℕ
    first = (object_of o k).first

    count : ℕ
    count = (object_of o k).count

    go : (t : Bool) → cond t (walk_down (raw_look ts off len) None s first (off / ts) count) None ≡ Some a → a + len ≤ length p
    go true f =
        let r = in_slots ts off len a s first (off / ts) count f in
        let good = good_run o s p (check_store_lem o s p k ok) (first + r.0) (good_slot o s p (check_store_lem o s p k ok) k r.0 (check_there o s p k ok) r.1) r.2.is in
        omega (arith, r.2.fits, good)
    go false f = cc
