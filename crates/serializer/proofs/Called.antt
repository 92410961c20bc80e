-- What the calls answer behind checks that pass: what the search finds. Assumes nothing.
use Prim.Native.Nat.{ℕ}
use mathlib.Core.Path.{◌≡◌}
use mathlib.Core.List.{List}
use Rattle.std.specs.Prelude.{Ok}
use Rattle.store.specs.Records.{object_of}
use Rattle.serializer.specs.Calls.{check_at, slot_call, raw_call, len_call, elem_call}
use Rattle.serializer.specs.mirror.Search.{slot_searched, raw_searched, elem_searched, len_searched}
use Rattle.serializer.proofs.Checked.{check_ordered}
use Rattle.serializer.proofs.Searched.{slot_searched_lem, raw_searched_lem, elem_searched_lem, len_searched_lem}

module _ (o s p : List ℕ) (k : ℕ) (ok : check_at o s p k ≡ Ok tt) where
  pub slot_called : (index : ℕ) → slot_call o s p k index ≡ Ok (slot_searched s (object_of o k).first (object_of o k).count index)
  unfolding slot_call
  slot_called index = rw (ok, slot_searched_lem s (object_of o k).first (object_of o k).count (check_ordered o s p k ok) index)

  pub raw_called : (ts off len : ℕ) → raw_call o s p ts k off len ≡ Ok (raw_searched s (object_of o k).first (object_of o k).count ts off len)
  unfolding raw_call
  raw_called ts off len = rw (ok, raw_searched_lem s (object_of o k).first (object_of o k).count (check_ordered o s p k ok) ts off len)

  pub elem_called : (ts n : ℕ) → elem_call o s p ts k n ≡ Ok (elem_searched s p (object_of o k).first (object_of o k).count ts n)
  unfolding elem_call
  elem_called ts n = rw (ok, elem_searched_lem s (object_of o k).first (object_of o k).count (check_ordered o s p k ok) p ts n)

  pub len_called : (ts : ℕ) → len_call o s p ts k ≡ Ok (len_searched s p (object_of o k) ts)
  unfolding len_call
  len_called ts = rw (ok, len_searched_lem s p (object_of o k) ts (check_ordered o s p k ok))
