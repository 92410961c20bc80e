-- On a store that passes its check the search changes nothing: what is read by the search is what is read by the walk over all slots.
-- Assumes nothing.
use Prim.Native.Nat.{ℕ}
use mathlib.Core.Path.{◌≡◌, ap}
use mathlib.Core.Bool.{Bool}
use mathlib.Core.List.{List}
use borrow.Author.Tests.{lt-ltb}
use Rattle.std.specs.Prelude.{Option, Ok}
use Rattle.refusal.proofs.Laws.{or_left, or_right}
use Rattle.store.specs.declared.Object.{Object}
use Rattle.store.specs.Records.{object_of, object_count}
use Rattle.store.specs.Check.{check_store, check_code_object}
use Rattle.store.specs.mirror.Ordered.{Ordered}
use Rattle.store.proofs.Good.{good_code_object}
use Rattle.serializer.specs.Field.{raw_at}
use Rattle.serializer.specs.mirror.Search.{raw_searched}
use Rattle.serializer.specs.Calls.{check_at}
use Rattle.serializer.proofs.Searched.{raw_searched_lem}
use Rattle.serializer.proofs.Checked.{check_ordered}
use Rattle.layout.specs.declared.Layout.{Layout}
use Rattle.tables.specs.Check.{check_layout_file}
use Rattle.header.specs.Header.{header_by, header_of, rt_for}
use Rattle.header.specs.mirror.Header.{header_searched}
use Rattle.header.specs.Slots.{smi_by, field_num}
use Rattle.header.specs.Calls.{check_code, check_header, header_call, smi_call, num_call}
use Rattle.layout.specs.Layout.{layout_of}

module _ (s : List ℕ) (first count : ℕ) (ordered : Ordered s first count) where
  -- the two readers are one function
  pub reader_searched : (ts : ℕ) → raw_searched s first count ts ≡ raw_at s first count ts
  reader_searched ts = λ i off len. raw_searched_lem s first count ordered ts off len i

pub header_searched_lem : (s payload : List ℕ) (o : Object) (l : Layout) → Ordered s o.first o.count → header_searched s payload o l ≡ header_of s payload o l
header_searched_lem s payload o l ordered =
    ap (λ (raw : ℕ → ℕ → Option ℕ). header_by payload raw (rt_for s o l) l) (reader_searched s o.first o.count ordered l.tagged_size)

-- a BytecodeArray that is there is an object that is there
pub code_checked : (o s p : List ℕ) (k : ℕ) → check_code o s p k ≡ Ok tt → check_at o s p k ≡ Ok tt
code_checked o s p k ok =
    let object = or_right (check_store o s p) (check_code_object o k) ok in
    rw (or_left (check_store o s p) (check_code_object o k) ok, lt-ltb k (object_count o) (good_code_object o k object).0)

-- what the calls answer behind checks that pass: what the search reads
pub header_called : (o s p l : List ℕ) (k : ℕ) → check_header o s p l k ≡ Ok tt → header_call o s p l k ≡ header_searched s p (object_of o k) (layout_of l)
unfolding header_call
header_called o s p l k ok =
    let code = or_right (check_layout_file l) (check_code o s p k) ok in
    rw (ok, header_searched_lem s p (object_of o k) (layout_of l) (check_ordered o s p k (code_checked o s p k code)))

module _ (o s p : List ℕ) (ts k slot : ℕ) (ok : check_at o s p k ≡ Ok tt) where
  pub smi_called : smi_call o s p ts k slot ≡ Ok (smi_by p (raw_searched s (object_of o k).first (object_of o k).count ts) ts slot)
  unfolding smi_call
  smi_called = rw (ok, reader_searched s (object_of o k).first (object_of o k).count (check_ordered o s p k ok) ts)

  pub num_called : (flag : Bool) → num_call o s p ts k slot flag ≡ Ok (field_num p (raw_searched s (object_of o k).first (object_of o k).count ts) ts slot flag)
  unfolding num_call
  num_called flag = rw (ok, reader_searched s (object_of o k).first (object_of o k).count (check_ordered o s p k ok) ts)
