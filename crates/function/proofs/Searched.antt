-- Where the checks found nothing, header and pool by searches are those of the definitions, and so are the pool's elements. Assumes nothing.
use Prim.Native.Nat.{ℕ, ◌+◌, ◌*◌, ◌%◌, ◌<◌, ◌≤◌}
use mathlib.Core.Path.{◌≡◌, refl, ap, ◌∙◌}
use mathlib.Core.Bool.{Bool, true, false, ◌&&◌}
use mathlib.Core.Logic.{⊎_elim}
use mathlib.Core.List.{List}
use native.Mathlib.Omega.{arith}
use borrow.Author.Tests.{eqb-true}
use lib.ListN.{length}
use Rattle.laws.proofs.Tests.{under?}
use Rattle.words.proofs.Le.{le_at_past}
use Rattle.std.specs.Prelude.{Option, Some, None, Ok}
use Rattle.store.specs.declared.SlotValue.{SlotValue}
use Rattle.targets.specs.declared.PoolSlots.{PoolSlots}
use Rattle.refusal.specs.declared.Fault.TheVariants as fault
use Rattle.refusal.specs.Check.{first_refusal, refuse_unless, first_bad}
use Rattle.refusal.proofs.Laws.{or_left, or_right, good_is}
use Rattle.store.specs.declared.Object.{Object}
use Rattle.store.specs.Records.{object_of, object_count, slot_count}
use Rattle.store.specs.Check.{sizes_ok, bad_object, bad_slot, check_store}
use Rattle.store.specs.mirror.Ordered.{Ordered}
use Rattle.store.proofs.Good.{good_ordered}
use Rattle.serializer.specs.Slots.{slot_at}
use Rattle.serializer.proofs.Searched.{elem_searched_lem, slot_searched_lem}
use Rattle.store.specs.declared.SlotValue.TheVariants as value
use Rattle.layout.specs.declared.Layout.{Layout}
use Rattle.layout.specs.Layout.{layout_of}
use Rattle.tables.specs.Check.{check_table}
use Rattle.header.specs.mirror.Header.{header_searched}
use Rattle.header.proofs.Searched.{header_searched_lem}
use Rattle.bytecode.specs.Decode.{check_code}
use Rattle.targets.specs.Targets.{pool_elem}
use Rattle.targets.specs.mirror.Search.{pool_searched}
use Rattle.function.specs.Files.{Files, check_files, check_pool_object, check_lent}
use Rattle.function.specs.Pool.{pool_by, pool_of, lent_pool, lent_elem}
use Rattle.function.specs.Code.{header_at}
use Rattle.function.specs.mirror.Pool.{pool_found, lent_found}

first_of : (a b c d e : Bool) → (a && b && c && d && e) ≡ true → a ≡ true
first_of true b c d e h = refl
first_of false b c d e h = h

module _ (o s p : List ℕ) (ok : check_store o s p ≡ Ok tt) where
  whole : length o % 16 ≡ 0
  unfolding check_store sizes_ok
  whole =
      let sizes = good_is (sizes_ok (length o) (length s) (length p)) fault.StoreSize
      (or_left (refuse_unless (sizes_ok (length o) (length s) (length p)) fault.StoreSize)
      (first_refusal (first_bad fault.BadRecord (bad_object o (slot_count s)) (object_count o)) (first_bad fault.BadRecord (bad_slot o s p) (slot_count s))) ok)
      in eqb-true (length o % 16) 0 (first_of _ _ _ _ _ sizes)

  -- slots of every object number are in order: those of a number that no object has are none
  ordered : (n : ℕ) → Ordered s (object_of o n).first (object_of o n).count
  unfolding object_of
  ordered n = ⊎_elim (λ (l : n < object_count o). good_ordered o s p ok n l) past (under? n (object_count o))
    where
      past : object_count o ≤ n → Ordered s (object_of o n).first (object_of o n).count
      past l i j le m = absurd (omega (arith, le_at_past o (16 * n + 8) 4 (omega (arith, whole))))

  -- the pool that an object's slot refers to
  pool_searched_lem : (l : Layout) (n : ℕ) → pool_found o s l (object_of o n) ≡ pool_by o (slot_at s (object_of o n).first (object_of o n).count l.pool_slot)
  pool_searched_lem l n = ap (pool_by o) (slot_searched_lem s (object_of o n).first (object_of o n).count (ordered n) l.pool_slot)

  -- its elements
  pool_elems : (payload : List ℕ) (ts : ℕ) (at : Option SlotValue) → pool_searched s payload ts (pool_by o at) ≡ pool_elem s payload ts (pool_by o at)
  unfolding pool_searched pool_elem pool_by
  pool_elems payload ts (Some (value.Object n)) = λ i k. elem_searched_lem s (object_of o n).first (object_of o n).count (ordered n) payload ts k i
  pool_elems payload ts (Some value.Other) = refl
  pool_elems payload ts (Some value.Root) = refl
  pool_elems payload ts (Some value.OtherRef) = refl
  pool_elems payload ts (Some (value.Raw r)) = refl
  pool_elems payload ts (Some (value.Repeat r)) = refl
  pool_elems payload ts None = refl

-- ---- an object
module _ (f : Files) (k : ℕ) (ok : check_files f k ≡ Ok tt) where
  store : check_store f.objects f.slots f.payload ≡ Ok tt
  store = or_left (check_store f.objects f.slots f.payload) _ (or_right (check_table f.opcodes f.types f.runtime f.intrinsic f.layout) _ ok)

  abbrev o : Object
  o = object_of f.objects k

  abbrev l : Layout
  l = layout_of f.layout

  pub header_found_lem : header_searched f.slots f.payload o l ≡ header_at f k
  header_found_lem = header_searched_lem f.slots f.payload o l (ordered f.objects f.slots f.payload store k)

  pub pool_found_lem : pool_found f.objects f.slots l o ≡ pool_of f o
  pool_found_lem = pool_searched_lem f.objects f.slots f.payload store l k

  pub elems_found : pool_searched f.slots f.payload l.tagged_size (pool_of f o) ≡ pool_elem f.slots f.payload l.tagged_size (pool_of f o)
  elems_found = pool_elems f.objects f.slots f.payload store f.payload l.tagged_size (slot_at f.slots o.first o.count l.pool_slot)

-- ---- lent code
module _ (f : Files) where
  -- the pool
  lent_found_lem : (w : Option ℕ) → check_pool_object f.objects f.slots f.payload w ≡ Ok tt → lent_found f.objects f.slots (layout_of f.layout) w ≡ lent_pool f w
  lent_found_lem None ok = refl
  lent_found_lem (Some n) ok = pool_searched_lem f.objects f.slots f.payload (or_left (check_store f.objects f.slots f.payload) _ ok) (layout_of f.layout) n

  -- its elements
  lent_elems_found : (w : Option ℕ) → check_pool_object f.objects f.slots f.payload w ≡ Ok tt → pool_searched f.slots f.payload (layout_of f.layout).tagged_size (lent_pool f w) ≡ lent_elem f w
  unfolding pool_searched pool_elem
  lent_elems_found None ok = refl
  lent_elems_found (Some n) ok =
      let o = object_of f.objects n in
      let store = or_left (check_store f.objects f.slots f.payload) _ ok in
      pool_elems f.objects f.slots f.payload store f.payload (layout_of f.layout).tagged_size (slot_at f.slots o.first o.count (layout_of f.layout).pool_slot)

  module _ (w : Option ℕ) (code : List ℕ) (ok : check_lent f w code ≡ Ok tt) where
    object_ok_lem : check_pool_object f.objects f.slots f.payload w ≡ Ok tt
    object_ok_lem = or_left (check_pool_object f.objects f.slots f.payload w) (check_code code) (or_right (check_table f.opcodes f.types f.runtime f.intrinsic f.layout) _ ok)

    -- from a function's answer p for the pool
    pub lent_pool_lem : {p : Option PoolSlots} → p ≡ lent_found f.objects f.slots (layout_of f.layout) w → p ≡ lent_pool f w
    lent_pool_lem e = e ∙ lent_found_lem w object_ok_lem

    pub lent_elems : {p : Option PoolSlots} → p ≡ lent_found f.objects f.slots (layout_of f.layout) w → pool_searched f.slots f.payload (layout_of f.layout).tagged_size p ≡ lent_elem f w
    lent_elems e = ap (pool_searched f.slots f.payload (layout_of f.layout).tagged_size) (lent_pool_lem e) ∙ lent_elems_found w object_ok_lem
