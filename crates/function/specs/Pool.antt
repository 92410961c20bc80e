-- The constant pool of a function's code: that of its object, or of the object that is lent for lent code.
use Rattle.std.specs.Prelude.{ℕ, List}
use Rattle.store.specs.declared.Object.{Object}
use Rattle.store.specs.declared.SlotValue.TheVariants as value
use Rattle.store.specs.Records.{object_of}
use Rattle.std.specs.Prelude.{Option, Some, None}
use Rattle.store.specs.declared.SlotValue.{SlotValue}
use Rattle.targets.specs.declared.PoolSlots.{PoolSlots}
use Rattle.serializer.specs.declared.Elem.{Elem}
use Rattle.serializer.specs.Slots.{slot_at}
use Rattle.layout.specs.Layout.{layout_of}
use Rattle.targets.specs.Targets.{pool_elem}
use Rattle.function.specs.Files.{Files}

-- the pool is the object that the slot at the pool's index refers to; our reading: a root or a repeat there is no pool
unfoldable pub pool_by : List ℕ → Option SlotValue → Option PoolSlots
pool_by objects (Some (value.Object n)) = Some (record { first = (object_of objects n).first; count = (object_of objects n).count })
pool_by objects (Some value.Other) = None
pool_by objects (Some value.Root) = None
pool_by objects (Some value.OtherRef) = None
pool_by objects (Some (value.Raw r)) = None
pool_by objects (Some (value.Repeat r)) = None
pool_by objects None = None

-- the pool of an object
abbrev pub pool_of : Files → Object → Option PoolSlots
pool_of f o = pool_by f.objects (slot_at f.slots o.first o.count (layout_of f.layout).pool_slot)

-- the pool that lent code uses; code without an object has none
abbrev pub lent_pool : Files → Option ℕ → Option PoolSlots
lent_pool f None = None
lent_pool f (Some n) = pool_of f (object_of f.objects n)

-- its elements
abbrev pub lent_elem : Files → Option ℕ → ℕ → Option Elem
lent_elem f w = pool_elem f.slots f.payload (layout_of f.layout).tagged_size (lent_pool f w)
