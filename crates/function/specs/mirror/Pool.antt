-- The pools by the search that the code makes: proofs/Searched.antt, `pool_found_lem` and `lent_pool_lem`, say that on checked files they are those of ../Pool.antt.
use Rattle.std.specs.Prelude.{ℕ, List}
use Rattle.store.specs.declared.Object.{Object}
use Rattle.store.specs.Records.{object_of}
use Rattle.serializer.specs.mirror.Search.{slot_searched}
use Rattle.layout.specs.declared.Layout.{Layout}
use Rattle.std.specs.Prelude.{Option, Some, None}
use Rattle.targets.specs.declared.PoolSlots.{PoolSlots}
use Rattle.function.specs.Pool.{pool_by}

-- of an object, its slots and a layout
abbrev pub pool_found : List ℕ → List ℕ → Layout → Object → Option PoolSlots
pool_found objects slots l o = pool_by objects (slot_searched slots o.first o.count l.pool_slot)

abbrev pub lent_found : List ℕ → List ℕ → Layout → Option ℕ → Option PoolSlots
lent_found objects slots l None = None
lent_found objects slots l (Some n) = pool_found objects slots l (object_of objects n)
