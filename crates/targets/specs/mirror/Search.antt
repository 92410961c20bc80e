-- Law `elem_searched_lem` (serializer/proofs/Searched.antt): for the pool of a checked store this is `pool_elem`.
use Rattle.std.specs.Prelude.{ℕ, List}
use Rattle.std.specs.Prelude.{Option, Some, None}
use Rattle.targets.specs.declared.PoolSlots.{PoolSlots}
use Rattle.serializer.specs.declared.Elem.{Elem}
use Rattle.serializer.specs.mirror.Search.{elem_searched}
use Rattle.serializer.specs.mirror.Blocks.{Blocked}

-- the pool's elements by the search that the code makes
unfoldable pub pool_searched : List ℕ → List ℕ → ℕ → Option PoolSlots → ℕ → Option Elem
pool_searched s payload ts (Some p) n = elem_searched s payload p.first p.count ts n
pool_searched s payload ts None n = None

-- the summary is one of the pool's slots
abbrev pub PoolBlocked : List ℕ → ℕ → Option PoolSlots → List ℕ → Type 0
PoolBlocked s ts (Some p) blocks = Blocked s p.first p.count ts blocks
PoolBlocked s ts None blocks = Unit {0}
