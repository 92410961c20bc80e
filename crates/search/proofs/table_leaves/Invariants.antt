use mathlib.Core.Path.{◌≡◌}
use mathlib.Core.Bool.{false}
use Rattle.graph.specs.Lists.{any}
use Rattle.targets.specs.mirror.Search.{pool_searched}
use Rattle.search.specs.mirror.Kept.{entries_from, off_heads}
use Rattle.search.proofs.table_leaves.Given as goal

abbrev pub invariant-loop-k : goal.invariant-loop-k
invariant-loop-k l = any (off_heads l.heads) (entries_from (pool_searched l.slots l.payload l.e.ts l.e.pool) l.at l.first l.k) ≡ false
