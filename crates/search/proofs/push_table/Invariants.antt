use mathlib.Core.Path.{◌≡◌}
use lib.ListN.{length}
use Rattle.graph.specs.mirror.Queue.{Grown}
use Rattle.targets.specs.mirror.Search.{pool_searched}
use Rattle.search.specs.mirror.Kept.{entries_from, Goes}
use Rattle.search.proofs.push_table.Given as goal

abbrev pub invariant-loop-k : goal.invariant-loop-k
invariant-loop-k l = Grown l.initial.queue l.tail l.marks l.queue l.end (Goes (entries_from (pool_searched l.slots l.payload l.e.ts l.e.pool) l.at l.first l.k)) × (length l.marks ≡ length l.initial.marks) × (length l.queue ≡ length l.initial.queue)
