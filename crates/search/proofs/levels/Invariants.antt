use Prim.Native.Nat.{◌-◌}
use mathlib.Core.Path.{◌≡◌}
use lib.ListN.{length}
use Rattle.graph.proofs.Walks.{Level}
use Rattle.search.specs.mirror.Kept.{graph_by}
use Rattle.search.proofs.levels.Given as goal

abbrev pub invariant-loop-lo : goal.invariant-loop-lo
invariant-loop-lo l = Level (graph_by l.slots l.payload l.e.ts l.e.pool l.heads l.words l.catches) l.marks l.queue l.lo l.hi l.d × (length l.marks ≡ length l.heads) × (length l.queue ≡ length l.initial.queue)

abbrev pub decreases-loop-lo : goal.decreases-loop-lo
decreases-loop-lo l = length l.heads - l.lo
