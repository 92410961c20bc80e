use mathlib.Core.Path.{◌≡◌}
use lib.ListN.{length}
use Rattle.graph.specs.mirror.Queue.{Grown, SuccIn}
use Rattle.search.specs.mirror.Kept.{graph_by}
use Rattle.search.proofs.push_level.Given as goal

abbrev pub invariant-loop-i : goal.invariant-loop-i
invariant-loop-i l = Grown l.initial.queue l.hi l.marks l.queue l.end (SuccIn (graph_by l.slots l.payload l.e.ts l.e.pool l.heads l.words l.catches) l.initial.queue l.lo l.i) × (length l.marks ≡ length l.initial.marks) × (length l.queue ≡ length l.initial.queue)
