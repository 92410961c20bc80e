use Rattle.graph.specs.mirror.Queue.{Lowest}
use Rattle.search.specs.mirror.Kept.{graph_by}
use Rattle.search.proofs.lowest.Given as goal

abbrev pub invariant-loop-i : goal.invariant-loop-i
invariant-loop-i l = Lowest (graph_by l.slots l.payload l.e.ts l.e.pool l.heads l.words l.catches) l.queue l.lo l.i l.f
