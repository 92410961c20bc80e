use Rattle.serializer.specs.mirror.Blocks.{WindowOf}
use Rattle.serializer.proofs.blocks.window_of.Given as goal

abbrev pub invariant-loop-k : goal.invariant-loop-k
invariant-loop-k l = WindowOf l.slots l.first l.ts l.lo l.k l.from l.to
