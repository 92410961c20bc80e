use mathlib.Core.Path.{◌≡◌}
use Rattle.serializer.specs.Down.{walk_down}
use Rattle.serializer.specs.Field.{raw_look}
use Rattle.std.specs.Prelude.{None}
use Rattle.serializer.proofs.runs.raw_down.Given as goal

abbrev pub invariant-loop-k : goal.invariant-loop-k
invariant-loop-k l = walk_down (raw_look l.ts l.off l.len) None l.slots l.first l.want l.start ≡ walk_down (raw_look l.ts l.off l.len) None l.slots l.first l.want l.k
