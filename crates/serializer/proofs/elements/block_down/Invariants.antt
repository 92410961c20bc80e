use Prim.Native.Nat.{◌≤◌}
use mathlib.Core.Path.{◌≡◌}
use Rattle.serializer.specs.Down.{walk_down}
use Rattle.serializer.specs.Element.{elem_look}
use Rattle.std.specs.Prelude.{None}
use Rattle.serializer.proofs.elements.block_down.Given as goal

abbrev pub invariant-loop-k : goal.invariant-loop-k
invariant-loop-k l = (l.lo ≤ l.k) × (walk_down (elem_look l.payload l.ts l.want) None l.slots l.first l.want l.hi ≡ walk_down (elem_look l.payload l.ts l.want) None l.slots l.first l.want l.k)
