use Prim.Native.Nat.{ℕ, ◌≤◌}
use mathlib.Core.Path.{◌≡◌}
use Rattle.serializer.specs.Down.{walk_down}
use Rattle.serializer.specs.Element.{elem_look}
use Rattle.serializer.specs.mirror.Blocks.{Blocked}
use Rattle.std.specs.Prelude.{None}
use Rattle.serializer.proofs.elements.elem_down.Given as goal

abbrev pub invariant-loop-k : goal.invariant-loop-k
invariant-loop-k l = (l.k ≤ l.start) × ((count : ℕ) → l.start ≤ count → Blocked l.slots l.first count l.ts l.blocks → walk_down (elem_look l.payload l.ts l.want) None l.slots l.first l.want l.start ≡ walk_down (elem_look l.payload l.ts l.want) None l.slots l.first l.want l.k)

abbrev pub decreases-loop-k : goal.decreases-loop-k
decreases-loop-k l = l.k
