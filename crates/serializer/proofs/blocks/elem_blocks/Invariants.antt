use mathlib.Core.Path.{◌≡◌}
use lib.ListN.{length}
use Rattle.serializer.specs.mirror.Blocks.{Blocked}
use Rattle.serializer.proofs.blocks.elem_blocks.Given as goal

abbrev pub invariant-loop-b : goal.invariant-loop-b
invariant-loop-b l = (length l.blocks ≡ 4096) × Blocked l.slots l.first l.count l.ts l.blocks
