use mathlib.Core.Path.{◌≡◌}
use lib.ListN.{length}
use Rattle.handlers.specs.mirror.Catches.{Painted}
use Rattle.handlers.proofs.paint_all.Given as goal

abbrev pub invariant-loop-r : goal.invariant-loop-r
invariant-loop-r l = (length l.places ≡ length l.initial.places) × (length l.blocks ≡ length l.initial.blocks) × (Painted l.handlers l.initial.places l.initial.blocks 0 → Painted l.handlers l.places l.blocks l.r)
