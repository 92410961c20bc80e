use mathlib.Core.Path.{◌≡◌}
use mathlib.Core.List.{flat_map}
use lib.ListN.{length, take}
use lib.Seq.{sets}
use Rattle.text.specs.mirror.Digits.{hex_before}
use Rattle.text.proofs.put_triples.Given as goal

abbrev pub invariant-loop-i : goal.invariant-loop-i
invariant-loop-i l = (length l.out ≡ length l.initial.out) × (l.out ≡ sets l.initial.out l.at (flat_map hex_before (take l.i l.s)))
