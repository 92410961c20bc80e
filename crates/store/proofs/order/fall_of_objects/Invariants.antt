use mathlib.Core.Path.{◌≡◌}
use Rattle.laws.specs.Scan.{first_from}
use Rattle.store.specs.Check.{falls}
use Rattle.store.proofs.order.fall_of_objects.Given as goal

abbrev pub invariant-loop-seen : goal.invariant-loop-seen
invariant-loop-seen l = l.best ≡ first_from (falls l.objects l.slots l.seen) 0 l.end
