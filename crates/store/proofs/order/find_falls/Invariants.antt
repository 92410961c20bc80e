use Prim.Native.Nat.{◌-◌, ◌<◌}
use mathlib.Core.Path.{◌≡◌}
use Rattle.laws.specs.Scan.{first_from}
use Rattle.store.specs.Records.{slot_of}
use Rattle.store.specs.mirror.Falls.{lower}
use Rattle.store.proofs.Parts.{Filled}
use Rattle.store.proofs.order.find_falls.Given as goal

abbrev pub invariant-loop-k : goal.invariant-loop-k
invariant-loop-k l =
    (0 < l.k) × (l.here ≡ (slot_of l.slots (l.k - 1)).index) × (l.fall ≡ first_from (lower l.slots) l.k (l.end - l.k)) × Filled l.slots l.end l.k l.later
