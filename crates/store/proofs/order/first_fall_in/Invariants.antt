use Prim.Native.Nat.{◌-◌}
use mathlib.Core.Path.{◌≡◌}
use Rattle.store.specs.Records.{slot_of}
use Rattle.store.proofs.Falls.{Clear}
use Rattle.store.proofs.order.first_fall_in.Given as goal

abbrev pub invariant-loop-k : goal.invariant-loop-k
invariant-loop-k l = (l.before ≡ (slot_of l.slots (l.k - 1)).index) × Clear l.slots l.first l.count l.k
