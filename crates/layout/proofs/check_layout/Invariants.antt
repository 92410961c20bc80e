use Prim.Native.Nat.{◌-◌}
use mathlib.Core.Path.{◌≡◌}
use Rattle.laws.specs.Scan.{first_from}
use Rattle.layout.specs.Layout.{bad_value}
use Rattle.layout.proofs.check_layout.Given as goal

abbrev pub invariant-loop-k : goal.invariant-loop-k
invariant-loop-k l = first_from (bad_value l.layout) 0 20 ≡ first_from (bad_value l.layout) l.k (20 - l.k)
