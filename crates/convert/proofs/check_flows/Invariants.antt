use Rattle.convert.specs.Convert.{other_flow}
use Rattle.laws.specs.Scan.{first_from}
use lib.ListN.{length}
use mathlib.Core.Path.{◌≡◌}
use Prim.Native.Nat.{◌-◌, ◌/◌}
use Rattle.convert.proofs.check_flows.Given as goal

abbrev pub invariant-loop-k : goal.invariant-loop-k
invariant-loop-k l = (l.n ≡ length l.opcodes / 72) × (first_from (other_flow l.opcodes) 0 l.n ≡ first_from (other_flow l.opcodes) l.k (l.n - l.k))
