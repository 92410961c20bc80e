use Prim.Native.Nat.{◌-◌}
use mathlib.Core.Path.{◌≡◌}
use Rattle.laws.specs.Scan.{first_from}
use Rattle.handlers.specs.Handlers.{bad_handler, handler_count}
use Rattle.handlers.proofs.check_ranges.Given as goal

abbrev pub invariant-loop-i : goal.invariant-loop-i
invariant-loop-i l = first_from (bad_handler l.handlers l.len) 0 (handler_count l.handlers) ≡ first_from (bad_handler l.handlers l.len) l.i (handler_count l.handlers - l.i)
