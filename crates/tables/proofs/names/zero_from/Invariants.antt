use Rattle.std.proofs.Common.{◌≡◌, ◌-◌}
use Rattle.laws.specs.Scan.{first_from}
use Rattle.tables.specs.Names.{is_zero}
use Rattle.tables.proofs.names.zero_from.Given as goal

abbrev pub invariant-loop-i : goal.invariant-loop-i
invariant-loop-i l = first_from (is_zero l.s) l.from (l.to - l.from) ≡ first_from (is_zero l.s) l.i (l.to - l.i)
