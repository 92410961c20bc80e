use Rattle.std.proofs.Common.{◌≡◌, ◌-◌, ◌/◌, length}
use Rattle.laws.specs.Scan.{first_from}
use Rattle.tables.specs.Names.{bad_name}
use Rattle.tables.proofs.names.check_names.Given as goal

abbrev pub invariant-loop-i : goal.invariant-loop-i
invariant-loop-i l = first_from (bad_name l.s l.size l.w) 0 (length l.s / l.size) ≡ first_from (bad_name l.s l.size l.w) l.i (length l.s / l.size - l.i)
