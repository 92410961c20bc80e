use Rattle.std.proofs.Common.{◌≡◌, ◌-◌}
use Rattle.laws.specs.Scan.{first_from}
use Rattle.tables.specs.Names.{differs}
use Rattle.tables.proofs.names.field_is.Given as goal

abbrev pub invariant-loop-i : goal.invariant-loop-i
invariant-loop-i l = first_from (differs l.s l.at l.name) 0 l.w ≡ first_from (differs l.s l.at l.name) l.i (l.w - l.i)
