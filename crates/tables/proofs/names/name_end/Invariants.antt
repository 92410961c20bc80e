use Rattle.std.proofs.Common.{◌≡◌, ◌-◌}
use Rattle.tables.specs.Names.{not_name}
use Rattle.laws.specs.Scan.{first_from}
use Rattle.tables.proofs.names.name_end.Given as goal

abbrev pub invariant-loop-i : goal.invariant-loop-i
invariant-loop-i l = first_from (not_name l.s) l.from (l.to - l.from) ≡ first_from (not_name l.s) l.i (l.to - l.i)
