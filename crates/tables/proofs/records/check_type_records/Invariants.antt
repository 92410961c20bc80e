use Rattle.std.proofs.Common.{◌≡◌, ◌-◌}
use Rattle.laws.specs.Scan.{first_from}
use Rattle.tables.specs.Records.{type_count, type_fault}
use Rattle.tables.specs.Check.{is_faulty}
use Rattle.tables.proofs.records.check_type_records.Given as goal

abbrev pub invariant-loop-i : goal.invariant-loop-i
invariant-loop-i l =
    let faulty = is_faulty (type_fault l.types) in
    first_from faulty 0 (type_count l.types) ≡ first_from faulty l.i (type_count l.types - l.i)
