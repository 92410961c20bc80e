use Rattle.std.proofs.Common.{◌≡◌, ◌-◌}
use Rattle.laws.specs.Scan.{first_from}
use Rattle.tables.specs.Records.{type_count, fault_as}
use Rattle.tables.specs.Check.{is_faulty}
use Rattle.tables.proofs.records.check_opcodes.Given as goal

abbrev pub invariant-loop-i : goal.invariant-loop-i
invariant-loop-i l =
    let faulty = is_faulty (fault_as l.form l.opcodes (type_count l.types)) in
    first_from faulty 0 l.n ≡ first_from faulty l.i (l.n - l.i)
