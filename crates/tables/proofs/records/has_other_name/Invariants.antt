use Rattle.std.proofs.Common.{◌≡◌, ◌-◌}
use Rattle.laws.specs.Scan.{first_from}
use Rattle.tables.specs.Records.{fixed_types, has_type_name}
use Rattle.tables.proofs.records.has_other_name.Given as goal

abbrev pub invariant-loop-k : goal.invariant-loop-k
invariant-loop-k l = first_from (has_type_name l.types l.at) 0 fixed_types ≡ first_from (has_type_name l.types l.at) l.k (fixed_types - l.k)
