-- The rule of the names, tested at all of their bytes at once, which antt computes.
use Rattle.std.proofs.Common.{refl}
use Rattle.tables.specs.Records.{type_names}
use Rattle.tables.specs.mirror.Rows.{filled, rows}
use Rattle.tables.proofs.Rows.{same_as, same_is}
use Rattle.tables.proofs.records.check_types.Goals as goal

pub check_type_records-requires : goal.check_type_records-requires
unfolding same_as filled rows type_names
check_type_records-requires c = same_is _ _ refl
