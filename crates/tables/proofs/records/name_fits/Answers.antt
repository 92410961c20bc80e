use Rattle.std.proofs.Common.{le-ltb, lt-ltb}
use Rattle.tables.specs.Records.{name_fits}
use Rattle.tables.proofs.records.name_fits.Goals as goal

pub returns-then-t-lt-FIXED_TYPES : goal.returns-then-t-lt-FIXED_TYPES
unfolding name_fits
returns-then-t-lt-FIXED_TYPES c = rw (lt-ltb _ _ c.if-t-lt-FIXED_TYPES.true) c.has_type_name.ensures

pub returns-else-t-lt-FIXED_TYPES : goal.returns-else-t-lt-FIXED_TYPES
unfolding name_fits
returns-else-t-lt-FIXED_TYPES c = rw (le-ltb _ _ c.if-t-lt-FIXED_TYPES.false) c.has_other_name.ensures
