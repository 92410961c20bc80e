use Rattle.tables.specs.Records.{type_code}
use Rattle.std.proofs.Common.{le-ltb, lt-ltb}
use Rattle.tables.proofs.records.type_code.Goals as goal

pub returns-then-k-ge8 : goal.returns-then-k-ge8
unfolding type_code
returns-then-k-ge8 c = rw (le-ltb _ _ c.if-k-ge8.true)

pub returns : goal.returns
unfolding type_code
returns c = rw (lt-ltb _ _ c.if-k-ge8.false) c.byte_at.ensures
