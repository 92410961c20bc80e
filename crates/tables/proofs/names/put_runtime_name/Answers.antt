use Rattle.std.proofs.Common.{le-ltb, lt-ltb}
use Rattle.tables.specs.Texts.{runtime_name}
use Rattle.tables.proofs.names.put_runtime_name.Goals as goal

pub returns-then-id-runtime : goal.returns-then-id-runtime
unfolding runtime_name
returns-then-id-runtime c = rw (lt-ltb _ _ c.if-id-runtime.true, ← c.name_at.ensures) c.put_bytes.ensures

pub returns-else-id-runtime : goal.returns-else-id-runtime
unfolding runtime_name
returns-else-id-runtime c = rw (le-ltb _ _ c.if-id-runtime.false) c.put_decimal.ensures
