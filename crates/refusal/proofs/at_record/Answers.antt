use borrow.Author.Tests.{lt-ltb, le-ltb}
use Rattle.refusal.proofs.at_record.Goals as goal

pub returns-then-at-records : goal.returns-then-at-records
returns-then-at-records g c = rw (lt-ltb _ _ c.if-at-records.true)

pub returns-else-at-records : goal.returns-else-at-records
returns-else-at-records g c = rw (le-ltb _ _ c.if-at-records.false)
