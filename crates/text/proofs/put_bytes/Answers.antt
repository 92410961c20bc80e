use Rattle.text.proofs.Put.{beyond}
use Rattle.text.proofs.put_bytes.Goals as goal

pub returns-then-out-at : goal.returns-then-out-at
returns-then-out-at c = beyond _ _ c.if-out-at.true c.saturating_add.ensures
