use Rattle.lines.proofs.Laws.{before_more}
use Rattle.lines.proofs.put_before.Goals as goal

pub returns-then-k-eq0 : goal.returns-then-k-eq0
returns-then-k-eq0 c = rw c.if-k-eq0.true c.put_byte.ensures

pub returns-else-k-eq0 : goal.returns-else-k-eq0
returns-else-k-eq0 c = rw (before_more c.args.k c.if-k-eq0.false) c.put_bytes.ensures
