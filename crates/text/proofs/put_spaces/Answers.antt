use Rattle.std.proofs.Common.{arith}
use Rattle.text.proofs.Put.{run_put}
use Rattle.text.proofs.put_spaces.Goals as goal

pub returns : goal.returns
returns c = run_put c.args.out.now c.args.at c.args.n 32 (omega arith) c.saturating_add-end.ensures (omega arith) (omega arith) (c.fill.ensures.after (λ y e. e))
