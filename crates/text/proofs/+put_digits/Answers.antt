use Rattle.std.proofs.Common.{arith}
use Rattle.text.proofs.Put.{then}
use Rattle.text.proofs.Texts.{decimal_hundreds}
use Rattle.text.proofs.+put_digits.Goals as goal

pub returns-else-n-lt100 : goal.returns-else-n-lt100
returns-else-n-lt100 t c = rw (decimal_hundreds c.args.n (omega arith) (omega arith)) (then (omega arith) c.put_digits-p.ensures c.put_two-else-n-lt100.ensures)
