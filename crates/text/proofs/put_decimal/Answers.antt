use Rattle.std.proofs.Common.{◌/◌, arith}
use Rattle.text.proofs.Put.{then}
use Rattle.text.proofs.Texts.{decimal_one, decimal_hundreds}
use Rattle.text.proofs.put_decimal.Goals as goal

pub returns-then-n-lt1000 : goal.returns-then-n-lt1000
returns-then-n-lt1000 c =
    let n = c.args.n in
    rw (decimal_hundreds n (omega arith) (omega arith), decimal_one (n / 100) (omega arith)) (then (omega arith) c.put_byte-p.ensures c.put_two-then-n-lt1000.ensures)
