use Rattle.std.proofs.Common.{to_z-of_z, arith}
use Rattle.text.proofs.Texts.{put_minus}
use Rattle.text.proofs.put_signed.Goals as goal

pub returns-then-v-lt0 : goal.returns-then-v-lt0
returns-then-v-lt0 c =
    let e = to_z-of_z c.ranges.v in
    put_minus c.args.v (rw e at c.if-v-lt0.true) (rw e at c.unsigned_abs-m.ensures.value) (omega arith) c.put_byte-p.ensures c.put_decimal.ensures
