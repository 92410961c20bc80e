use native.Mathlib.Omega.{arith}
use Rattle.search.proofs.search.Goals as goal

pub search_in-requires : goal.search_in-requires
search_in-requires c = (
  record { small = omega (arith, c.if-n-gt65536.false); as_many = omega (arith, c.if-marks-n.false); room = omega (arith, c.if-queue-n.false) },
  c.pool_blocks-blocks.ensures,
)

pub returns : goal.returns
returns c = λ _. c.search_in.ensures
