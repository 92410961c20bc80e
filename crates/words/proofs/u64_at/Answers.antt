use Rattle.std.proofs.Common.{◌∙◌, arith}
use Rattle.words.proofs.Le.{eight_chunk}
use Rattle.words.proofs.u64_at.Goals as goal

pub returns : goal.returns
returns c = let first = rw c.unwrap.ensures at c.first_chunk.ensures.cases in c.from_le_bytes.ensures ∙ eight_chunk c.args.s.now c.unwrap.result.now c.args.i _ (omega arith) first.same
