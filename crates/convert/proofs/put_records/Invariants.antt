use Rattle.convert.specs.mirror.Forms.{record_as}
use Rattle.convert.specs.Records.{joined}
use Rattle.text.proofs.PutUpTo.{PutUpTo}
use Prim.Native.Nat.{◌-◌}
use Rattle.convert.proofs.put_records.Given as goal

abbrev pub invariant-loop-k : goal.invariant-loop-k
invariant-loop-k l = PutUpTo l.initial.out 0 (joined (record_as l.to l.opcodes) 0 l.n) (joined (record_as l.to l.opcodes) l.k (l.n - l.k)) l.out l.at
