use Rattle.std.proofs.Common.{◌≡◌, ◌-◌, min}
use Rattle.laws.specs.Scan.{first_from}
use Rattle.tables.specs.Records.{opcode_count, prefix_mark, is_marked}
use Rattle.tables.proofs.records.prefix_op.Given as goal

abbrev pub invariant-loop-op : goal.invariant-loop-op
invariant-loop-op l = (l.n ≡ min (opcode_count l.opcodes) 256) × (first_from (is_marked (prefix_mark l.opcodes) l.mark) 0 l.n ≡ first_from (is_marked (prefix_mark l.opcodes) l.mark) l.op (l.n - l.op))
