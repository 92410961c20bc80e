use Rattle.std.proofs.Common.{◌-◌, ◌≤◌, length}
use Rattle.tables.proofs.Rows.{Agree}
use Rattle.tables.proofs.names.same_bytes.Given as goal

abbrev pub invariant-loop-i : goal.invariant-loop-i
invariant-loop-i l = (l.i ≤ length l.a) × Agree l.a l.b l.i

abbrev pub decreases-loop-i : goal.decreases-loop-i
decreases-loop-i l = length l.a - l.i
