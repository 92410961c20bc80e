use Rattle.std.proofs.Common.{◌-◌, ◌≤◌, [], length}
use Rattle.tables.proofs.Rows.{Agree}
use Rattle.tables.proofs.names.all_zero.Given as goal

abbrev pub invariant-loop-i : goal.invariant-loop-i
invariant-loop-i l = (l.i ≤ length l.field) × Agree l.field [] l.i

abbrev pub decreases-loop-i : goal.decreases-loop-i
decreases-loop-i l = length l.field - l.i
