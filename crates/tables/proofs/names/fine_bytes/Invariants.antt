use Rattle.std.proofs.Common.{◌≡◌, ◌+◌, ◌≤◌}
use Rattle.tables.specs.mirror.Fields.{Fine}
use Rattle.tables.proofs.names.fine_bytes.Given as goal

abbrev pub invariant-loop-i : goal.invariant-loop-i
invariant-loop-i l = (l.sum ≤ l.i) × (l.sum ≡ l.i → Fine l.s l.from (l.from + l.i))
