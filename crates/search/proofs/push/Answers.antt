use native.Mathlib.Omega.{arith}
use Prim.Native.Nat.{◌<◌}
use lib.ListN.{length}
use Rattle.graph.proofs.Queues.{push_old, push_new, push_room}
use Rattle.search.proofs.push.Goals as goal

-- there is room, since a mark is free
room : (c : goal.Then-marks-t-eq0) → let s = c in s.args.tail < length s.args.marks.now
room c = let s = c in push_room _ _ _ _ s.requires.0 s.requires.1 c.if-marks-t-eq0.true

pub offset_bounds-queue-tail : goal.offset_bounds-queue-tail
offset_bounds-queue-tail c = omega (arith, room c, c.requires.0.small)

pub bounds-queue-tail : goal.bounds-queue-tail
bounds-queue-tail c = omega (arith, room c, c.requires.0.room)

pub overflow_add-result : goal.overflow_add-result
overflow_add-result c = omega (arith, room c, c.requires.0.small)

pub returns-then-marks-t-eq0 : goal.returns-then-marks-t-eq0
returns-then-marks-t-eq0 c = let s = c in push_new _ _ _ _ s.requires.0 s.requires.1 c.if-marks-t-eq0.true

pub returns : goal.returns
returns c = let s = c in push_old _ _ _ _ s.requires.0 s.requires.1 c.if-marks-t-eq0.false
