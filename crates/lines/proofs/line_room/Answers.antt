use native.Mathlib.Omega.{arith}
use Rattle.lines.specs.mirror.Room.{line_room}
use Rattle.lines.proofs.line_room.Goals as goal

pub returns : goal.returns
unfolding line_room
returns c = omega (arith, c.min-n.ensures, c.target_room.ensures, c.entries_of.ensures)
