-- A length that no line is longer than (`line_room_lem` of proofs/Room.antt), by what is known of its instruction without its text: a buffer that is
-- as long as this for all lines need not be measured.
use Rattle.std.specs.Prelude.{ℕ, ◌+◌, ◌*◌}
use Rattle.flow.specs.declared.Kind.{Kind}
use Rattle.flow.specs.declared.Kind.TheVariants.{On, Ends, Jumps, Branches, JumpsBack, Switch}
use Rattle.flow.specs.declared.Flow.{Flow}
use Rattle.std.specs.Prelude.{Option, Some, None, Result, Ok, Err}
use Rattle.targets.specs.declared.Entries.{Entries}
use Rattle.targets.specs.declared.BadSwitch.{BadSwitch}

abbrev pub entries_of : Result (Option Entries) BadSwitch → ℕ
entries_of (Ok None) = 0
entries_of (Ok (Some e)) = e.count
entries_of (Err e) = 0

-- " (jscd @ {t})", where there can be a target
abbrev pub target_room : Kind → ℕ
target_room On = 0
target_room Ends = 0
target_room Jumps = 30
target_room Branches = 30
target_room JumpsBack = 30
target_room Switch = 0

-- 110 for the offset, the name and what stands between; 72 for each of n operands, 46 for an entry, 3 for each of size bytes
unfoldable pub line_room : Flow → ℕ → ℕ → Result (Option Entries) BadSwitch → ℕ
line_room flow n size t = 110 + target_room flow.kind + 72 * n + 46 * entries_of t + 3 * size
