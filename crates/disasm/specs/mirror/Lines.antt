-- What the first pass over the instructions promises: `check_refused`, `check_fits` and `check_written` of proofs/Laws.antt tie it to `list_view`
-- of ../Listing.antt.
use Rattle.std.specs.Prelude.{ℕ, ◌+◌, ◌-◌, ◌≤◌, min, ◌≡◌, List, [], ◌∷◌, Bool}
use Rattle.std.specs.Prelude.{Result, Ok, Err}
use Rattle.refusal.specs.Refusal.{Refusal}
use Rattle.refusal.specs.Check.{Check}
use Rattle.text.specs.Put.{place}
use Rattle.decoder.specs.declared.Instr.{Instr}
use Rattle.decoder.specs.Listed.{Listing}
use Rattle.flow.specs.Opcodes.{Opcodes}
use Rattle.targets.specs.Targets.{jump_table}
use Rattle.lines.specs.mirror.Room.{line_room}
use Rattle.function.specs.Code.{listing_check}

-- a length that the header lines are not longer than
abbrev pub header_room : ℕ
header_room = 250

-- a length that the lines are not longer than
unfoldable pub lines_room : Opcodes → Bool → List Instr → ℕ
lines_room ops pooled [] = 0
lines_room ops pooled (i ∷ is) =
    let flow = ops.flow i.opcode in
    line_room flow (min i.count 8) (i.end - i.offset) (jump_table pooled flow i) + lines_room ops pooled is

-- the checks alone
abbrev pub passed : Result ℕ Refusal → Check
passed (Ok room) = Ok tt
passed (Err r) = Err r

-- the checks, and, where they pass, room for the header and the lines, or more
pub record Checked (ops : Opcodes) (pooled : Bool) (l : Listing) (r : Result ℕ Refusal) : Type 0 where
  pub checked : passed r ≡ listing_check ops pooled l
  pub room : (n : ℕ) → r ≡ Ok n → place (header_room + lines_room ops pooled l.instrs) ≤ n
