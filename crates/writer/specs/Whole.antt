-- A whole code written: its instructions one behind the other.
use Rattle.std.specs.Prelude.{ℕ, ◌≤◌, List, [], ◌∷◌, ◌++◌, ℤ}
use Rattle.tables.specs.Records.{width}
use Rattle.flow.specs.Opcodes.{Opcodes}
use Rattle.decoder.specs.declared.Instr.{Instr}
use Rattle.writer.specs.Write.{written_bytes}

-- 02: "for tables whose widths stay at most 4, whose Flag8 is always 1 byte wide and whose Flag16 at most 2"; 13 and 14 are their codes
abbrev pub NarrowAt : List ℕ → ℕ → Type 0
NarrowAt types scale = ((t : ℕ) → width types t scale ≤ 4) × (width types 13 scale ≤ 1) × (width types 14 scale ≤ 2)

abbrev pub NarrowTable : List ℕ → Type 0
NarrowTable types = NarrowAt types 1 × NarrowAt types 2 × NarrowAt types 4

abbrev pub all_written : Opcodes → List ℕ → ℤ → List Instr → List ℕ
all_written ops types rfs [] = []
all_written ops types rfs (i ∷ is) = written_bytes ops types rfs i ++ all_written ops types rfs is
