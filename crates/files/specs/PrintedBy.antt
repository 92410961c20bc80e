-- What each of the two programs prints.
use Rattle.std.specs.Prelude.{ℕ, List}
use Rattle.function.specs.Files.{Files}
use Rattle.program.specs.Printed.{shown, walk_shown}
use Rattle.walk.specs.Walk.{Given}
use Rattle.files.specs.declared.Program.{Program}
use Rattle.files.specs.declared.Program.TheVariants as program

-- "Both programs read records from files .. and take object 0": the listing by way of 65,536 bytes, or the answer of the walk check with
-- what is given.
abbrev pub printed_by : Program → Files → Given → List ℕ
printed_by program.List f g = shown f 65536
printed_by program.Walk f g = walk_shown f g
