-- How a refusal is printed.
use Rattle.std.specs.Prelude.{ℕ, List, ◌++◌, codes}
use Rattle.std.specs.Fmt.{decimal}
use Rattle.refusal.specs.Refusal.{Refusal}
use Rattle.refusal.specs.Fault.{number_of}

-- 01: "Either prints a refusal as `refused 14 at 1`"
abbrev pub refusal_line : Refusal → List ℕ
refusal_line r = codes "refused " ++ decimal (number_of r.fault) ++ codes " at " ++ decimal r.place
