-- Conversions, computed: a table of one name of each class. Assumes nothing.
use Prim.Native.Nat.{ℕ, zero, suc, ◌+◌, ◌*◌}
use mathlib.Core.Path.{◌≡◌, refl}
use mathlib.Core.List.{List, [], ◌∷◌}
use lib.ListN.{take, drop, set}
use Rattle.laws.specs.Ascii.{ascii}
use Rattle.laws.specs.Scan.{first_from}
use Rattle.refusal.specs.Check.{refused, first_bad}
use Rattle.tables.specs.Names.{is_named}
use Rattle.tables.specs.mirror.Rows.{filled, rows}
use Rattle.convert.specs.Names.{flow_names, flows, flow_number, flow_by}
use Rattle.convert.specs.Records.{joined}
use Rattle.convert.specs.Convert.{new_file, other_flow}
use Rattle.refusal.specs.declared.Fault.TheVariants as fault

-- records of 64 bytes with a name and no operands; `JumpIf` is no name of the list
pub table : List ℕ
table = rows 64 (
    ascii "Ldar" ∷ ascii "Return" ∷ ascii "Jump" ∷ ascii "JumpConstant" ∷ ascii "JumpLoop" ∷ ascii "JumpLoopConstant" ∷ ascii "JumpIfTrue"
    ∷ ascii "JumpIfTrueConstant" ∷ ascii "SwitchOnSmiNoFeedback" ∷ ascii "SwitchOnGeneratorState" ∷ ascii "JumpIf" ∷ []
    )

-- bytes 50 to 53 of each of n new records
pub fours : ℕ → List ℕ → List (List ℕ)
fours zero s = []
fours (suc n) s = take 4 (drop 50 s) ∷ fours n (drop 72 s)

pub each_class : fours 11 (new_file table)
    ≡ (0 ∷ 0 ∷ 0 ∷ 0 ∷ []) ∷ (1 ∷ 0 ∷ 0 ∷ 0 ∷ []) ∷ (2 ∷ 0 ∷ 0 ∷ 0 ∷ []) ∷ (2 ∷ 1 ∷ 0 ∷ 0 ∷ []) ∷ (4 ∷ 0 ∷ 0 ∷ 0 ∷ []) ∷ (4 ∷ 1 ∷ 0 ∷ 0 ∷ []) ∷ (3 ∷ 0 ∷ 0 ∷ 0 ∷ [])
    ∷ (3 ∷ 1 ∷ 0 ∷ 0 ∷ []) ∷ (5 ∷ 0 ∷ 0 ∷ 1 ∷ []) ∷ (5 ∷ 0 ∷ 1 ∷ 0 ∷ []) ∷ (0 ∷ 0 ∷ 0 ∷ 0 ∷ []) ∷ []
unfolding fours table rows filled new_file joined flow_number first_from is_named flow_names flow_by flows
each_class = refl

-- a switch whose byte 51 is 1 is a way back for which the name would give other bytes
pub switch_from_the_pool : first_bad fault.OtherFlow (other_flow (set (new_file table) (8 * 72 + 51) 1)) 11 ≡ refused fault.OtherFlow 8
unfolding table rows filled new_file joined flow_number first_from is_named flow_names flow_by flows other_flow
switch_from_the_pool = refl
