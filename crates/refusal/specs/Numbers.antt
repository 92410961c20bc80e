-- Answers in 01's numbers. 01: "An answer, or a refusal: its number and a place." "When an answer is an enum, a definition gives this paper's number
-- and values for each of its cases." Each enum's definition stands beside it; the calls promise through it, those for C too.
-- A refusal has no values, any other answer has at least one: so no refusal is told as another answer.
use Rattle.std.specs.Prelude.{ℕ, List, [], ◌∷◌, ℤ, pos, Ok, Err}
use Rattle.refusal.specs.Refusal.{Refusal}
use Rattle.refusal.specs.Check.{Check}
use Rattle.refusal.specs.Fault.{number_of}

-- the number is 01's for a refusal, 0 for an answer, 254 for "leaves" and 255 for "end"
pub record Numbers : Type 0 where
  pub number : ℕ
  pub place : ℕ
  pub values : List ℤ

abbrev pub refusal_numbers : Refusal → Numbers
refusal_numbers r = record { number = number_of r.fault; place = r.place; values = [] }

-- an answer that has values and no place
abbrev pub answered : List ℤ → Numbers
answered vs = record { number = 0; place = 0; values = vs }

-- where something may be sought in vain: 1 and what is found, or 0
abbrev pub finds : List ℤ → Numbers
finds vs = answered (pos 1 ∷ vs)

abbrev pub finds_nothing : Numbers
finds_nothing = answered (pos 0 ∷ [])

-- 01: "at the place equal to the code's length answers "end""
abbrev pub end_at : ℕ → Numbers
end_at start = record { number = 255; place = start; values = pos 0 ∷ [] }

-- a check finds a fault, or nothing
abbrev pub check_numbers : Check → Numbers
check_numbers (Ok tt) = finds_nothing
check_numbers (Err r) = refusal_numbers r
