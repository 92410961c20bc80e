-- An operand in three numbers: its kind and two more. Kinds are numbered as the Rust's `Operand` names them, from 1 on.
use Rattle.std.specs.Prelude.{ℕ, List, [], ◌∷◌, ℤ, pos, get_or, Option, Some, None}
use Rattle.operand.specs.declared.Operand.{Operand}
use Rattle.operand.specs.declared.Operand.TheVariants.{Reg, RegList, Imm, Idx, Flag8, Flag16, RuntimeId, IntrinsicId, Raw}

-- a list's second number is its count, a raw operand's two are its type code and its value; a number that is not there is 0
abbrev pub operand_numbers : Operand → List ℤ
operand_numbers (Reg i) = pos 1 ∷ i ∷ pos 0 ∷ []
operand_numbers (RegList first count) = pos 2 ∷ first ∷ pos count ∷ []
operand_numbers (Imm v) = pos 3 ∷ v ∷ pos 0 ∷ []
operand_numbers (Idx v) = pos 4 ∷ pos v ∷ pos 0 ∷ []
operand_numbers (Flag8 v) = pos 5 ∷ pos v ∷ pos 0 ∷ []
operand_numbers (Flag16 v) = pos 6 ∷ pos v ∷ pos 0 ∷ []
operand_numbers (RuntimeId v) = pos 7 ∷ pos v ∷ pos 0 ∷ []
operand_numbers (IntrinsicId v) = pos 8 ∷ pos v ∷ pos 0 ∷ []
operand_numbers (Raw ty value) = pos 9 ∷ pos ty ∷ pos value ∷ []

-- number j of an operand: 0 its kind, 1 and 2 the others
abbrev pub number_of : Operand → ℕ → ℤ
number_of o j = get_or (operand_numbers o) j (pos 0)

-- one of an instruction's eight places: an unused one has kind 0
abbrev pub place_numbers : Option Operand → List ℤ
place_numbers (Some o) = operand_numbers o
place_numbers None = pos 0 ∷ pos 0 ∷ pos 0 ∷ []

-- number j of a place: 0 the kind of its operand, 1 and 2 the others
abbrev pub place_number : Option Operand → ℕ → ℤ
place_number p j = get_or (place_numbers p) j (pos 0)
