-- Law `numbers_told_lem` (proofs/Instr.antt): 28 numbers told one by one are the numbers of bytecode's `instr_numbers`.
use Rattle.std.specs.Prelude.{ℕ, ◌<◌, ◌≡◌, List, pos, get_or, Option, None}
use Rattle.operand.specs.declared.Operand.{Operand}
use Rattle.operand.specs.Numbers.{place_numbers}
use Rattle.decoder.specs.declared.Instr.{Instr}
use Rattle.decoder.specs.Decode.{record_of}
use Rattle.bytecode.specs.Numbers.{instr_numbers}
use Rattle.numbers.specs.Told.{told64}

-- the operand in place j of the eight
abbrev pub operand_in : Instr → ℕ → Option Operand
operand_in i j = (get_or i.operands j (record_of None)).operand

-- number j of a place: the kind of its operand, then two more
abbrev pub operand_number : Option Operand → ℕ → ℕ
operand_number op j = told64 (get_or (place_numbers op) j (pos 0))

-- number k of an instruction
abbrev pub instr_number : Instr → ℕ → ℕ
instr_number i k = told64 (get_or (instr_numbers i) k (pos 0))

-- the first n of a run of numbers are those of the instruction
abbrev pub NumbersAre : Instr → List ℕ → ℕ → Type 0
NumbersAre i ns n = (k : ℕ) → k < n → get_or ns k 0 ≡ instr_number i k
