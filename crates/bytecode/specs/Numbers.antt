-- What decoding answers, in 01's numbers.
use Rattle.std.specs.Prelude.{ℕ, List, [], ◌∷◌, ◌++◌, ℤ, pos, Some, None, Ok, Err}
use Rattle.refusal.specs.Numbers.{Numbers, refusal_numbers, end_at}
use Rattle.operand.specs.Numbers.{place_numbers}
use Rattle.decoder.specs.declared.OperandRecord.{OperandRecord}
use Rattle.decoder.specs.declared.Instr.{Instr}
use Rattle.decoder.specs.Decode.{Decoded}

abbrev pub operands_numbers : List OperandRecord → List ℤ
operands_numbers [] = []
operands_numbers (p ∷ ps) = place_numbers p.operand ++ operands_numbers ps

-- opcode, scale, the place where it ends, how many operands, then three numbers for each of eight; where it starts is not told again
abbrev pub instr_numbers : Instr → List ℤ
instr_numbers i = pos i.opcode ∷ pos i.scale ∷ pos i.end ∷ pos i.count ∷ operands_numbers i.operands

-- What decoding at place start answered. An instruction is told at its end. "Decoding one instruction at the place equal to the code's length answers
-- "end"", at that place.
abbrev pub decoded_numbers : ℕ → Decoded → Numbers
decoded_numbers start (Ok (Some i)) = record { number = 0; place = i.end; values = instr_numbers i }
decoded_numbers start (Ok None) = end_at start
decoded_numbers start (Err r) = refusal_numbers r
