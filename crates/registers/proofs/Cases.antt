-- The largest register of small runs, by computing. Assumes nothing.
use Prim.Native.Nat.{ℕ}
use mathlib.Core.Path.{◌≡◌, refl}
use mathlib.Core.List.{List, [], ◌∷◌}
use lib.IntN.{pos, negsuc}
use Rattle.words.specs.Signed.{modulo, wrap32}
use Rattle.operand.specs.declared.Operand.{Operand}
use Rattle.operand.specs.declared.Operand.TheVariants.{Reg, RegList, Imm}
use Rattle.decoder.specs.declared.OperandRecord.{OperandRecord}
use Rattle.decoder.specs.declared.Instr.{Instr}
use Rattle.decoder.specs.Decode.{record_of}
use Rattle.registers.specs.Registers.{with_operands, max_register}
use Rattle.std.specs.Prelude.{Some, None}

abbrev of : Operand → OperandRecord
of o = record_of (Some o)

abbrev instr : ℕ → List OperandRecord → Instr
instr count xs = record { offset = 0; opcode = 0; scale = 1; end = 0; count = count; operands = xs }

-- r5 and r6 of a list, and r7 of an empty one: 7. A list from the largest index on ends below 0, and does not count
pub some_case : max_register
    (instr 3 (of (Reg (negsuc 2)) ∷ of (Imm (pos 9)) ∷ of (RegList (pos 5) 2) ∷ [])
    ∷ instr 2 (of (RegList (pos 7) 0) ∷ of (RegList (pos 2147483647) 2) ∷ [])
    ∷ []) ≡ Some 7
unfolding with_operands modulo wrap32
some_case = refl

-- none but those below 0 and one behind the count
pub none_case : max_register (instr 2 (of (Reg (negsuc 0)) ∷ of (RegList (negsuc 3) 0) ∷ of (Reg (pos 4)) ∷ []) ∷ []) ≡ None
unfolding with_operands modulo wrap32
none_case = refl
