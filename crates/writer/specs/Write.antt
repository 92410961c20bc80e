-- Writing an instruction, as a call: 01's checks of the table, then 02's numbers 21 to 23, each at place 0, then 17.
use Rattle.std.specs.Prelude.{ℕ, ◌%◌, ◌^◌, ◌≡◌, Bool, true, false, cond, not, ◌&&◌, List, [], ◌∷◌, ◌++◌, eqb, leb, ltb, ℤ, length, take, Option, Some, None}
use Rattle.words.specs.Signed.{eq_z}
use Rattle.std.specs.Prelude.{Result, Ok, Err}
use Rattle.refusal.specs.Refusal.{Refusal}
use Rattle.refusal.specs.Check.{Check}
use Rattle.refusal.specs.declared.Fault.TheVariants as fault
use Rattle.refusal.specs.Check.{first_refusal, refuse_unless, guarded_on}
use Rattle.text.specs.Written.{put_text}
use Rattle.layout.specs.Layout.{signed_value}
use Rattle.tables.specs.Records.{width, is_op}
use Rattle.tables.specs.Check.{check_table}
use Rattle.flow.specs.Opcodes.{Opcodes, opcodes_of, prefix_with}
use Rattle.operand.specs.Operand.{is_list, interpret}
use Rattle.operand.specs.Numbers.{operand_numbers}
use Rattle.operand.specs.declared.Operand.{Operand}
use Rattle.decoder.specs.declared.OperandRecord.{OperandRecord}
use Rattle.decoder.specs.declared.Instr.{Instr}
use Rattle.decoder.specs.Decode.{operand_types, operands_in, instr_of}
use Rattle.decoder.specs.Listed.{decodes}
use Rattle.writer.specs.Bytes.{stored_of, count_of, instr_bytes}

-- the same numbers, one by one
abbrev pub same_numbers : List ℤ → List ℤ → Bool
same_numbers [] [] = true
same_numbers [] (b ∷ bs) = false
same_numbers (a ∷ rest) [] = false
same_numbers (a ∷ rest) (b ∷ bs) = eq_z a b && same_numbers rest bs

-- the same kind and the same numbers
unfoldable pub same_operand : Operand → Operand → Bool
same_operand a b = same_numbers (operand_numbers a) (operand_numbers b)

-- what an operand of type t and w bytes reads back as, with a count of cw bytes if it is a list
unfoldable pub back_as : ℕ → ℕ → ℕ → ℤ → Operand → Operand
back_as t w cw rfs o = interpret t (stored_of rfs o % 256 ^ w) w (cond (is_list t) (count_of o % 256 ^ cw % 2 ^ 32) 0) rfs

-- 23: "one that reading back at its width would change": an operand; one of another kind would be changed too
unfoldable pub reads_back : List ℕ → ℕ → ℤ → ℕ → Operand → Bool
reads_back types scale rfs t o = same_operand (back_as t (width types t scale) (width types 8 scale) rfs o) o

-- 23: "a wrong number or kind of operands": as many operands as these types take, each of which reads back
unfoldable pub operands_ok : List ℕ → ℕ → ℤ → Bool → List ℕ → List Operand → Bool
operands_ok types scale rfs after [] [] = true
operands_ok types scale rfs after [] (o ∷ os) = false
operands_ok types scale rfs after (t ∷ ts) [] = cond (eqb t 8 && after) (operands_ok types scale rfs false ts []) false
operands_ok types scale rfs after (t ∷ ts) (o ∷ os) =
    cond (eqb t 8 && after) (operands_ok types scale rfs false ts (o ∷ os)) (reads_back types scale rfs t o && operands_ok types scale rfs (is_list t) ts os)

abbrev pub is_some : Option ℕ → Bool
is_some (Some op) = true
is_some None = false

-- 21: "scale not 1, 2 or 4, or 2 or 4 without its prefix record"
unfoldable pub scale_ok : Opcodes → ℕ → Bool
scale_ok ops scale = cond (eqb scale 1) true (cond (eqb scale 2) (is_some (prefix_with ops 1)) (eqb scale 4 && is_some (prefix_with ops 2)))

-- 22: "no such opcode, or a prefix opcode at scale 1"; a later record with the same mark is no prefix opcode
unfoldable pub opcode_fits : Opcodes → ℕ → ℕ → Bool
opcode_fits ops scale opcode =
    ltb opcode ops.many && cond (eqb scale 1) (not (is_op (prefix_with ops 1) opcode) && not (is_op (prefix_with ops 2) opcode)) true

-- the operands that are given: in the first count of the eight places, each of which has to hold one
abbrev pub given : Instr → List Operand
given i = operands_in (take i.count i.operands)

abbrev pub holds : Option Operand → Bool
holds (Some o) = true
holds None = false

abbrev pub all_hold : List OperandRecord → Bool
all_hold [] = true
all_hold (p ∷ ps) = holds p.operand && all_hold ps

-- 21, 22, 23: no more operands are read than there are places
abbrev pub check_write : Opcodes → List ℕ → ℤ → Instr → Check
check_write ops types rfs i =
    first_refusal (refuse_unless (scale_ok ops i.scale) fault.WrongScale)
    (first_refusal (refuse_unless (opcode_fits ops i.scale i.opcode) fault.WrongOpcode)
    (refuse_unless (leb i.count 8 && all_hold (take i.count i.operands) && operands_ok types i.scale rfs false (operand_types ops i.opcode) (given i)) fault.WrongOperands))

-- 1 to 5 and 21, which do not ask for the opcode
abbrev pub check_scale : List ℕ → List ℕ → List ℕ → ℕ → Check
check_scale ops types layout scale = first_refusal (check_table ops types [] [] layout) (refuse_unless (scale_ok (opcodes_of ops) scale) fault.WrongScale)

-- what the call writes. It is lent no name files; of the instruction neither offset nor end is read.
abbrev pub written_bytes : Opcodes → List ℕ → ℤ → Instr → List ℕ
written_bytes ops types rfs i = instr_bytes ops types rfs i.scale i.opcode (given i)

unfoldable pub write_call : List ℕ → List ℕ → List ℕ → Instr → List ℕ → Result ℕ Refusal × List ℕ
write_call ops types layout i out =
    guarded_on (first_refusal (check_table ops types [] [] layout) (check_write (opcodes_of ops) types (signed_value layout 13) i)) Err out
    (put_text (written_bytes (opcodes_of ops) types (signed_value layout 13) i) out)

-- "Decoding what was written gives back scale, opcode and operands", wherever the bytes stand in a code: of an answer r and the buffer o'.
abbrev pub ReadsBack : List ℕ → List ℕ → List ℕ → Instr → Result ℕ Refusal → List ℕ → Type 0
ReadsBack ops types layout i (Ok n) o' =
    (s u : List ℕ) → decodes (s ++ (take n o' ++ u)) (opcodes_of ops) types (signed_value layout 13) (length s)
    ≡ Ok (Some (instr_of (length s) i.opcode i.scale (length (s ++ take n o')) (given i)))
ReadsBack ops types layout i (Err r) o' = Unit {0}
