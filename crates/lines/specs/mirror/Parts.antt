-- The two parts that a line is put in: `line_parts` of proofs/Laws.antt says that it is the one and then the other.
use Rattle.std.specs.Prelude.{ℕ, min, Bool, List, ◌++◌, ℤ, replicate}
use Rattle.laws.specs.Ascii.{ascii}
use Rattle.text.specs.Texts.{decimal, hex_bytes, pad_left, pad_right}
use Rattle.layout.specs.declared.Frame.{Frame}
use Rattle.decoder.specs.declared.Instr.{Instr}
use Rattle.flow.specs.declared.Flow.{Flow}
use Rattle.flow.specs.Opcodes.{Opcodes}
use Rattle.bytecode.specs.Texts.{NameFiles, instr_name}
use Rattle.std.specs.Prelude.{Option}
use Rattle.serializer.specs.declared.Elem.{Elem}
use Rattle.targets.specs.Targets.{here, jump_target, jump_table}
use Rattle.lines.specs.Line.{operands_by, target_text, table_text}

-- the offset and the bytes
abbrev pub place_by : List ℕ → ℕ → List ℕ
place_by bytes offset = replicate 10 32 ++ ascii " @ " ++ pad_left 4 (decimal offset) ++ ascii " : " ++ pad_right 18 (hex_bytes bytes) ++ ascii " "

-- with the name and the operands
abbrev pub instr_by : List ℕ → Opcodes → NameFiles → Frame → ℤ → Instr → List ℕ
instr_by bytes ops names frame params i =
    (place_by bytes i.offset ++ instr_name ops i.opcode i.scale) ++ operands_by names frame params i 0 (min i.count 8)

-- the target, the entries and the line's end
abbrev pub goes_by : (ℕ → Option Elem) → Bool → Flow → Instr → List ℕ
goes_by el pooled flow i = target_text (jump_target el flow i) ++ table_text el (here i) (jump_table pooled flow i) ++ ascii "\n"
