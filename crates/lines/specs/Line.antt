-- The instruction line, as the Rust's `render_sfi` writes it: "{:>10} @ {:>4} : {:<18} {}{}{}{}" with offset, bytes, name, operands, target
-- and entries. 01: "An instruction line holds offset, bytes (padded to 18), name, operands, target, entries".
use Rattle.std.specs.Prelude.{ℕ, zero, suc, ◌+◌, ◌-◌, min, List, [], ◌++◌, Bool, true, false, cond, ℤ, take, drop, replicate}
use Rattle.laws.specs.Ascii.{ascii}
use Rattle.text.specs.Texts.{decimal, signed_decimal, hex_bytes, pad_left, pad_right}
use Rattle.layout.specs.declared.Frame.{Frame}
use Rattle.decoder.specs.declared.Instr.{Instr}
use Rattle.flow.specs.declared.Flow.{Flow}
use Rattle.flow.specs.Opcodes.{Opcodes}
use Rattle.bytecode.specs.Texts.{NameFiles, operand_text, instr_name}
use Rattle.std.specs.Prelude.{Option, Some, None, Result, Ok, Err}
use Rattle.targets.specs.declared.Case.{Case}
use Rattle.serializer.specs.declared.Elem.{Elem}
use Rattle.targets.specs.Targets.{operand_of, here, jump_target, jump_table, entry_at}
use Rattle.targets.specs.declared.Entries.{Entries}
use Rattle.targets.specs.declared.BadSwitch.{BadSwitch}

-- what the lines of a function are made from: its code, the opcodes, the files of names, the registers, the parameter count, and the pool
pub record View : Type 0 where
  pub code : List ℕ
  pub opcodes : Opcodes
  pub names : NameFiles
  pub frame : Frame
  pub params : ℤ
  pub pooled : Bool
  pub elem : ℕ → Option Elem

-- a blank in front of the first operand, a comma and a blank in front of each other
abbrev pub before : ℕ → List ℕ
before zero = ascii " "
before (suc k) = ascii ", "

-- operands k to k + n - 1
unfoldable pub operands_by : NameFiles → Frame → ℤ → Instr → ℕ → ℕ → List ℕ
operands_by names frame params i k zero = []
operands_by names frame params i k (suc n) = before k ++ operand_text names frame params (operand_of i k) ++ operands_by names frame params i (k + 1) n

abbrev pub operands_text : View → Instr → List ℕ
operands_text v i = operands_by v.names v.frame v.params i 0 (min i.count 8)

-- " (jscd @ {t})"
abbrev pub target_text : Option ℕ → List ℕ
target_text (Some t) = ascii " (jscd @ " ++ decimal t ++ ascii ")"
target_text None = []

-- "{case}: @{target}", a comma in front of all but the first that is shown
abbrev pub entry_text : Bool → Option Case → List ℕ
entry_text shown (Some c) = cond shown (ascii ",") [] ++ ascii " " ++ signed_decimal c.case ++ ascii ": @" ++ decimal c.target
entry_text shown None = []

abbrev pub shown_after : Bool → Option Case → Bool
shown_after shown (Some c) = true
shown_after shown None = shown

-- entries k to k + n - 1
unfoldable pub entries_from : (ℕ → Option Elem) → ℕ → Entries → Bool → ℕ → ℕ → List ℕ
entries_from el at e shown k zero = []
entries_from el at e shown k (suc n) = entry_text shown (entry_at el at e k) ++ entries_from el at e (shown_after shown (entry_at el at e k)) (k + 1) n

-- 01: "No entries shows `{ }`; no table shows nothing."
abbrev pub table_text : (ℕ → Option Elem) → ℕ → Result (Option Entries) BadSwitch → List ℕ
table_text el at (Ok None) = []
table_text el at (Ok (Some e)) = ascii " {" ++ entries_from el at e false 0 e.count ++ ascii " }"
table_text el at (Err e) = []

abbrev pub bytes_of : List ℕ → Instr → List ℕ
bytes_of code i = take (i.end - i.offset) (drop i.offset code)

abbrev pub place_text : List ℕ → Instr → List ℕ
place_text code i = replicate 10 32 ++ ascii " @ " ++ pad_left 4 (decimal i.offset) ++ ascii " : " ++ pad_right 18 (hex_bytes (bytes_of code i)) ++ ascii " "

unfoldable pub line_by : View → Flow → Instr → List ℕ
line_by v flow i =
    place_text v.code i
    ++ instr_name v.opcodes i.opcode i.scale ++ operands_text v i ++ target_text (jump_target v.elem flow i)
    ++ table_text v.elem (here i) (jump_table v.pooled flow i) ++ ascii "\n"

abbrev pub line_text : View → Instr → List ℕ
line_text v i = line_by v (v.opcodes.flow i.opcode) i
