-- That no line is longer than its room. Assumes nothing.
use Prim.Native.Nat.{ℕ, zero, suc, ◌+◌, ◌-◌, ◌*◌, ◌/◌, ◌≤◌, min}
use mathlib.Core.Bool.{Bool, false, cond}
use mathlib.Core.List.{List, [], ◌∷◌, ◌++◌}
use native.Mathlib.Omega.{arith}
use lib.Dec.{ltb, eqb}
use lib.IntN.{ℤ, pos, negsuc, ◌-ℤ◌}
use lib.ListN.{length, drop, length-append, length-take, length-replicate}
use Rattle.laws.specs.Ascii.{ascii}
use Rattle.laws.proofs.Scan.{first-within}
use Rattle.words.specs.Signed.{wrap32, list_last, negative, eq_z}
use Rattle.text.specs.Texts.{signed_decimal, hex_byte, hex_bytes}
use Rattle.text.proofs.Texts.{either, digits_few, next_length}
use Rattle.layout.specs.declared.Frame.{Frame}
use Rattle.tables.specs.Names.{name_at, is_zero}
use Rattle.tables.specs.Records.{opcode_name_size, opcode_start}
use Rattle.tables.specs.Texts.{runtime_name, intrinsic_name}
use Rattle.operand.specs.declared.Operand.{Operand}
use Rattle.decoder.specs.declared.Instr.{Instr}
use Rattle.flow.specs.Opcodes.{Opcodes, opcodes_of}
use Rattle.flow.specs.declared.Kind.{Kind}
use Rattle.flow.specs.declared.Flow.{Flow}
use Rattle.bytecode.specs.Texts.{NameFiles, param_name, reg_name, list_name, operand_text, instr_name}
use Rattle.std.specs.Prelude.{Option, Some, None, Result, Ok, Err}
use Rattle.targets.specs.declared.Case.{Case}
use Rattle.serializer.specs.declared.Elem.{Elem}
use Rattle.targets.specs.Targets.{operand_of, here, distance_by, target_from, target_back, target_by, jump_target, jump_table, entry_at}
use Rattle.targets.specs.declared.Entries.{Entries}
use Rattle.lines.specs.Line.{View, before, operands_by, target_text, entry_text, shown_after, entries_from, table_text, bytes_of, place_text, line_by}
use Rattle.lines.specs.mirror.Room.{entries_of, target_room, line_room}
use Rattle.operand.specs.declared.Operand.TheVariants as op
use Rattle.flow.specs.declared.Kind.TheVariants as kind
use Rattle.targets.specs.declared.BadSwitch.{BadSwitch}

-- ---- numbers, bytes and names

pub signed_room : (z : ℤ) → length (signed_decimal z) ≤ 21
signed_room (pos n) = omega (arith, digits_few n)
signed_room (negsuc n) = omega (arith, digits_few (suc n))

hex_room : (s : List ℕ) → length (hex_bytes s) ≤ 3 * length s
unfolding hex_byte
hex_room [] = omega arith
hex_room (b ∷ s) = omega (arith, next_length s)

name_room : (s : List ℕ) (at w : ℕ) → length (name_at s at w) ≤ w
unfolding name_at
name_room s at w = rw length-take (omega (arith, (first-within (is_zero s) at w).1))

runtime_room : (s : List ℕ) (id : ℕ) → length (runtime_name s id) ≤ 64
unfolding runtime_name
runtime_room s id = either (ltb id (length s / 64)) _ _ (name_room s _ 64) (omega (arith, digits_few id))

intrinsic_room : (s : List ℕ) (id : ℕ) → length (intrinsic_name s id) ≤ 64
unfolding intrinsic_name
intrinsic_room s id = either (ltb id (length s / 64)) _ _ (name_room s _ 64) (simp length-append (omega (arith, digits_few id)))

-- an opcode's name takes no more than its field
abbrev pub NamesFit : Opcodes → Type 0
NamesFit ops = (op : ℕ) → length (ops.name op) ≤ opcode_name_size

pub names_fit : (s : List ℕ) → NamesFit (opcodes_of s)
names_fit s op = name_room s (opcode_start op) opcode_name_size

instr_room : (ops : Opcodes) → NamesFit ops → (opcode scale : ℕ) → length (instr_name ops opcode scale) ≤ 50
unfolding instr_name
instr_room ops short opcode scale =
    let h : length (cond (eqb scale 1) [] (cond (eqb scale 2) (ascii ".Wide") (ascii ".ExtraWide"))) ≤ 10 =
    either (eqb scale 1) _ _ (omega arith) (either (eqb scale 2) _ _ (omega arith) (omega arith)) in
    rw length-append (omega (arith, short opcode))

-- ---- operands

param_room : (p : ℤ) → length (param_name p) ≤ 22
unfolding param_name
param_room p = either (eq_z p (pos 0)) _ _ (omega arith) (omega (arith, signed_room (wrap32 (p -ℤ pos 1))))

before_room : (k : ℕ) → length (before k) ≤ 2
before_room zero = omega arith
before_room (suc k) = omega arith

module _ (frame : Frame) (params : ℤ) where
  reg_room : (index : ℤ) → length (reg_name frame params index) ≤ 22
  unfolding reg_name
  reg_room index =
      either (eq_z index frame.context) _ _ (omega arith)
      (either (eq_z index frame.closure) _ _ (omega arith)
      (either (negative index) _ _ (param_room _) (omega (arith, signed_room index))))

  list_room : (first : ℤ) (count : ℕ) → length (list_name frame params first count) ≤ 45
  unfolding list_name
  list_room first count = either (eqb count 0) _ _ (two (pos 0) (pos 0)) (two first (list_last first count))
    where
      two : (a b : ℤ) → length (reg_name frame params a ++ ascii "-" ++ reg_name frame params b) ≤ 45
      two a b = simp length-append (omega (arith, reg_room a, reg_room b))

  operand_room : (files : NameFiles) (o : Option Operand) → length (operand_text files frame params o) ≤ 70
  unfolding operand_text
  operand_room files None = omega arith
  operand_room files (Some (op.Reg i)) = omega (arith, reg_room i)
  operand_room files (Some (op.RegList first count)) = omega (arith, list_room first count)
  operand_room files (Some (op.Imm v)) = simp length-append (omega (arith, signed_room v))
  operand_room files (Some (op.Idx v)) = simp length-append (omega (arith, digits_few v))
  operand_room files (Some (op.Flag8 v)) = omega (arith, digits_few v)
  operand_room files (Some (op.Flag16 v)) = omega (arith, digits_few v)
  operand_room files (Some (op.RuntimeId v)) = simp length-append (omega (arith, runtime_room files.runtime v))
  operand_room files (Some (op.IntrinsicId v)) = simp length-append (omega (arith, intrinsic_room files.intrinsic v))
  operand_room files (Some (op.Raw ty v)) = simp length-append (omega (arith, name_room files.types (ty * 32) 28, digits_few v))

  operands_room : (files : NameFiles) (i : Instr) (k n : ℕ) → length (operands_by files frame params i k n) ≤ 72 * n
  unfolding operands_by
  operands_room files i k zero = omega arith
  operands_room files i k (suc n) = simp length-append (omega (arith, before_room k, operand_room files (operand_of i k), operands_room files i (k + 1) n))

-- ---- the target and the entries

some_target : (t : Option ℕ) → length (target_text t) ≤ 30
some_target (Some t) = simp length-append (omega (arith, digits_few t))
some_target None = omega arith

target_room_lem : (k : Kind) (at : ℕ) (d : Option ℤ) → length (target_text (target_by k at d)) ≤ target_room k
target_room_lem kind.On at d = omega arith
target_room_lem kind.Ends at d = omega arith
target_room_lem kind.Jumps at d = some_target (target_from at d)
target_room_lem kind.Branches at d = some_target (target_from at d)
target_room_lem kind.JumpsBack at d = some_target (target_back at d)
target_room_lem kind.Switch at d = omega arith

entry_room : (shown : Bool) (e : Option Case) → length (entry_text shown e) ≤ 46
entry_room shown (Some c) =
    let h : length (cond shown (ascii ",") []) ≤ 1 = either shown _ _ (omega arith) (omega arith) in
    simp length-append (omega (arith, signed_room c.case, digits_few c.target))
entry_room shown None = omega arith

module _ (el : ℕ → Option Elem) (at : ℕ) where
  entries_room : (e : Entries) (shown : Bool) (k n : ℕ) → length (entries_from el at e shown k n) ≤ 46 * n
  unfolding entries_from
  entries_room e shown k zero = omega arith
  entries_room e shown k (suc n) =
      simp length-append (omega (arith, entry_room shown (entry_at el at e k), entries_room e (shown_after shown (entry_at el at e k)) (k + 1) n))

  table_room : (t : Result (Option Entries) BadSwitch) → length (table_text el at t) ≤ 46 * entries_of t + 4
  table_room (Ok None) = omega arith
  table_room (Ok (Some e)) = simp length-append (omega (arith, entries_room e false 0 e.count))
  table_room (Err e) = omega arith

-- ---- the line

place_room : (code : List ℕ) (i : Instr) → length (place_text code i) ≤ 55 + 3 * (i.end - i.offset)
place_room code i =
    simp (length-append, length-replicate)
    (omega (arith, digits_few i.offset, hex_room (bytes_of code i), length-take (i.end - i.offset) (drop i.offset code)))

pub line_room_lem : (v : View) → NamesFit v.opcodes → (flow : Flow) (i : Instr)
    → length (line_by v flow i) ≤ line_room flow (min i.count 8) (i.end - i.offset) (jump_table v.pooled flow i)
unfolding line_room line_by jump_target
line_room_lem v short flow i =
    simp length-append (omega (
      arith,
      simp length-append at (place_room v.code i),
      instr_room v.opcodes short i.opcode i.scale,
      operands_room v.frame v.params v.names i 0 (min i.count 8),
      target_room_lem flow.kind (here i) (distance_by v.elem flow.pool (operand_of i flow.first)),
      table_room v.elem (here i) (jump_table v.pooled flow i),
    ))

-- room for more operands is room
pub room_more : (flow : Flow) {m n : ℕ} (size : ℕ) (t : Result (Option Entries) BadSwitch) → m ≤ n → line_room flow m size t ≤ line_room flow n size t
unfolding line_room
room_more flow size t h = omega arith
