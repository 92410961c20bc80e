-- A function's header and code, the instruction at a place, and the checks that are met as code is decoded: 11 to 16.
use Rattle.std.specs.Prelude.{ℕ, List, [], ◌∷◌, Bool, take, drop}
use Rattle.std.specs.Prelude.{Option, Result, Ok, Err}
use Rattle.refusal.specs.Refusal.{Refusal}
use Rattle.refusal.specs.Check.{Check}
use Rattle.header.specs.declared.Header.{Header}
use Rattle.targets.specs.declared.Entries.{Entries}
use Rattle.refusal.specs.declared.Fault.TheVariants as fault
use Rattle.refusal.specs.Check.{refused, first_refusal}
use Rattle.store.specs.Records.{object_of}
use Rattle.layout.specs.Layout.{signed_value, layout_of}
use Rattle.header.specs.Header.{header_of}
use Rattle.decoder.specs.declared.Instr.{Instr}
use Rattle.decoder.specs.Decode.{Decoded}
use Rattle.decoder.specs.Listed.{Listing, decodes}
use Rattle.flow.specs.Opcodes.{Opcodes, opcodes_of}
use Rattle.targets.specs.Targets.{jump_table}
use Rattle.function.specs.Files.{Files}
use Rattle.targets.specs.declared.BadSwitch.{BadSwitch}

-- ---- the header and the code of an object
abbrev pub header_at : Files → ℕ → Result Header Refusal
header_at f k = header_of f.slots f.payload (object_of f.objects k) (layout_of f.layout)

-- row 9
abbrev pub header_check : Result Header Refusal → Check
header_check (Ok h) = Ok tt
header_check (Err r) = Err r

-- the code of a header; of one that is refused there is none
abbrev pub code_of : Files → Result Header Refusal → List ℕ
code_of f (Ok h) = take h.code_len (drop h.code_at f.payload)
code_of f (Err r) = []

-- ---- lent code
-- 20 and 11 to 15, and "end" at the code's length, by decoding at the place
abbrev pub decoded_at : Files → List ℕ → ℕ → Decoded
decoded_at f code at = decodes code (opcodes_of f.opcodes) f.types (signed_value f.layout 13) at

-- ---- 11 to 16
abbrev pub table_check : Result (Option Entries) BadSwitch → ℕ → Check
table_check (Ok t) at = Ok tt
table_check (Err e) at = refused fault.BadSwitch at

-- 16: "any listed instruction, reached or not"; the place is the instruction's start
unfoldable pub switch_check : Opcodes → Bool → List Instr → Check
switch_check ops pooled [] = Ok tt
switch_check ops pooled (i ∷ is) = first_refusal (table_check (jump_table pooled (ops.flow i.opcode) i) i.offset) (switch_check ops pooled is)

-- 11 to 15, "met as decoding goes on", come before 16, wherever they lie
abbrev pub listing_check : Opcodes → Bool → Listing → Check
listing_check ops pooled l = first_refusal l.check (switch_check ops pooled l.instrs)
