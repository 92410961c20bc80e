-- Decoding one instruction, as a call of 01: the checks for what it is lent, in 01's order, then the instruction at the place.
use Rattle.std.specs.Prelude.{ℕ, List, [], leb, length, Err}
use Rattle.refusal.specs.Check.{Check}
use Rattle.refusal.specs.declared.Fault.TheVariants as fault
use Rattle.refusal.specs.Check.{first_refusal, refuse_unless, guarded}
use Rattle.tables.specs.Check.{check_table}
use Rattle.layout.specs.Layout.{signed_value}
use Rattle.flow.specs.Opcodes.{opcodes_of}
use Rattle.decoder.specs.Decode.{Decoded}
use Rattle.decoder.specs.Listed.{decodes}

-- row 10: "lent code above 65,536 bytes"
abbrev pub check_code : List ℕ → Check
check_code code = refuse_unless (leb (length code) 65536) fault.LongCode

-- it is lent no name files
unfoldable pub decode_one : List ℕ → List ℕ → List ℕ → List ℕ → ℕ → Decoded
decode_one ops types layout code start =
    guarded (first_refusal (check_table ops types [] [] layout) (check_code code)) Err
    (decodes code (opcodes_of ops) types (signed_value layout 13) start)
