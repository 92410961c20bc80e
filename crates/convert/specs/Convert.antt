-- 02, Wish 6: "Add conversion from 64-byte records, filled from document 01's names, unused bytes 0, and back."
use Rattle.std.specs.Prelude.{ℕ, ◌*◌, ◌/◌, Bool, cond, not, ◌&&◌, List, [], ◌∷◌, ◌++◌, eqb, length, take, drop, replicate}
use Rattle.std.specs.Prelude.{Result, Err}
use Rattle.refusal.specs.Refusal.{Refusal}
use Rattle.refusal.specs.Check.{Check}
use Rattle.refusal.specs.declared.Fault.TheVariants as fault
use Rattle.refusal.specs.Check.{first_refusal, first_bad, guarded_on}
use Rattle.text.specs.Written.{put_text}
use Rattle.tables.specs.declared.Form.TheVariants.{Old, New}
use Rattle.tables.specs.Records.{opcode_count, opcode_start, op_byte, old_size}
use Rattle.tables.specs.Check.{check_pair}
use Rattle.flow.specs.declared.Kind.{Kind}
use Rattle.flow.specs.declared.Kind.TheVariants.{On, Ends, Jumps, Branches, JumpsBack, Switch}
use Rattle.flow.specs.declared.Flow.{Flow}
use Rattle.convert.specs.Names.{flow_number, flow_by}
use Rattle.convert.specs.Records.{joined}

-- "Byte 50 is the flow: 0 straight on, 1 ends, 2 jumps, 3 jumps or goes on, 4 jumps back, 5 switch."
abbrev pub kind_byte : Kind → ℕ
kind_byte On = 0
kind_byte Ends = 1
kind_byte Jumps = 2
kind_byte Branches = 3
kind_byte JumpsBack = 4
kind_byte Switch = 5

abbrev pub bit : Bool → ℕ
bit b = cond b 1 0

-- bytes 50 to 53
abbrev pub flow_bytes : Flow → List ℕ
flow_bytes f = kind_byte f.kind ∷ bit f.pool ∷ f.first ∷ bit f.base ∷ []

-- the flow by the name of the record at place at
abbrev pub named_flow : List ℕ → ℕ → Flow
named_flow s at = flow_by (flow_number s at)

-- what records of both forms have: name, mark, count and codes
abbrev pub fields : List ℕ → ℕ → List ℕ
fields s at = take 50 (drop at s)

-- to new
abbrev pub new_record : List ℕ → ℕ → List ℕ
new_record ops k = fields ops (k * old_size) ++ flow_bytes (named_flow ops (k * old_size)) ++ replicate 18 0

unfoldable pub new_file : List ℕ → List ℕ
new_file ops = joined (new_record ops) 0 (length ops / old_size)

unfoldable pub to_new_call : List ℕ → List ℕ → List ℕ → Result ℕ Refusal × List ℕ
to_new_call ops tys out = guarded_on (check_pair Old ops tys) Err out (put_text (new_file ops) out)

-- and back
abbrev pub old_record : List ℕ → ℕ → List ℕ
old_record ops k = fields ops (opcode_start k) ++ replicate 14 0

unfoldable pub old_file : List ℕ → List ℕ
old_file ops = joined (old_record ops) 0 (opcode_count ops)

-- 27: "a way back for which the name would give other bytes"
unfoldable pub other_flow : List ℕ → ℕ → Bool
other_flow ops k =
    let f = named_flow ops (opcode_start k) in
    not (eqb (op_byte ops k 50) (kind_byte f.kind) && eqb (op_byte ops k 51) (bit f.pool) && eqb (op_byte ops k 52) f.first && eqb (op_byte ops k 53) (bit f.base))

-- "after all table checks"
unfoldable pub check_back : List ℕ → List ℕ → Check
check_back ops tys = first_refusal (check_pair New ops tys) (first_bad fault.OtherFlow (other_flow ops) (opcode_count ops))

unfoldable pub to_old_call : List ℕ → List ℕ → List ℕ → Result ℕ Refusal × List ℕ
to_old_call ops tys out = guarded_on (check_back ops tys) Err out (put_text (old_file ops) out)
