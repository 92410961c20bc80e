-- Law `decoded` (decoder/proofs/Agree.antt): the operands read so, one after the other, are those of decoder/specs/Decode.antt.
-- How the code reads one operand.
use Rattle.std.specs.Prelude.{ℕ, ◌+◌, ◌%◌, ◌^◌, min, List, Bool, cond, ◌&&◌, leb, eqb, length, ℤ, Option, Some, None, Result, Ok, Err}
use Rattle.words.specs.Le.{le_at}
use Rattle.tables.specs.Records.{width}
use Rattle.refusal.specs.Check.{refusal_at}
use Rattle.operand.specs.Operand.{is_list, interpret}
use Rattle.operand.specs.declared.Step.{Step}
use Rattle.operand.specs.declared.Operand.{Operand}
use Rattle.refusal.specs.Refusal.{Refusal}
use Rattle.refusal.specs.declared.Fault.TheVariants as fault

-- a RegCount (8) right after a list, which has read it
unfoldable pub is_counted : ℕ → ℕ → Bool
is_counted t before = eqb t 8 && is_list before

-- the number at a place that an operand of w bytes holds
unfoldable pub value_at : List ℕ → ℕ → ℕ → ℕ
value_at code at w = le_at code at (min w 8)

-- what reading an operand finds: nothing for a RegCount that a list has read, the operand and where it ends, or a refusal
abbrev pub Reads : Type 0
Reads = Result (Option Step) Refusal

abbrev pub read : Operand → ℕ → Reads
read operand next = Ok (Some (record { operand = operand; next = next }))

-- the operand of type code t at a place: a RegCount right after a list is skipped; number 14 where
-- the code ends in the operand, 15 where it ends in a list's count
unfoldable pub operand_at : List ℕ → List ℕ → ℕ → ℕ → ℕ → ℕ → ℤ → Reads
operand_at code types t before scale at start =
    let w = width types t scale in
    let cw = width types 8 scale in
    let v = value_at code at w in
    cond (is_counted t before) (Ok None)
    (cond (leb (at + w) (length code))
    (cond (is_list t)
    (cond (leb (at + w + cw) (length code))
    (read (interpret t v w (value_at code (at + w) cw % 2 ^ 32) start) (at + w + cw))
    (Err (refusal_at fault.EndsInCount (at + w))))
    (read (interpret t v w 0 start) (at + w)))
    (Err (refusal_at fault.EndsInOperand at)))
