-- Where an instruction begins: the end of the code, a prefix, an opcode. 01: "A prefix opcode .. sets scale 2 or 4. The byte after it is looked up
-- as an opcode even if it is itself a prefix."
use Rattle.std.specs.Prelude.{ℕ, ◌+◌, List, cond, leb, ltb, eqb, length, get_or, Option, Some, None, Result, Ok, Err}
use Rattle.refusal.specs.Check.{refusal_at}
use Rattle.prefix.specs.declared.Head.{Head}
use Rattle.refusal.specs.Refusal.{Refusal}
use Rattle.refusal.specs.declared.Fault.{Fault}
use Rattle.refusal.specs.declared.Fault.TheVariants as fault
use Rattle.tables.specs.Records.{is_op}
use Rattle.tables.specs.declared.Prefixes.{Prefixes}

-- an opcode with its scale and where its operands begin; nothing at the end of the code; or a refusal
abbrev pub Begins : Type 0
Begins = Result (Option Head) Refusal

-- the opcode at place at with a scale, if a record has it: number 13 at the instruction's start where none has
abbrev pub op_at : List ℕ → ℕ → ℕ → ℕ → ℕ → Begins
op_at code ops start scale at =
    cond (leb ops (get_or code at 0)) (Err (refusal_at fault.NoOpcode start)) (Ok (Some (record { opcode = get_or code at 0; scale = scale; at = at + 1 })))

-- behind a prefix: where the code ends there, refused for the fault given, at the prefix
abbrev pub behind : List ℕ → ℕ → ℕ → Fault → ℕ → Begins
behind code ops start fault scale = cond (eqb (start + 1) (length code)) (Err (refusal_at fault start)) (op_at code ops start scale (start + 1))

-- number 20 beyond the end; the end; a Wide or an ExtraWide prefix; or an opcode
unfoldable pub head_at : List ℕ → ℕ → ℕ → Prefixes → Begins
head_at code ops start prefixes =
    cond (ltb (length code) start) (Err (refusal_at fault.BeyondCode start))
    (cond (eqb start (length code)) (Ok None)
    (cond (is_op prefixes.wide (get_or code start 0)) (behind code ops start fault.EndsAfterWide 2)
    (cond (is_op prefixes.extra_wide (get_or code start 0)) (behind code ops start fault.EndsAfterExtraWide 4)
    (op_at code ops start 1 start))))
