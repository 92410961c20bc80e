-- 01's names of instructions that do not go straight on, and the flow of each: what a conversion fills in.
use Rattle.std.specs.Prelude.{ℕ, List, [], ◌∷◌, ◌++◌, Bool, true, false, get_or, replicate}
use Rattle.laws.specs.Ascii.{ascii}
use Rattle.laws.specs.Scan.{first_from}
use Rattle.tables.specs.Names.{is_named}
use Rattle.tables.specs.Records.{opcode_name_size}
use Rattle.flow.specs.declared.Kind.TheVariants.{On, Ends, Jumps, Branches, JumpsBack, Switch}
use Rattle.flow.specs.declared.Flow.{Flow}
use Rattle.flow.specs.Flow.{plain}

-- 01: "Return, SuspendGenerator, Throw, ReThrow, Abort end it."
abbrev pub end_names : List (List ℕ)
end_names = ascii "Return" ∷ ascii "SuspendGenerator" ∷ ascii "Throw" ∷ ascii "ReThrow" ∷ ascii "Abort" ∷ []

-- "Jump, JumpConstant, JumpLoop, JumpLoopConstant go to the target."
abbrev pub jump_names : List (List ℕ)
jump_names = ascii "Jump" ∷ ascii "JumpConstant" ∷ ascii "JumpLoop" ∷ ascii "JumpLoopConstant" ∷ []

-- "Other names in `jump_target`'s list go to the target or e": the Rust's list, those whose distance is an operand
abbrev pub branch_names : List (List ℕ)
branch_names =
    ascii "JumpIfTrue" ∷ ascii "JumpIfFalse" ∷ ascii "JumpIfToBooleanTrue" ∷ ascii "JumpIfToBooleanFalse" ∷ ascii "JumpIfNull" ∷ ascii "JumpIfNotNull"
    ∷ ascii "JumpIfUndefined" ∷ ascii "JumpIfUndefinedOrNull" ∷ ascii "JumpIfNotUndefined" ∷ ascii "JumpIfJSReceiver" ∷ ascii "JumpIfNotHole" ∷ ascii "JumpIfReferenceError" ∷ ascii "JumpIfNotReferenceError" ∷ []

-- .. and those whose distance comes from the pool
abbrev pub constant_names : List (List ℕ)
constant_names =
    ascii "JumpIfTrueConstant" ∷ ascii "JumpIfFalseConstant" ∷ ascii "JumpIfToBooleanTrueConstant" ∷ ascii "JumpIfToBooleanFalseConstant" ∷ ascii "JumpIfNullConstant"
    ∷ ascii "JumpIfNotNullConstant" ∷ ascii "JumpIfUndefinedConstant" ∷ ascii "JumpIfUndefinedOrNullConstant" ∷ ascii "JumpIfNotUndefinedConstant"
    ∷ ascii "JumpIfJSReceiverConstant" ∷ ascii "JumpIfNotHoleConstant" ∷ ascii "JumpIfReferenceErrorConstant" ∷ ascii "JumpIfNotReferenceErrorConstant" ∷ []

-- "only the two .. switch names have entries"
abbrev pub switch_names : List (List ℕ)
switch_names = ascii "SwitchOnSmiNoFeedback" ∷ ascii "SwitchOnGeneratorState" ∷ []

unfoldable pub flow_names : List (List ℕ)
flow_names = end_names ++ jump_names ++ branch_names ++ constant_names ++ switch_names

-- the flow of each of these names; a switch reads its table, no distance, from the pool
unfoldable pub flows : List Flow
flows =
    replicate 5 (plain Ends false)
    ++ (plain Jumps false ∷ plain Jumps true ∷ plain JumpsBack false ∷ plain JumpsBack true ∷ [])
    ++ replicate 13 (plain Branches false) ++ replicate 13 (plain Branches true)
    ++ (record { kind = Switch; pool = false; first = 0; base = true } ∷ record { kind = Switch; pool = false; first = 1; base = false } ∷ [])

abbrev pub has_flow_name : List ℕ → ℕ → ℕ → Bool
has_flow_name ops at k = is_named ops at opcode_name_size (get_or flow_names k [])

-- the number of the name of the opcode record at place at, 37 where it is none of these
unfoldable pub flow_number : List ℕ → ℕ → ℕ
flow_number ops at = first_from (has_flow_name ops at) 0 37

-- "All others go to e."
unfoldable pub flow_by : ℕ → Flow
flow_by k = get_or flows k (plain On false)
