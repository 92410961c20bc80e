-- V8's conditional jumps, from bytecodes.h (10.2 and 11.3) alone: nothing of ours stands here.
use Prim.Native.String.{String}
use Rattle.std.specs.Prelude.{List, [], ◌∷◌}

-- JUMP_CONDITIONAL_IMMEDIATE_BYTECODE_LIST and JUMP_CONDITIONAL_CONSTANT_BYTECODE_LIST; JumpLoop, Jump and JumpConstant jump always
abbrev pub conditional_immediates : List String
conditional_immediates =
    "JumpIfToBooleanTrue" ∷ "JumpIfToBooleanFalse" ∷ "JumpIfTrue" ∷ "JumpIfFalse" ∷ "JumpIfNull" ∷ "JumpIfNotNull" ∷ "JumpIfUndefined" ∷ "JumpIfNotUndefined"
    ∷ "JumpIfUndefinedOrNull" ∷ "JumpIfJSReceiver" ∷ []

abbrev pub conditional_constants : List String
conditional_constants =
    "JumpIfToBooleanTrueConstant" ∷ "JumpIfToBooleanFalseConstant" ∷ "JumpIfNullConstant" ∷ "JumpIfNotNullConstant" ∷ "JumpIfUndefinedConstant"
    ∷ "JumpIfNotUndefinedConstant" ∷ "JumpIfUndefinedOrNullConstant" ∷ "JumpIfTrueConstant" ∷ "JumpIfFalseConstant" ∷ "JumpIfJSReceiverConstant" ∷ []
