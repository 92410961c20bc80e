-- 01's sample table, under its real names, as the record files; opcodes with their flows, as 02's Wish 6 fills them in.
use Rattle.std.specs.Prelude.{ℕ, ◌-◌, ◌/◌, ◌%◌, List, [], ◌∷◌, ◌++◌, length, take, replicate}
use Prim.Native.String.{String}
use Rattle.laws.specs.Ascii.{ascii}

-- a list with zeros behind it, n long
unfoldable pub padded : ℕ → List ℕ → List ℕ
padded n l = take n (l ++ replicate n 0)

-- an opcode record: its name, prefix mark, type codes and the bytes of its flow
unfoldable pub opcode : String → ℕ → List ℕ → List ℕ → List ℕ
opcode name prefix types flow = padded 40 (ascii name) ++ padded 10 (prefix ∷ length types ∷ types) ++ padded 22 flow

-- a type record of a size, scalable or not
unfoldable pub typed : String → ℕ → ℕ → List ℕ
typed name size scalable = padded 28 (ascii name) ++ (size ∷ scalable ∷ 1 ∷ 0 ∷ [])

-- 9 is Imm, 1 RegOut, 11 UImm, 10 Idx, 15 RuntimeId, 6 RegList, 8 RegCount
unfoldable pub opcodes : List ℕ
opcodes =
    opcode "Wide" 1 [] [] ++ opcode "ExtraWide" 2 [] [] ++ opcode "LdaZero" 0 [] [] ++ opcode "LdaSmi" 0 (9 ∷ []) [] ++ opcode "Star" 0 (1 ∷ []) []
    ++ opcode "Jump" 0 (11 ∷ []) (2 ∷ []) ++ opcode "JumpIfTrue" 0 (11 ∷ []) (3 ∷ []) ++ opcode "JumpLoop" 0 (11 ∷ 9 ∷ []) (4 ∷ [])
    ++ opcode "JumpConstant" 0 (10 ∷ []) (2 ∷ 1 ∷ []) ++ opcode "SwitchOnSmiNoFeedback" 0 (10 ∷ 11 ∷ 9 ∷ []) (5 ∷ 0 ∷ 0 ∷ 1 ∷ [])
    ++ opcode "CallRuntime" 0 (15 ∷ 6 ∷ 8 ∷ []) [] ++ opcode "Return" 0 [] (1 ∷ [])

-- "RuntimeId: 2, fixed; others 1, scalable"
unfoldable pub types : List ℕ
types =
    typed "Reg" 1 1 ++ typed "RegOut" 1 1 ++ typed "RegInOut" 1 1 ++ typed "RegPair" 1 1 ++ typed "RegOutPair" 1 1 ++ typed "RegOutTriple" 1 1
    ++ typed "RegList" 1 1 ++ typed "RegOutList" 1 1 ++ typed "RegCount" 1 1 ++ typed "Imm" 1 1 ++ typed "Idx" 1 1 ++ typed "UImm" 1 1
    ++ typed "NativeContextIndex" 1 1 ++ typed "Flag8" 1 1 ++ typed "Flag16" 1 1 ++ typed "RuntimeId" 2 0 ++ typed "IntrinsicId" 1 1

-- a value in four bytes
unfoldable pub four : ℕ → List ℕ
four v = v % 256 ∷ v / 256 % 256 ∷ v / 65536 % 256 ∷ v / 16777216 % 256 ∷ []

abbrev pub absent : ℕ
absent = 0xffffffff

-- a value below 0
abbrev pub minus : ℕ → ℕ
minus n = 0x100000000 - n

unfoldable pub fours : List ℕ → List ℕ
fours [] = []
fours (v ∷ vs) = four v ++ fours vs

unfoldable pub layout : List ℕ
layout =
    fours (8 ∷ 0 ∷ 54 ∷ 16 ∷ 24 ∷ 32 ∷ absent ∷ 40 ∷ 44 ∷ absent ∷ absent ∷ 53 ∷ 0 ∷ minus 6 ∷ minus 5 ∷ minus 4 ∷ minus 8 ∷ 0 ∷ 0 ∷ 0 ∷ [])
