-- 01's rows P1 to P12, and what the definitions that the public contracts cite say of each.
use Rattle.std.specs.Prelude.{ℕ, List, [], ◌∷◌, pos, replicate, Option, Some, None, Result, Ok, Err}
use Rattle.laws.specs.Ascii.{ascii}
use Rattle.layout.specs.Layout.{layout_of}
use Rattle.decoder.specs.Decode.{Decoded, refused_at}
use Rattle.bytecode.specs.Decode.{decode_one}
use Rattle.lines.specs.Line.{View, line_text}
use Rattle.targets.specs.Targets.{found}
use Rattle.function.specs.Files.{Files}
use Rattle.refusal.specs.Refusal.{Refusal}
use Rattle.search.specs.declared.Walked.{Walked}
use Rattle.refusal.specs.declared.Fault.TheVariants as fault
use Rattle.search.specs.declared.Walked.TheVariants as walked-as
use Rattle.function.specs.Pool.{lent_pool, lent_elem}
use Rattle.jumps.specs.Jumps.{target_call}
use Rattle.walk.specs.Walk.{walk_lent}
use Rattle.sample.specs.Sample.{opcodes, types, layout}
use Rattle.flow.specs.Opcodes.{opcodes_of}

-- what a row asks of a code: the instruction at a place; the line of its first instruction; that one's target; its walks, over a mark buffer
-- of so many sevens
pub data Asked : Type 0 where
  decodes : List ℕ → ℕ → Asked
  lists : List ℕ → Asked
  jumps : List ℕ → Asked
  walks : List ℕ → ℕ → Asked

-- what it is told: as `bytecode::decode` answers; the line of the first instruction, whole; as `jumps::jump_target`
-- answers; as `walk::walk_code` answers, and the marks behind it
pub data Told : Type 0 where
  decoded : Decoded → Told
  line : List ℕ → Told
  target : Result (Option (Option ℕ)) Refusal → Told
  walked : Result Walked Refusal × List ℕ → Told

-- "No runtime names, and no pool unless named"
abbrev pub files : Files
files = record { opcodes = opcodes; types = types; runtime = []; intrinsic = []; layout = layout; objects = []; slots = []; payload = [] }

-- a function of one parameter
abbrev pub view : List ℕ → View
view code = record {
  code = code;
  opcodes = opcodes_of opcodes;
  names = record { types = types; runtime = []; intrinsic = [] };
  frame = (layout_of layout).frame;
  params = pos 1;
  pooled = found (lent_pool files None);
  elem = lent_elem files None;
}

-- the line of what was decoded, or that there is no instruction
abbrev pub line_told : List ℕ → Decoded → Told
line_told code (Ok (Some i)) = line (line_text (view code) i)
line_told code (Ok None) = decoded (Ok None)
line_told code (Err r) = decoded (Err r)

unfoldable pub told : Asked → Told
told (decodes code at) = decoded (decode_one opcodes types layout code at)
told (lists code) = line_told code (decode_one opcodes types layout code 0)
told (jumps code) = target (target_call files None code 0)
told (walks code marks) = walked (walk_lent files None code (replicate marks 7))

-- P1 to P12
unfoldable pub asked : List Asked
asked =
    decodes [] 0
    ∷ lists (0x03 ∷ 0xff ∷ [])
    ∷ lists (0x00 ∷ 0x03 ∷ 0x80 ∷ 0x01 ∷ [])
    ∷ lists (0x01 ∷ 0x03 ∷ 0x00 ∷ 0x00 ∷ 0x00 ∷ 0x80 ∷ [])
    ∷ decodes (0x02 ∷ 0x01 ∷ []) 1
    ∷ decodes (0x00 ∷ 0x0c ∷ []) 0
    ∷ lists (0x0a ∷ 0x05 ∷ 0x00 ∷ 0xfa ∷ 0x02 ∷ [])
    ∷ decodes (0x0a ∷ 0x05 ∷ 0x00 ∷ 0xfa ∷ []) 0
    ∷ jumps (0x07 ∷ 0x03 ∷ 0x00 ∷ [])
    ∷ walks (0x05 ∷ 0x01 ∷ []) 4
    ∷ walks (0x00 ∷ 0x05 ∷ 0x03 ∷ 0x00 ∷ 0x02 ∷ []) 7
    ∷ walks (0x06 ∷ 0x02 ∷ 0x0b ∷ []) 5
    ∷ []

-- what 01 says of them. Of a line 01 gives the operands, and at P3 the name: they stand in the whole line.
unfoldable pub rows : List Told
rows =
    decoded (Ok None)
    ∷ line (ascii "           @    0 : 03 ff              LdaSmi [-1]\n")
    ∷ line (ascii "           @    0 : 00 03 80 01        LdaSmi.Wide [384]\n")
    ∷ line (ascii "           @    0 : 01 03 00 00 00 80  LdaSmi.ExtraWide [-2147483648]\n")
    ∷ decoded (refused_at fault.EndsAfterExtraWide 1)
    ∷ decoded (refused_at fault.NoOpcode 0)
    ∷ line (ascii "           @    0 : 0a 05 00 fa 02     CallRuntime [5], r0-r1\n")
    ∷ decoded (refused_at fault.EndsInCount 4)
    ∷ target (Ok (Some (Some 18446744073709551613)))
    ∷ walked (Ok (walked-as.Leaves 1 0), 1 ∷ 0 ∷ 7 ∷ 7 ∷ [])
    ∷ walked (Ok (walked-as.Leaves 2 4), 1 ∷ 0 ∷ 0 ∷ 0 ∷ 1 ∷ 7 ∷ 7 ∷ [])
    ∷ walked (Ok walked-as.Closed, 1 ∷ 0 ∷ 1 ∷ 7 ∷ 7 ∷ [])
    ∷ []
