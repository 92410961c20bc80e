-- Laws `extent_done`, `extent_any` (proofs/Extents.antt): the sizes add up to where decoding ends, whatever reg_file_start is.
-- An instruction without its operands.
use Rattle.std.specs.Prelude.{ℕ, ◌+◌, List, [], ◌∷◌, cond, Option, Some, None, Result, Ok, Err}
use Rattle.tables.specs.Records.{width}
use Rattle.operand.specs.Operand.{is_list}
use Rattle.operand.specs.mirror.Step.{is_counted}
use Rattle.refusal.specs.Refusal.{Refusal}
use Rattle.decoder.specs.Decode.{Decoded}
use Rattle.decoder.specs.declared.Extent.{Extent}

abbrev pub extent_of : Decoded → Result (Option Extent) Refusal
extent_of (Ok (Some i)) = Ok (Some (record { opcode = i.opcode; scale = i.scale; end = i.end }))
extent_of (Ok None) = Ok None
extent_of (Err r) = Err r

-- the bytes of an operand of type t behind one of type before: a RegCount right after a list has none, a list those of its count too
unfoldable pub size_of : List ℕ → ℕ → ℕ → ℕ → ℕ
size_of types scale before t =
    cond (is_counted t before) 0 (cond (is_list t) (width types t scale + width types 8 scale) (width types t scale))

-- of operands of these types
unfoldable pub size_from : List ℕ → ℕ → ℕ → List ℕ → ℕ
size_from types scale before [] = 0
size_from types scale before (t ∷ ts) = size_of types scale before t + size_from types scale t ts
