-- The numbers of the instruction that decoding answers. Assumes nothing.
use Prim.Native.Nat.{ℕ, zero, suc, ◌+◌}
use mathlib.Core.Path.{◌≡◌, refl, ap, subst}
use mathlib.Core.Bool.{false}
use mathlib.Core.List.{List, [], ◌∷◌, map}
use lib.Dec.{ltb}
use lib.IntN.{ℤ}
use lib.ListN.{length, get_or}
use Rattle.laws.specs.Scan.{first_from}
use Rattle.laws.proofs.Tests.{by_test}
use Rattle.std.specs.Prelude.{Option, Some, None, Ok, Err}
use Rattle.refusal.specs.Check.{Check}
use Rattle.refusal.specs.Check.{guarded, first_refusal}
use Rattle.tables.specs.Check.{check_table}
use Rattle.layout.specs.Layout.{signed_value}
use Rattle.operand.specs.declared.Operand.{Operand}
use Rattle.flow.specs.Opcodes.{Opcodes, opcodes_of, prefixes_with}
use Rattle.decoder.specs.declared.Instr.{Instr}
use Rattle.prefix.specs.Head.{Begins, head_at}
use Rattle.decoder.specs.Decode.{Decoded, Part, parts_from, operand_types, part_width, offset_of, operands_from, is_short, short_fault, places_of, instr_of, refused_at, read_parts, decode_head, decode_at}
use Rattle.decoder.specs.Listed.{decodes}
use Rattle.bytecode.specs.Decode.{check_code, decode_one}
use Rattle.bytecode.specs.Numbers.{decoded_numbers}
use Rattle.numbers.specs.mirror.Instr.{NumbersAre}
use Rattle.numbers.proofs.Instr.{numbers_told_lem}
use Rattle.capi.specs.Told.{decode_told}

-- ---- what decoding answers has eight places for operands
places_length : (n : ℕ) (os : List Operand) → length (places_of n os) ≡ n
places_length zero os = refl
places_length (suc n) [] = ap suc (places_length n [])
places_length (suc n) (o ∷ os) = ap suc (places_length n os)

abbrev Eight : Decoded → Type 0
Eight (Ok (Some i)) = length i.operands ≡ 8
Eight (Ok None) = Unit {0}
Eight (Err r) = Unit {0}

eight_parts : (code types : List ℕ) (scale opcode : ℕ) (rfs : ℤ) (start at : ℕ) (ps : List Part) → Eight (read_parts code types scale opcode rfs start at ps)
unfolding read_parts
eight_parts code types scale opcode rfs start at ps =
    let ws = map (part_width types scale) ps in
    let k = first_from (is_short code ws at) 0 (length ps) in
    let os = operands_from code ws at rfs 0 ps in
    by_test Eight (ltb k (length ps)) {x = refused_at (short_fault (get_or ps k Part.count)) (at + offset_of ws k)}
    {y = Ok (Some (instr_of start opcode scale (at + offset_of ws (length ps)) os))} (λ t. tt) (λ t. places_length 8 os)

eight_head : (h : Begins) (code : List ℕ) (ops : Opcodes) (types : List ℕ) (start : ℕ) (rfs : ℤ) → Eight (decode_head h code ops types start rfs)
eight_head (Ok (Some h)) code ops types start rfs = eight_parts code types h.scale h.opcode rfs start h.at (parts_from false (operand_types ops h.opcode))
eight_head (Ok None) code ops types start rfs = tt
eight_head (Err r) code ops types start rfs = tt

eight : (ops types layout code : List ℕ) (start : ℕ) → Eight (decode_one ops types layout code start)
unfolding decode_one decode_at
eight ops types layout code start = go (first_refusal (check_table ops types [] [] layout) (check_code code))
  where
    go : (c : Check) → Eight (guarded c Err (decodes code (opcodes_of ops) types (signed_value layout 13) start))
    go (Ok tt) = let o = opcodes_of ops in eight_head (head_at code o.many start (prefixes_with o)) code o types start (signed_value layout 13)
    go (Err r) = tt

-- ---- as it is told
module _ (ops types layout code : List ℕ) (start : ℕ) (ns : List ℕ) {i : Instr} (e : decode_one ops types layout code start ≡ Ok (Some i)) where
  pub decode_done : (t : List ℕ) → length t ≡ 28 → NumbersAre i t 28 → (0, i.end, t) ≡ decode_told (decoded_numbers start (decode_one ops types layout code start)) ns
  decode_done t len are =
      let n = subst Eight e (eight ops types layout code start) in
      rw e (ap (λ (l : List ℕ). (0, i.end, l)) (numbers_told_lem i t len n are))
