-- An instruction is short: two bytes of prefix and opcode, and at most sixteen parts of at most eight. Assumes nothing.
use Prim.Native.Nat.{ℕ, suc, ◌+◌, ◌*◌, ◌≤◌, min}
use mathlib.Core.Bool.{Bool, true, false, ◌&&◌}
use mathlib.Core.List.{List, [], ◌∷◌, map}
use native.Mathlib.Omega.{arith}
use lib.Dec.{ltb, eqb}
use lib.ListN.{length}
use lib.IntN.{ℤ}
use Rattle.laws.specs.Scan.{first_from}
use Rattle.laws.proofs.Tests.{by_test}
use Rattle.tables.specs.Records.{width}
use Rattle.flow.specs.Opcodes.{Opcodes}
use Rattle.operand.specs.Operand.{is_list}
use Rattle.std.specs.Prelude.{Some, None, Ok, Err}
use Rattle.tables.specs.declared.Prefixes.{Prefixes}
use Rattle.prefix.specs.Head.{Begins, head_at}
use Rattle.decoder.specs.Decode.{Decoded, instr_in, operand_types, Part, own, count, parts_from, part_width, offset_of, is_short, read_parts, decode_head, decode_at}
use Rattle.decoder.proofs.Agree.{codes_length}
use Rattle.decoder.proofs.Progress.{HeadSays, head_says}

-- ---- the parts
width-le : (types : List ℕ) (scale : ℕ) (p : Part) → part_width types scale p ≤ 8
unfolding width
width-le types scale (own t) = omega arith
width-le types scale count = omega arith

sum-le : (types : List ℕ) (scale : ℕ) (ps : List Part) → offset_of (map (part_width types scale) ps) (length ps) ≤ 8 * length ps
sum-le types scale [] = omega arith
sum-le types scale (p ∷ ps) = omega (arith, width-le types scale p, sum-le types scale ps)

abbrev Few : ℕ → List Part → Type 0
Few n ps = length ps ≤ 2 * n

few_parts : (after : Bool) (ts : List ℕ) → Few (length ts) (parts_from after ts)
unfolding parts_from
few_parts after [] = omega arith
few_parts after (t ∷ ts) =
    let no = few_parts false ts in
    let yes = few_parts true ts in
    by_test (Few (suc (length ts))) (eqb t 8 && after) (λ _. omega (arith, no))
    (λ _. by_test (λ (ps : List Part). Few (suc (length ts)) (own t ∷ ps)) (is_list t) (λ _. omega (arith, yes)) (λ _. omega (arith, no)))

-- ---- the instruction
module _ (code : List ℕ) (start : ℕ) where
  abbrev Short : Decoded → Type 0
  Short d = (instr_in d).end ≤ start + 130

  parts_short : (types : List ℕ) (scale opcode : ℕ) (rfs : ℤ) (at : ℕ) (ps : List Part) → at ≤ start + 2 → length ps ≤ 16 → Short (read_parts code types scale opcode rfs start at ps)
  unfolding read_parts
  parts_short types scale opcode rfs at ps h few =
      by_test Short (ltb (first_from (is_short code (map (part_width types scale) ps) at) 0 (length ps)) (length ps)) (λ _. omega arith) (λ _. omega (arith, sum-le types scale ps))

  pub short : (ops : Opcodes) (types : List ℕ) (rfs : ℤ) (prefixes : Prefixes) → (instr_in (decode_at code ops types start rfs prefixes)).end ≤ start + 130
  unfolding decode_at
  short ops types rfs prefixes = go (head_at code ops.many start prefixes) (head_says code start ops.many prefixes)
    where
      go : (h : Begins) → HeadSays code start h → Short (decode_head h code ops types start rfs)
      go (Ok (Some h)) s =
          parts_short types h.scale h.opcode rfs h.at (parts_from false (operand_types ops h.opcode)) s.1
          (omega (arith, few_parts false (operand_types ops h.opcode), codes_length ops h.opcode 0 (min (ops.operands h.opcode) 8)))
      go (Ok None) s = omega arith
      go (Err r) s = omega arith
