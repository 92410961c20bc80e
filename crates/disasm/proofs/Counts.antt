-- An instruction has no more operands than the record of its opcode says. Assumes nothing.
use Prim.Native.Nat.{ℕ, zero, suc, ◌+◌, ◌≤◌, min}
use mathlib.Core.Path.{◌≡◌, refl, ap}
use mathlib.Core.Bool.{Bool, true, false, ◌&&◌}
use mathlib.Core.List.{List, [], ◌∷◌, map}
use native.Mathlib.Omega.{arith}
use lib.Dec.{ltb, eqb}
use lib.ListN.{length}
use lib.IntN.{ℤ}
use Rattle.laws.specs.Scan.{first_from}
use Rattle.laws.proofs.Tests.{by_test}
use Rattle.flow.specs.Opcodes.{Opcodes}
use Rattle.operand.specs.Operand.{is_list}
use Rattle.std.specs.Prelude.{Some, None, Ok, Err}
use Rattle.tables.specs.declared.Prefixes.{Prefixes}
use Rattle.prefix.specs.Head.{Begins, head_at}
use Rattle.decoder.specs.Decode.{Decoded, instr_in, codes_from, Part, own, count, parts_from, part_width, operands_from, is_short, read_parts, decode_head, decode_at}

-- how many parts are operands
owns : List Part → ℕ
owns [] = 0
owns (own t ∷ ps) = suc (owns ps)
owns (count ∷ ps) = owns ps

owns_all : (code ws : List ℕ) (at : ℕ) (rfs : ℤ) (k : ℕ) (ps : List Part) → length (operands_from code ws at rfs k ps) ≡ owns ps
unfolding owns
owns_all code ws at rfs k [] = refl
owns_all code ws at rfs k (own t ∷ ps) = ap suc (owns_all code ws at rfs (suc k) ps)
owns_all code ws at rfs k (count ∷ ps) = owns_all code ws at rfs (suc k) ps

owns_few : (ops : Opcodes) (op k n : ℕ) (after : Bool) → owns (parts_from after (codes_from ops op k n)) ≤ n
unfolding owns parts_from
owns_few ops op k zero after = omega arith
owns_few ops op k (suc n) after =
    let t = ops.code op k in
    let no = owns_few ops op (k + 1) n false in
    let yes = owns_few ops op (k + 1) n true in
    by_test (λ (ps : List Part). owns ps ≤ suc n) (eqb t 8 && after) (λ _. omega (arith, no))
    (λ _. by_test (λ (ps : List Part). owns (own t ∷ ps) ≤ suc n) (is_list t) (λ _. omega (arith, yes)) (λ _. omega (arith, no)))

module _ (code : List ℕ) (ops : Opcodes) (types : List ℕ) (start : ℕ) (rfs : ℤ) (prefixes : Prefixes) where
  abbrev Counted : Decoded → Type 0
  Counted d = (instr_in d).count ≤ min (ops.operands (instr_in d).opcode) 8

  parts_counted : (scale opcode at : ℕ) (ps : List Part) → owns ps ≤ min (ops.operands opcode) 8 → Counted (read_parts code types scale opcode rfs start at ps)
  unfolding read_parts
  parts_counted scale opcode at ps h =
      let ws = map (part_width types scale) ps in
      by_test Counted (ltb (first_from (is_short code ws at) 0 (length ps)) (length ps)) (λ _. omega arith) (λ _. omega (arith, owns_all code ws at rfs 0 ps))

  pub counted : Counted (decode_at code ops types start rfs prefixes)
  unfolding decode_at
  counted = go (head_at code ops.many start prefixes)
    where
      go : (h : Begins) → Counted (decode_head h code ops types start rfs)
      go (Ok (Some h)) = parts_counted h.scale h.opcode h.at _ (owns_few ops h.opcode 0 (min (ops.operands h.opcode) 8) false)
      go (Ok None) = omega arith
      go (Err r) = omega arith
