-- Sizes alone say where an instruction ends: `extent_done`, and whatever reg_file_start is: `extent_any`. Assumes nothing.
use Prim.Native.Nat.{ℕ, zero, suc, ◌+◌, ◌-◌, ◌<◌, ◌≤◌}
use mathlib.Core.Path.{◌≡◌, refl, sym, ap, ◌∙◌}
use mathlib.Core.Bool.{Bool, true, false, cond, ◌&&◌}
use mathlib.Core.List.{List, [], ◌∷◌, map}
use native.Mathlib.Omega.{arith}
use borrow.Author.Tests.{le-ltb, eqb-true}
use lib.Dec.{ltb, eqb}
use lib.IntN.{ℤ}
use lib.ListN.{length}
use Rattle.laws.specs.Scan.{first_from}
use Rattle.laws.proofs.Scan.{first_is}
use Rattle.laws.proofs.Tests.{and_left}
use Rattle.tables.specs.Records.{width}
use Rattle.operand.specs.Operand.{is_list}
use Rattle.operand.specs.mirror.Step.{is_counted}
use Rattle.flow.specs.Opcodes.{Opcodes}
use Rattle.std.specs.Prelude.{Some, Ok}
use Rattle.decoder.specs.Decode.{Decoded, codes_from, Part, own, count, parts_from, part_width, offset_of, is_short, read_parts}
use Rattle.decoder.proofs.Laws.{not_list}
use Rattle.decoder.specs.mirror.Extent.{size_of, size_from, extent_of}

pub width_eight : (types : List ℕ) (t scale : ℕ) → width types t scale ≤ 8
unfolding width
width_eight types t scale = omega arith

-- ---- all operands of an opcode, from number k on
module _ (types : List ℕ) (scale : ℕ) (ops : Opcodes) (op n k before : ℕ) where
  pub size_next : {t r all : ℕ} (size : ℕ) → k < n → t ≡ ops.code op k → r ≡ size_of types scale before t
      → all ≡ size + size_from types scale before (codes_from ops op k (n - k)) → all ≡ size + r + size_from types scale t (codes_from ops op (k + 1) (n - (k + 1)))
  unfolding size_from
  size_next {t} {r} size l e f h = let m : n - k ≡ suc (n - (k + 1)) = omega arith in h ∙ rw (m, ← e, ← f) (omega arith)

  pub size_end : n ≤ k → size_from types scale before (codes_from ops op k (n - k)) ≡ 0
  unfolding size_from
  size_end l = let e : n - k ≡ 0 = omega arith in rw e

-- ---- the sizes of the types are those of the parts
module _ (types : List ℕ) (scale : ℕ) where
  abbrev pub total : List Part → ℕ
  total ps = offset_of (map (part_width types scale) ps) (length ps)

  pub size_parts : (before : ℕ) (ts : List ℕ) → size_from types scale before ts ≡ total (parts_from (is_list before) ts)
  unfolding size_from parts_from size_of is_counted
  size_parts before [] = refl
  size_parts before (t ∷ ts) = go (eqb t 8 && is_list before) (is_list t) refl refl (size_parts t ts)
    where
      w : ℕ
      w = width types t scale

      cw : ℕ
      cw = width types 8 scale

      go : (p r : Bool) → (eqb t 8 && is_list before) ≡ p → is_list t ≡ r → size_from types scale t ts ≡ total (parts_from r ts)
          → cond p 0 (cond r (w + cw) w) + size_from types scale t ts ≡ total (cond p (parts_from false ts) (own t ∷ cond r (count ∷ parts_from true ts) (parts_from false ts)))
      go true r e f rest = let n = not_list t (eqb-true t 8 (and_left (eqb t 8) (is_list before) e)) in omega (arith, rest ∙ ap (λ (b : Bool). total (parts_from b ts)) (sym f ∙ n))
      go false false e f rest = ap (λ (x : ℕ). w + x) rest
      go false true e f rest = omega (arith, rest)

-- ---- reading them
module _ (code types : List ℕ) (scale opcode start at : ℕ) where
  rises : (ps : List Part) (k : ℕ) → k ≤ length ps → offset_of (map (part_width types scale) ps) k ≤ total types scale ps
  rises ps zero h = omega arith
  rises [] (suc k) h = omega arith
  rises (p ∷ ps) (suc k) h = omega (arith, rises ps k (omega arith))

  -- a code that holds all the bytes holds every part
  pub none_short : (ps : List Part) → at + total types scale ps ≤ length code → first_from (is_short code (map (part_width types scale) ps) at) 0 (length ps) ≡ length ps
  none_short ps h =
      first_is (is_short code (map (part_width types scale) ps) at) 0 (length ps) (length ps) (omega arith) (omega arith)
      (λ j a b. le-ltb (length code) (at + offset_of (map (part_width types scale) ps) (suc j)) (omega (arith, h, rises ps (suc j) (omega arith))))
      (λ l. absurd (omega arith))

  fits_done : (rfs : ℤ) (ps : List Part) → at + total types scale ps ≤ length code
      → Ok (Some (record { opcode = opcode; scale = scale; end = at + total types scale ps })) ≡ extent_of (read_parts code types scale opcode rfs start at ps)
  unfolding read_parts
  fits_done rfs ps h = rw (none_short ps h, le-ltb (length ps) (length ps) (omega arith))

  pub extent_done : (rfs : ℤ) (ts : List ℕ) (size : ℕ) → size ≡ size_from types scale 0 ts → at + size ≤ length code
      → Ok (Some (record { opcode = opcode; scale = scale; end = at + size })) ≡ extent_of (read_parts code types scale opcode rfs start at (parts_from false ts))
  unfolding is_list
  extent_done rfs ts size e h = let f = e ∙ size_parts types scale 0 ts in rw f (fits_done rfs (parts_from false ts) (omega (arith, h, f)))

  same_extent : (b : Bool) (x y v w : Decoded) → extent_of x ≡ extent_of v → extent_of y ≡ extent_of w → extent_of (cond b x y) ≡ extent_of (cond b v w)
  same_extent true x y v w e f = e
  same_extent false x y v w e f = f

  pub extent_any : (r s : ℤ) (ps : List Part) → extent_of (read_parts code types scale opcode r start at ps) ≡ extent_of (read_parts code types scale opcode s start at ps)
  unfolding read_parts
  extent_any r s ps = same_extent (ltb (first_from (is_short code (map (part_width types scale) ps) at) 0 (length ps)) (length ps)) _ _ _ _ refl refl
