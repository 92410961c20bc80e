-- One operand written and read back. Assumes nothing.
use Prim.Native.Nat.{ℕ, ◌%◌, ◌^◌, ◌<◌, ◌≤◌}
use mathlib.Core.Path.{◌≡◌, refl, ◌∙◌}
use mathlib.Core.Bool.{Bool, true, false, cond}
use mathlib.Core.List.{List, [], ◌∷◌}
use native.Mathlib.Omega.{arith}
use native.Mathlib.Nat.{mod-mod, mod-eq_of_lt, lt_of_lt_of_le, pow-le-pow_right}
use lib.IntN.{ℤ}
use Rattle.laws.proofs.Tests.{and_left, and_right, and_both, clash}
use Rattle.words.specs.Signed.{signed, reg_index, eq_z}
use Rattle.words.proofs.Signs.{eq_z_true, eq_z_same}
use Rattle.operand.specs.Operand.{Kind, kind_of, of_kind, is_list, interpret}
use Rattle.operand.specs.Operand.Kind.{reg, pair, triple, list, index, imm, flag8, flag16, runtime, intrinsic, raw}
use Rattle.operand.specs.Numbers.{operand_numbers}
use Rattle.operand.specs.declared.Operand.{Operand}
use Rattle.operand.proofs.Numbers.{operand_numbers_one}
use Rattle.writer.specs.Bytes.{stored_of, count_of}
use Rattle.writer.specs.Write.{same_numbers, same_operand, back_as}
use Rattle.writer.specs.Narrow.{Narrow}
use Rattle.writer.proofs.Numbers.{low_small, signed_back, signed_low, reg_stored}

numbers_same : (a : List ℤ) → same_numbers a a ≡ true
numbers_same [] = refl
numbers_same (x ∷ a) = and_both (eq_z_same x) (numbers_same a)

numbers_one : (a b : List ℤ) → same_numbers a b ≡ true → a ≡ b
numbers_one [] [] h = refl
numbers_one [] (y ∷ b) h = clash h refl
numbers_one (x ∷ a) [] h = clash h refl
numbers_one (x ∷ a) (y ∷ b) h =
    let p = eq_z_true x y (and_left (eq_z x y) (same_numbers a b) h) in
    let q = numbers_one a b (and_right (eq_z x y) (same_numbers a b) h) in
    rw (p, q)

pub same_itself : (o : Operand) → same_operand o o ≡ true
unfolding same_operand
same_itself o = numbers_same (operand_numbers o)

pub same_one : (a b : Operand) → same_operand a b ≡ true → a ≡ b
unfolding same_operand
same_one a b h = operand_numbers_one a b (numbers_one (operand_numbers a) (operand_numbers b) h)

-- an operand that was read from v, at w bytes, with the count cv, of cw bytes, if it is a list
module _ (t v w cv cw : ℕ) (rfs : ℤ) (value : v < 256 ^ w) where
  abbrev pub read : Operand
  read = interpret t v w (cond (is_list t) (cv % 2 ^ 32) 0) rfs

  abbrev made : Kind → Bool → Operand
  made k b = of_kind k t v (signed v w) (reg_index rfs (signed v w)) (cond b (cv % 2 ^ 32) 0)

  -- reads back as it is, at any width
  pub back_same : cv < 256 ^ cw → back_as t w cw rfs read ≡ read
  unfolding back_as interpret of_kind
  back_same counted = go (kind_of t) (is_list t)
    where
      go : (k : Kind) (b : Bool)
          → of_kind k t (stored_of rfs (made k b) % 256 ^ w) (signed (stored_of rfs (made k b) % 256 ^ w) w) (reg_index rfs (signed (stored_of rfs (made k b) % 256 ^ w) w)) (cond b (count_of (made k b) % 256 ^ cw % 2 ^ 32) 0)
          ≡ made k b
      go reg b = rw (reg_stored rfs (signed v w), signed_back v w value)
      go pair b = rw (reg_stored rfs (signed v w), signed_back v w value)
      go triple b = rw (reg_stored rfs (signed v w), signed_back v w value)
      go list true = rw (reg_stored rfs (signed v w), signed_back v w value, low_small cv cw (2 ^ 32) counted, mod-mod cv (2 ^ 32))
      go list false = rw (reg_stored rfs (signed v w), signed_back v w value)
      go index b = rw (low_small v w (2 ^ 32) value, mod-mod v (2 ^ 32))
      go imm b = rw (signed_back v w value)
      go flag8 b = rw (low_small v w (2 ^ 8) value, mod-mod v (2 ^ 8))
      go flag16 b = rw (low_small v w (2 ^ 16) value, mod-mod v (2 ^ 16))
      go runtime b = rw (low_small v w (2 ^ 32) value, mod-mod v (2 ^ 32))
      go intrinsic b = rw (low_small v w (2 ^ 32) value, mod-mod v (2 ^ 32))
      go raw b = rw (mod-eq_of_lt value)

whole : (v w m : ℕ) → v < 256 ^ w → w ≤ m → v % 256 ^ m ≡ v
whole v w m h l = mod-eq_of_lt (lt_of_lt_of_le h (pow-le-pow_right {n = 256} (omega arith) l))

-- the number that is written for it has the bytes it was read from
pub stored_low : (t v w c : ℕ) (rfs : ℤ) → v < 256 ^ w → Narrow (kind_of t) w → stored_of rfs (interpret t v w c rfs) % 256 ^ w ≡ v
unfolding interpret of_kind
stored_low t v w c rfs value narrow = go (kind_of t) narrow
  where
    four : w ≤ 4 → (v % 2 ^ 32) % 256 ^ w ≡ v
    four n = low_small v w (2 ^ 32) value ∙ whole v w 4 value n

    go : (k : Kind) → Narrow k w → stored_of rfs (of_kind k t v (signed v w) (reg_index rfs (signed v w)) c) % 256 ^ w ≡ v
    go reg n = rw (reg_stored rfs (signed v w)) (signed_low v w n value)
    go pair n = rw (reg_stored rfs (signed v w)) (signed_low v w n value)
    go triple n = rw (reg_stored rfs (signed v w)) (signed_low v w n value)
    go list n = rw (reg_stored rfs (signed v w)) (signed_low v w n value)
    go index n = four n
    go imm n = signed_low v w n value
    go flag8 n = low_small v w (2 ^ 8) value ∙ whole v w 1 value n
    go flag16 n = low_small v w (2 ^ 16) value ∙ whole v w 2 value n
    go runtime n = four n
    go intrinsic n = four n
    go raw n = mod-eq_of_lt value
