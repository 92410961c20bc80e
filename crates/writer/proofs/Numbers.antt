-- Signed numbers and registers, written and read back at a width. Assumes nothing.
use Prim.Native.Nat.{ℕ, suc, ◌-◌, ◌%◌, ◌^◌, ◌<◌, ◌≤◌}
use mathlib.Core.Path.{◌≡◌, refl, ap, ◌∙◌}
use mathlib.Core.Bool.{Bool, true, false}
use mathlib.Core.Logic.{⊎_elim}
use native.Mathlib.Omega.{arith}
use native.Mathlib.Nat.{mod-le, mod-mod, mod-eq_of_lt, lt_of_lt_of_le, pow-le-pow_right}
use borrow.Author.Tests.{ne_eqb}
use lib.Dec.{ltb}
use lib.IntN.{ℤ, pos, negsuc, ◌-ℤ◌}
use mir.Syntax.{w8, w16, w32}
use mir.Val.{SFits, to_z, of_z, sel}
use mir.ValLaws.{of_z-to_z}
use Rattle.std.specs.Int.{int_wrapping_sub}
use Rattle.laws.proofs.Tests.{same?}
use Rattle.words.specs.Signed.{modulo, wrap32, signed, reg_index}
use Rattle.words.proofs.Modulo.{modulo-lt, modulo-sub}
use Rattle.words.proofs.Signs.{modulo_wrap, sub_wraps}

-- the bits of a signed number of so many bits are the number's
low_8 : (x : ℕ) → x < 2 ^ 8 → modulo (2 ^ 32) (to_z w8 x) % 2 ^ 8 ≡ x
unfolding modulo
low_8 x h = go (ltb x (2 ^ 7)) refl
  where
    go : (t : Bool) → ltb x (2 ^ 7) ≡ t → modulo (2 ^ 32) (sel t (pos x) (negsuc (2 ^ 8 - suc x))) % 2 ^ 8 ≡ x
    go true e = omega arith
    go false e = omega arith

low_16 : (x : ℕ) → x < 2 ^ 16 → modulo (2 ^ 32) (to_z w16 x) % 2 ^ 16 ≡ x
unfolding modulo
low_16 x h = go (ltb x (2 ^ 15)) refl
  where
    go : (t : Bool) → ltb x (2 ^ 15) ≡ t → modulo (2 ^ 32) (sel t (pos x) (negsuc (2 ^ 16 - suc x))) % 2 ^ 16 ≡ x
    go true e = omega arith
    go false e = omega arith

low_32 : (x : ℕ) → x < 2 ^ 32 → modulo (2 ^ 32) (to_z w32 x) ≡ x
unfolding modulo
low_32 x h = go (ltb x (2 ^ 31)) refl
  where
    go : (t : Bool) → ltb x (2 ^ 31) ≡ t → modulo (2 ^ 32) (sel t (pos x) (negsuc (2 ^ 32 - suc x))) ≡ x
    go true e = omega arith
    go false e = omega arith

-- the low 32 bits of a number of w bytes are a number of w bytes
pub low_small : (v w m : ℕ) → v < 256 ^ w → (v % m) % 256 ^ w ≡ v % m
low_small v w m h = mod-eq_of_lt (omega (arith, mod-le v m))

-- "Signed widths 1, 2, 4 extend the sign": what is read at a width is written at it as it was
pub signed_back : (v w : ℕ) → v < 256 ^ w → signed (modulo (2 ^ 32) (signed v w) % 256 ^ w) w ≡ signed v w
unfolding signed
signed_back v w h = ⊎_elim one (λ n. ⊎_elim two (other n) (same? w 2)) (same? w 1)
  where
    one : w ≡ 1 → signed (modulo (2 ^ 32) (signed v w) % 256 ^ w) w ≡ signed v w
    one e = rw (e, low_8 (v % 2 ^ 8) (omega arith), mod-mod v (2 ^ 8))

    two : w ≡ 2 → signed (modulo (2 ^ 32) (signed v w) % 256 ^ w) w ≡ signed v w
    two e = rw (e, low_16 (v % 2 ^ 16) (omega arith), mod-mod v (2 ^ 16))

    other : (w ≡ 1 → ⊥) → (w ≡ 2 → ⊥) → signed (modulo (2 ^ 32) (signed v w) % 256 ^ w) w ≡ signed v w
    other n m = rw (ne_eqb w 1 n, ne_eqb w 2 m, low_32 (v % 2 ^ 32) (omega arith), low_small v w (2 ^ 32) h, mod-mod v (2 ^ 32))

-- and has the bytes it was read from, at a width of at most 4
pub signed_low : (v w : ℕ) → w ≤ 4 → v < 256 ^ w → modulo (2 ^ 32) (signed v w) % 256 ^ w ≡ v
unfolding signed
signed_low v w small h = ⊎_elim one (λ n. ⊎_elim two (other n) (same? w 2)) (same? w 1)
  where
    one : w ≡ 1 → modulo (2 ^ 32) (signed v w) % 256 ^ w ≡ v
    one e = let f : v < 256 ^ 1 = rw e at h in rw (e, low_8 (v % 2 ^ 8) (omega arith)) (omega arith)

    two : w ≡ 2 → modulo (2 ^ 32) (signed v w) % 256 ^ w ≡ v
    two e = let f : v < 256 ^ 2 = rw e at h in rw (e, low_16 (v % 2 ^ 16) (omega arith)) (omega arith)

    whole : v < 2 ^ 32
    whole = lt_of_lt_of_le h (pow-le-pow_right {n = 256} (omega arith) small)

    other : (w ≡ 1 → ⊥) → (w ≡ 2 → ⊥) → modulo (2 ^ 32) (signed v w) % 256 ^ w ≡ v
    other n m = rw (ne_eqb w 1 n, ne_eqb w 2 m, low_32 (v % 2 ^ 32) (omega arith), low_small v w (2 ^ 32) h) (mod-eq_of_lt whole)

-- the bits of a difference that wraps
pub reg_law : (start i : ℤ) → SFits w32 start → SFits w32 i → of_z w32 (int_wrapping_sub w32 start i) ≡ modulo (2 ^ 32) (start -ℤ i)
unfolding wrap32
reg_law start i f g = ap (of_z w32) (sub_wraps start i f g) ∙ of_z-to_z w32 (modulo (2 ^ 32) (start -ℤ i)) (record { fits = modulo-lt (2 ^ 32) (omega arith) (start -ℤ i) })

-- V8: Register::ToOperand of Register::FromOperand
pub reg_stored : (rfs s : ℤ) → modulo (2 ^ 32) (rfs -ℤ reg_index rfs s) ≡ modulo (2 ^ 32) s
reg_stored rfs s =
    let m = modulo-sub (2 ^ 32) (omega arith) rfs (wrap32 (rfs -ℤ s)) in
    let n = modulo_wrap (rfs -ℤ s) in
    let k = modulo-sub (2 ^ 32) (omega arith) rfs s in
    let a = modulo-lt (2 ^ 32) (omega arith) rfs in
    let b = modulo-lt (2 ^ 32) (omega arith) s in
    omega arith
