-- Laws of signed numbers: what the code's conversions compute, over the width, and what wraps. Assumes nothing.
use Rattle.std.proofs.Common.{◌≡◌, ℕ, zero, suc, ◌+◌, ◌-◌, ◌/◌, ◌%◌, ◌^◌, ◌<◌, ◌≤◌, Bool, true, false, cond, eqb, ltb, ℤ, pos, negsuc, ◌+ℤ◌, ◌-ℤ◌, neg_ℤ, sym, refl, ap, ◌∙◌, lt_of_lt_of_le, mod-eq_of_lt, arith, to_z-of_z, w8, w16, w32, w64, Fits, SFits, to_z, of_z, ltb-false, ltb-true, le-ltb, eq-eqb, ne_eqb, eqb-true}
use native.Mathlib.Nat.{pow-le-pow_right}
use Rattle.laws.proofs.Tests.{clash}
use lib.Signed.{lt_z, mag, quot_z}
use mir.Syntax.{Width, w128}
use Rattle.std.specs.Int.{int_wrap, int_wrapping_add, int_wrapping_sub}
use Rattle.std.proofs.lemmas.Int.{int_wrap-add_left, wrapping_add_is, wrapping_sub_is, wrapping_add_onto}
use mir.ValLaws.{to_z_pos, to_z-Fits, of_z-to_z}
use mir.Val.{sel, bits, hbits}
use Rattle.words.specs.Signed.{modulo, wrap32, signed, list_last, param_number, negative, eq_z}
use Rattle.words.specs.mirror.Bits.{extend_from, extend_bits}
use Rattle.words.proofs.Modulo.{modulo-lt, modulo-add, modulo-sub}

pub below_zero : (z : ℤ) → lt_z z (pos 0) ≡ negative z
below_zero (pos n) = le-ltb n 0 (omega arith)
below_zero (negsuc n) = refl

half_bits : (w : Width) → hbits w ≤ bits w
half_bits w8 = omega arith
half_bits w16 = omega arith
half_bits w32 = omega arith
half_bits w64 = omega arith
half_bits w128 = omega arith

half_le : (w : Width) → 2 ^ hbits w ≤ 2 ^ bits w
half_le w = pow-le-pow_right {n = 2} (omega arith) (half_bits w)

-- a number that fits is its own bits
pub modulo_fits : (w : Width) (z : ℤ) → SFits w z → modulo (2 ^ bits w) z ≡ of_z w z
unfolding modulo
modulo_fits w (pos n) h = mod-eq_of_lt (lt_of_lt_of_le h.sfits (half_le w))
modulo_fits w (negsuc n) h = ap (λ (k : ℕ). 2 ^ bits w - suc k) (mod-eq_of_lt (lt_of_lt_of_le h.sfits (half_le w)))

-- the bits of a number of 64, as std gives them
pub bits_64 : (z : ℤ) → SFits w64 z → of_z w64 z ≡ modulo (2 ^ 64) z
bits_64 z h = sym (modulo_fits w64 z h)

-- bits read as signed, with the highest set; m has all bits set
pub to_z_high : (w : Width) (m x : ℕ) → suc m ≡ 2 ^ bits w → 2 ^ bits w ≡ 2 ^ hbits w + 2 ^ hbits w → 2 ^ hbits w ≤ x → x < 2 ^ bits w → to_z w x ≡ negsuc (m - x)
to_z_high w m x all twice high fits = rw (le-ltb x (2 ^ hbits w) high) (ap negsuc (omega arith))

-- std's wrapping and the same by remainders
pub wrap_same : (z : ℤ) → int_wrap w32 z ≡ wrap32 z
unfolding int_wrap wrap32 modulo
wrap_same (pos n) = refl
wrap_same (negsuc n) = let e : 2 ^ 32 - 1 - n % 2 ^ 32 ≡ 2 ^ 32 - suc (n % 2 ^ 32) = omega arith in ap (to_z w32) e

-- wrapping twice is wrapping once
pub modulo_wrap : (z : ℤ) → modulo (2 ^ 32) (wrap32 z) ≡ modulo (2 ^ 32) z
unfolding wrap32
modulo_wrap z =
    let l = modulo-lt (2 ^ 32) (omega arith) z in
    let f : Fits w32 (modulo (2 ^ 32) z) = record { fits = l } in
    modulo_fits w32 (to_z w32 (modulo (2 ^ 32) z)) (to_z-Fits w32 _ f) ∙ of_z-to_z w32 _ f

-- wrapping before a sum or a difference changes nothing
pub wrap_add_wrap : (a b : ℤ) → wrap32 (wrap32 a +ℤ b) ≡ wrap32 (a +ℤ b)
wrap_add_wrap a b = simp wrap_same at (int_wrap-add_left w32 a b)

-- std's sum and difference of numbers of 32 bits
module _ (a b : ℤ) (f : SFits w32 a) (g : SFits w32 b) where
  pub add_wraps : int_wrapping_add w32 a b ≡ wrap32 (a +ℤ b)
  add_wraps = wrapping_add_is w32 a b f g ∙ wrap_same (a +ℤ b)

  pub sub_wraps : int_wrapping_sub w32 a b ≡ wrap32 (a -ℤ b)
  sub_wraps = wrapping_sub_is w32 a b f g ∙ wrap_same (a -ℤ b)

-- a parameter's number: a difference and a sum that wrap
pub param_law : (index base count : ℤ) → SFits w32 index → SFits w32 base → SFits w32 count
    → to_z w32 (((of_z w32 index + (2 ^ 32 - of_z w32 base)) % 2 ^ 32 + of_z w32 count) % 2 ^ 32) ≡ param_number index base count
param_law index base count f g h =
    let m = (of_z w32 index + (2 ^ 32 - of_z w32 base)) % 2 ^ 32 in
    wrapping_add_onto w32 m count (omega arith) h ∙ wrap_same (to_z w32 m +ℤ count) ∙ ap (λ (z : ℤ). wrap32 (z +ℤ count)) (sub_wraps index base f g) ∙ wrap_add_wrap (index -ℤ base) count

-- the last register of a list: r is first + count, wrapped
pub last_law : (first : ℤ) (count : ℕ) (r : ℤ) → SFits w32 first → SFits w32 r → r ≡ to_z w32 ((of_z w32 first + count) % 2 ^ 32)
    → int_wrapping_sub w32 r (pos 1) ≡ list_last first count
unfolding wrap32 modulo
last_law first count r f g e =
    let past : (of_z w32 first + count) % 2 ^ 32 ≡ modulo (2 ^ 32) (first +ℤ pos count) = omega (arith, modulo-add (2 ^ 32) (omega arith) first (pos count), modulo_fits w32 first f) in
    let s : r ≡ wrap32 (first +ℤ pos count) = e ∙ ap (to_z w32) past in
    wrapping_sub_is w32 r (pos 1) g (record { sfits = omega arith }) ∙ wrap_same (r -ℤ pos 1) ∙ ap (λ (z : ℤ). wrap32 (z -ℤ pos 1)) s ∙ wrap_add_wrap (first +ℤ pos count) (negsuc 0)

-- ---- targets: the 64 bits of a sum and a difference with a natural
module _ (here : ℕ) (z : ℤ) (f : SFits w64 z) where
  pub target_add : (here + of_z w64 z) % 2 ^ 64 ≡ modulo (2 ^ 64) (pos here +ℤ z)
  unfolding modulo
  target_add = omega (arith, modulo-add (2 ^ 64) (omega arith) (pos here) z, modulo_fits w64 z f)

  pub target_sub : (here + (2 ^ 64 - of_z w64 z)) % 2 ^ 64 ≡ modulo (2 ^ 64) (pos here -ℤ z)
  unfolding modulo
  target_sub = omega (arith, modulo-sub (2 ^ 64) (omega arith) (pos here) z, modulo_fits w64 z f)

-- ---- one law for the widths below 32: a number of twice half values, its sign extended to 32 bits
extend_law : (half x : ℕ) → half + half ≤ 2 ^ 31 → x < half + half
    → to_z w32 (cond (ltb x half) x (x + (2 ^ 32 - (half + half)))) ≡ sel (ltb x half) (pos x) (negsuc (half + half - suc x))
extend_law half x room fits = go (ltb x half) refl
  where
    go : (t : Bool) → ltb x half ≡ t → to_z w32 (cond t x (x + (2 ^ 32 - (half + half)))) ≡ sel t (pos x) (negsuc (half + half - suc x))
    go true e = to_z_pos w32 x (omega (arith, ltb-true x half e))
    go false e =
        let h = ltb-false x half e in
        rw (le-ltb (x + (2 ^ 32 - (half + half))) (2 ^ 31) (omega arith)) (ap negsuc (omega arith))

pub extended : (v size : ℕ) → to_z w32 (extend_bits v size) ≡ signed v size
unfolding signed
extended v size = go (eqb size 1) (eqb size 2)
  where
    go : (s t : Bool) → to_z w32 (cond s (extend_from (2 ^ 7) (2 ^ 8) v) (cond t (extend_from (2 ^ 15) (2 ^ 16) v) (v % 2 ^ 32)))
        ≡ cond s (to_z w8 (v % 2 ^ 8)) (cond t (to_z w16 (v % 2 ^ 16)) (to_z w32 (v % 2 ^ 32)))
    go true t = extend_law (2 ^ 7) (v % 2 ^ 8) (omega arith) (omega arith)
    go false true = extend_law (2 ^ 15) (v % 2 ^ 16) (omega arith) (omega arith)
    go false false = refl

-- ---- equality of integers
pub eq_z_true : (a b : ℤ) → eq_z a b ≡ true → a ≡ b
eq_z_true (pos a) (pos b) h = ap pos (eqb-true a b h)
eq_z_true (pos a) (negsuc b) h = clash h refl
eq_z_true (negsuc a) (pos b) h = clash h refl
eq_z_true (negsuc a) (negsuc b) h = ap negsuc (eqb-true a b h)

pub eq_z_same : (a : ℤ) → eq_z a a ≡ true
eq_z_same (pos a) = eq-eqb a a refl
eq_z_same (negsuc a) = eq-eqb a a refl

-- and of signed numbers, from the test on their bits
pub same_bits : (w : Width) (a b : ℤ) → SFits w a → SFits w b → eqb (of_z w a) (of_z w b) ≡ eq_z a b
same_bits w a b fa fb = go (eq_z a b) refl
  where
    go : (t : Bool) → eq_z a b ≡ t → eqb (of_z w a) (of_z w b) ≡ t
    go true e = eq-eqb (of_z w a) (of_z w b) (ap (of_z w) (eq_z_true a b e))
    go false e = ne_eqb (of_z w a) (of_z w b)
        (λ h.
        let same : a ≡ b = sym (to_z-of_z fa) ∙ ap (to_z w) h ∙ to_z-of_z fb in
        clash (eq_z_same a) (ap (eq_z a) same ∙ e))

-- the low 32 of the low 64 bits
pub low_low : (z : ℤ) → modulo (2 ^ 64) z % 2 ^ 32 ≡ modulo (2 ^ 32) z
unfolding modulo
low_low (pos n) = omega arith
low_low (negsuc n) = omega arith

-- ---- shorter numbers fit
mag_neg : (k : ℕ) → mag (neg_ℤ (pos k)) ≤ k
mag_neg zero = omega arith
mag_neg (suc k) = omega arith

pub eighth_fits : (z : ℤ) → SFits w32 z → SFits w32 (quot_z z (pos 8))
eighth_fits (pos a) h = record { sfits = omega (arith, h.sfits) }
eighth_fits (negsuc a) h = record { sfits = omega (arith, h.sfits, mag_neg (suc a / 8)) }
