-- Laws of the way back. Assumes nothing.
use Prim.Native.Nat.{ℕ, zero, suc, ◌+◌, ◌-◌, ◌%◌, ◌^◌, ◌<◌}
use mathlib.Core.Path.{◌≡◌, refl, sym, ap, ◌∙◌}
use mathlib.Core.Bool.{Bool, true, ◌&&◌}
use mathlib.Core.List.{List}
use mathlib.Core.Logic.{⊎_elim}
use native.Mathlib.Omega.{arith}
use borrow.Author.Tests.{ltb-true, leb-true}
use lib.Dec.{eqb, leb, ltb}
use lib.IntN.{ℤ, negsuc}
use lib.ListN.{length, get_or, set}
use lib.Seq.{get_or-set_same, get_or-set_other, ext_get_or}
use mir.Syntax.{w32, w64}
use mir.Val.{to_z}
use mir.ValLaws.{to_z_pos}
use Rattle.laws.proofs.Tests.{and_left, or_either, same?}
use Rattle.words.proofs.Signs.{to_z_high}
use Rattle.operand.specs.declared.Operand.{Operand}
use Rattle.operand.specs.declared.Operand.TheVariants.{Reg, RegList}
use Rattle.decoder.specs.declared.OperandRecord.{OperandRecord}
use Rattle.decoder.specs.Decode.{record_of}
use Rattle.std.specs.Prelude.{Some, None}
use Rattle.numbers.specs.Back.{is_i32, only, told_operand, told_at, told_from}

-- ---- what a test lets pass
pub only_yes : {t : Bool} → t ≡ true → (o : Operand) → Some o ≡ only t o
only_yes h o = rw h refl

-- ---- signed numbers
-- the low 32 of 64 bits, where the number fits 32
pub narrow_is : (a : ℕ) → a < 2 ^ 64 → is_i32 a ≡ true → to_z w32 (a % 2 ^ 32) ≡ to_z w64 a
unfolding is_i32
narrow_is a fits h = ⊎_elim low high (or_either (ltb a (2 ^ 31)) (leb (2 ^ 64 - 2 ^ 31) a) h)
  where
    low : ltb a (2 ^ 31) ≡ true → to_z w32 (a % 2 ^ 32) ≡ to_z w64 a
    low e =
        let l = ltb-true a (2 ^ 31) e in
        let m : a % 2 ^ 32 ≡ a = omega arith in
        rw m (to_z_pos w32 a l ∙ sym (to_z_pos w64 a (omega arith)))

    high : leb (2 ^ 64 - 2 ^ 31) a ≡ true → to_z w32 (a % 2 ^ 32) ≡ to_z w64 a
    high e =
        let l = leb-true (2 ^ 64 - 2 ^ 31) a e in
        let m : (2 ^ 32 - 1) - a % 2 ^ 32 ≡ (2 ^ 64 - 1) - a = omega arith in
        to_z_high w32 (2 ^ 32 - 1) (a % 2 ^ 32) refl refl (omega arith) (omega arith) ∙ ap negsuc m ∙ sym (to_z_high w64 (2 ^ 64 - 1) a refl refl (omega arith) fits)

-- a register, and a list by its first register and its count
pub reg_told : (a b : ℕ) {kind : ℕ} {z : ℤ} → kind ≡ 1 → (is_i32 a && eqb b 0) ≡ true → (is_i32 a ≡ true → z ≡ to_z w64 a) → Some (Reg z) ≡ told_operand kind a b
unfolding told_operand
reg_told a b e h f = rw (e, h) (ap (λ (x : ℤ). Some (Reg x)) (f (and_left (is_i32 a) (eqb b 0) h)))

pub list_told : (a b : ℕ) {kind : ℕ} {z : ℤ} → kind ≡ 2 → (is_i32 a && ltb b (2 ^ 32)) ≡ true → (is_i32 a ≡ true → z ≡ to_z w64 a) → Some (RegList z b) ≡ told_operand kind a b
unfolding told_operand
list_told a b e h f = rw (e, h) (ap (λ (x : ℤ). Some (RegList x b)) (f (and_left (is_i32 a) (ltb b (2 ^ 32)) h)))

-- ---- the eight
-- the first n of a run of places are those that the numbers tell
abbrev pub SlotsAre : List ℕ → List OperandRecord → ℕ → Type 0
SlotsAre ns rs n = (k : ℕ) → k < n → get_or rs k (record_of None) ≡ told_at ns k

-- one more is stored
pub slots_more : (ns : List ℕ) (rs : List OperandRecord) (n : ℕ) (v : OperandRecord) → n < length rs → v ≡ told_at ns n → SlotsAre ns rs n → SlotsAre ns (set rs n v) (n + 1)
slots_more ns rs n v room is h k l = ⊎_elim
    (λ (e : k ≡ n). ap (λ (j : ℕ). get_or (set rs n v) j (record_of None)) e ∙ get_or-set_same rs n v (record_of None) room ∙ is ∙ ap (told_at ns) (sym e))
    (λ (x : k ≡ n → ⊥). get_or-set_other rs n k v (record_of None) x ∙ h k (omega arith)) (same? k n)

from_length : (ns : List ℕ) (j n : ℕ) → length (told_from ns j n) ≡ n
unfolding told_from
from_length ns j zero = refl
from_length ns j (suc n) = ap suc (from_length ns (j + 1) n)

pub from_at : (ns : List ℕ) (j n k : ℕ) → k < n → get_or (told_from ns j n) k (record_of None) ≡ told_at ns (j + k)
unfolding told_from
from_at ns j zero k h = absurd (omega arith)
from_at ns j (suc n) zero h = ap (told_at ns) (omega arith)
from_at ns j (suc n) (suc k) h = let e : j + 1 + k ≡ j + suc k = omega arith in from_at ns (j + 1) n k (omega arith) ∙ ap (told_at ns) e

pub slots_told : (ns : List ℕ) (rs : List OperandRecord) → length rs ≡ 8 → SlotsAre ns rs 8 → rs ≡ told_from ns 0 8
slots_told ns rs len are =
    ext_get_or (record_of None) rs (told_from ns 0 8) (len ∙ sym (from_length ns 0 8)) (λ k h. let l : k < 8 = omega (arith, len, h) in are k l ∙ sym (from_at ns 0 8 k l ∙ ap (told_at ns) (omega arith)))
