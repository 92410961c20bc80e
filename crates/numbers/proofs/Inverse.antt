-- The way back is the inverse of the numbers that are told: `told_back` and `told_again`. Assumes nothing.
use Prim.Native.Nat.{ℕ, zero, suc, ◌+◌, ◌-◌, ◌*◌, ◌/◌, ◌%◌, ◌^◌, ◌<◌}
use mathlib.Core.Path.{◌≡◌, refl, sym, ap, ◌∙◌}
use mathlib.Core.Bool.{Bool, true, false, ◌&&◌, ◌||◌}
use mathlib.Core.List.{List, [], ◌∷◌, map}
use mathlib.Core.Logic.{◌⊎◌, inl, inr}
use native.Mathlib.Omega.{arith}
use native.Mathlib.Nat.{mod-eq_of_lt}
use borrow.Author.Tests.{lt-ltb, le-leb, eqb-true}
use lib.Dec.{eqb, leb, ltb}
use lib.IntN.{ℤ, pos, negsuc}
use lib.ListN.{get_or, get_or-map}
use mir.Facts.{to_z-of_z}
use mir.Syntax.{w32, w64}
use mir.Val.{Fits, SFits, to_z}
use mir.ValLaws.{of_z-to_z}
use Rattle.laws.proofs.Tests.{and_both, and_right}
use Rattle.std.specs.Prelude.{Option, Some, None}
use Rattle.operand.specs.declared.Operand.{Operand}
use Rattle.operand.specs.declared.Operand.TheVariants.{Reg, RegList, Imm, Idx, Flag8, Flag16, RuntimeId, IntrinsicId, Raw}
use Rattle.operand.specs.Numbers.{place_numbers}
use Rattle.decoder.specs.declared.Instr.{Instr}
use Rattle.decoder.specs.Decode.{record_of}
use Rattle.bytecode.specs.Numbers.{instr_numbers}
use Rattle.numbers.specs.Told.{told64}
use Rattle.numbers.specs.Back.{is_i32, only, told_operand, told_at, told_from, told_scale, told_instr}
use Rattle.numbers.proofs.Fits.{PlaceFits, InstrFits}
use Rattle.numbers.specs.mirror.Instr.{operand_in, operand_number}
use Rattle.numbers.proofs.Instr.{instr_operand}
use Rattle.numbers.proofs.Back.{only_yes, slots_told}

-- ---- an operand's numbers tell it
or_right : (s : Bool) {t : Bool} → t ≡ true → (s || t) ≡ true
or_right true h = refl
or_right false h = h

or_left : {s : Bool} (t : Bool) → s ≡ true → (s || t) ≡ true
or_left t h = rw h refl

i32_told : (i : ℤ) → SFits w32 i → is_i32 (told64 i) ≡ true
unfolding is_i32
i32_told (pos n) h = or_left (leb (2 ^ 64 - 2 ^ 31) n) (lt-ltb n (2 ^ 31) h.sfits)
i32_told (negsuc n) h = or_right (ltb (2 ^ 64 - suc n) (2 ^ 31)) (le-leb (2 ^ 64 - 2 ^ 31) (2 ^ 64 - suc n) (omega (arith, h.sfits)))

-- of a number that 32 bits hold
read_told : (i : ℤ) → SFits w32 i → to_z w64 (told64 i) ≡ i
read_told i h = to_z-of_z {w = w64} {z = i} (record { sfits = omega (arith, h.sfits) })

pub operand_back : (o : Option Operand) → PlaceFits o → told_operand (operand_number o 0) (operand_number o 1) (operand_number o 2) ≡ o
unfolding told_operand
operand_back None h = refl
operand_back (Some (Reg i)) h = sym (only_yes (and_both (i32_told i h) refl) _) ∙ ap (λ (z : ℤ). Some (Reg z)) (read_told i h)
operand_back (Some (RegList first count)) h =
    sym (only_yes (and_both (i32_told first h.0) (lt-ltb count (2 ^ 32) h.1)) _) ∙ ap (λ (z : ℤ). Some (RegList z count)) (read_told first h.0)
operand_back (Some (Imm v)) h = ap (λ (z : ℤ). Some (Imm z)) (to_z-of_z {w = w64} {z = v} h)
operand_back (Some (Idx v)) h = sym (only_yes (and_both (lt-ltb v (2 ^ 32) h) refl) _)
operand_back (Some (Flag8 v)) h = sym (only_yes (and_both (lt-ltb v (2 ^ 8) h) refl) _)
operand_back (Some (Flag16 v)) h = sym (only_yes (and_both (lt-ltb v (2 ^ 16) h) refl) _)
operand_back (Some (RuntimeId v)) h = sym (only_yes (and_both (lt-ltb v (2 ^ 32) h) refl) _)
operand_back (Some (IntrinsicId v)) h = sym (only_yes (and_both (lt-ltb v (2 ^ 32) h) refl) _)
operand_back (Some (Raw ty value)) h = sym (only_yes (lt-ltb ty (2 ^ 8) h) _)

-- ---- an instruction's numbers tell it
abbrev told : Instr → List ℕ
told i = map told64 (instr_numbers i)

-- number t of operand k
number_at : (i : Instr) (k t n : ℕ) → t < 3 → n ≡ 4 + 3 * k + t → get_or (told i) n 0 ≡ operand_number (operand_in i k) t
number_at i k t n h e =
    let d : (n - 4) / 3 ≡ k = omega arith in
    let m : (n - 4) % 3 ≡ t = omega arith in
    get_or-map told64 (instr_numbers i) n (pos 0) ∙ instr_operand i n (omega arith) ∙ rw (d, m) refl

slot_back : (i : Instr) → ((j : ℕ) → PlaceFits (operand_in i j)) → (k : ℕ) → get_or i.operands k (record_of None) ≡ told_at (told i) k
slot_back i fit k =
    let o = operand_in i k in
    let n = 4 + 3 * k in
    let x : get_or (told i) n 0 ≡ operand_number o 0 = number_at i k 0 n (omega arith) (omega arith) in
    let y : get_or (told i) (n + 1) 0 ≡ operand_number o 1 = number_at i k 1 (n + 1) (omega arith) (omega arith) in
    let z : get_or (told i) (n + 2) 0 ≡ operand_number o 2 = number_at i k 2 (n + 2) (omega arith) (omega arith) in
    ap record_of (sym (ap (λ (a : ℕ). told_operand a (get_or (told i) (n + 1) 0) (get_or (told i) (n + 2) 0)) x
    ∙ ap (λ (a : ℕ). told_operand (operand_number o 0) a (get_or (told i) (n + 2) 0)) y
    ∙ ap (λ (a : ℕ). told_operand (operand_number o 0) (operand_number o 1) a) z
    ∙ operand_back o (fit k)))

-- The numbers that are told of an instruction tell it.
pub told_back : (i : Instr) → InstrFits i → told_instr (map told64 (instr_numbers i)) ≡ i
unfolding told_instr
told_back i h =
    let slots : told_from (told i) 0 8 ≡ i.operands = sym (slots_told (told i) i.operands h.eight (λ k l. slot_back i h.fit_operands k)) in
    let code : i.opcode % 256 ≡ i.opcode = mod-eq_of_lt h.fits_opcode in
    let scale : told_scale i.scale ≡ i.scale = rw (lt-ltb i.scale 256 h.fits_scale) refl in
    rw (slots, code, scale, sym h.start) refl

-- ---- three numbers that tell an operand are those that are told of it
abbrev Again : ℕ → ℕ → ℕ → Option Operand → Type 0
Again k a b p = (p ≡ None) ⊎ (map told64 (place_numbers p) ≡ k ∷ a ∷ b ∷ [])

again_only : (k a b : ℕ) (t : Bool) (o : Operand) → (t ≡ true → map told64 (place_numbers (Some o)) ≡ k ∷ a ∷ b ∷ []) → Again k a b (only t o)
again_only k a b true o f = inr (f refl)
again_only k a b false o f = inl refl

-- of a kind with one number, which is told as x
again_one : (k a b x : ℕ) (s : Bool) (o : Operand) → map told64 (place_numbers (Some o)) ≡ k ∷ x ∷ 0 ∷ [] → x ≡ a → Again k a b (only (s && eqb b 0) o)
again_one k a b x s o n e = again_only k a b (s && eqb b 0) o (λ h.
    let z : b ≡ 0 = eqb-true b 0 (and_right s (eqb b 0) h) in
    rw z (n ∙ ap (λ (v : ℕ). k ∷ v ∷ 0 ∷ []) e))

-- There is no operand, or its numbers are k, a and b.
pub told_again : (k a b : ℕ) → Fits w64 a → (told_operand k a b ≡ None) ⊎ (map told64 (place_numbers (told_operand k a b)) ≡ k ∷ a ∷ b ∷ [])
unfolding told_operand
told_again zero a b f = inl refl
told_again (suc zero) a b f = again_one 1 a b (told64 (to_z w64 a)) (is_i32 a) (Reg (to_z w64 a)) refl (of_z-to_z w64 a f)
told_again (suc (suc zero)) a b f =
    again_only 2 a b (is_i32 a && ltb b (2 ^ 32)) (RegList (to_z w64 a) b) (λ h. ap (λ (v : ℕ). 2 ∷ v ∷ b ∷ []) (of_z-to_z w64 a f))
told_again (suc (suc (suc zero))) a b f = again_one 3 a b (told64 (to_z w64 a)) true (Imm (to_z w64 a)) refl (of_z-to_z w64 a f)
told_again (suc (suc (suc (suc zero)))) a b f = again_one 4 a b a (ltb a (2 ^ 32)) (Idx a) refl refl
told_again (suc (suc (suc (suc (suc zero))))) a b f = again_one 5 a b a (ltb a (2 ^ 8)) (Flag8 a) refl refl
told_again (suc (suc (suc (suc (suc (suc zero)))))) a b f = again_one 6 a b a (ltb a (2 ^ 16)) (Flag16 a) refl refl
told_again (suc (suc (suc (suc (suc (suc (suc zero))))))) a b f = again_one 7 a b a (ltb a (2 ^ 32)) (RuntimeId a) refl refl
told_again (suc (suc (suc (suc (suc (suc (suc (suc zero)))))))) a b f = again_one 8 a b a (ltb a (2 ^ 32)) (IntrinsicId a) refl refl
told_again (suc (suc (suc (suc (suc (suc (suc (suc (suc zero))))))))) a b f = again_only 9 a b (ltb a (2 ^ 8)) (Raw a b) (λ h. refl)
told_again (suc (suc (suc (suc (suc (suc (suc (suc (suc (suc k)))))))))) a b f = inl refl

-- ---- by computing: -1; 32 bits whose sign is not extended; a flag of more than 8 bits; a second number too many
register : told_operand 1 (2 ^ 64 - 1) 0 ≡ Some (Reg (negsuc 0))
unfolding told_operand is_i32
register = refl

no_register : told_operand 1 (2 ^ 32 - 1) 0 ≡ None
unfolding told_operand is_i32
no_register = refl

no_flag : told_operand 5 300 0 ≡ None
unfolding told_operand
no_flag = refl

no_index : told_operand 4 7 1 ≡ None
unfolding told_operand
no_index = refl
