-- An instruction's numbers, told one by one. Assumes nothing.
use Prim.Native.Nat.{ℕ, zero, suc, ◌+◌, ◌-◌, ◌*◌, ◌/◌, ◌%◌, ◌<◌, ◌≤◌}
use mathlib.Core.Path.{◌≡◌, refl, sym, ap, ◌∙◌}
use mathlib.Core.List.{List, [], ◌∷◌, map}
use mathlib.Core.Logic.{⊎_elim}
use native.Mathlib.Omega.{arith}
use lib.IntN.{pos}
use lib.ListN.{length, get_or, set, length-append, length-map, get_or-append, get_or-map}
use lib.Seq.{get_or-set_same, get_or-set_other, get_or-append-add, ext_get_or}
use Rattle.laws.proofs.Tests.{same?, under?}
use Rattle.std.specs.Prelude.{Option, Some, None}
use Rattle.operand.specs.declared.Operand.{Operand}
use Rattle.operand.specs.declared.Operand.TheVariants.{Reg, RegList, Imm, Idx, Flag8, Flag16, RuntimeId, IntrinsicId, Raw}
use Rattle.operand.specs.Numbers.{place_numbers}
use Rattle.decoder.specs.declared.OperandRecord.{OperandRecord}
use Rattle.decoder.specs.declared.Instr.{Instr}
use Rattle.decoder.specs.Decode.{record_of}
use Rattle.bytecode.specs.Numbers.{operands_numbers, instr_numbers}
use Rattle.numbers.specs.Told.{told64}
use Rattle.numbers.specs.mirror.Instr.{operand_in, instr_number, NumbersAre}

-- ---- number k
three : (p : Option Operand) → length (place_numbers p) ≡ 3
three None = refl
three (Some (Reg i)) = refl
three (Some (RegList first count)) = refl
three (Some (Imm v)) = refl
three (Some (Idx v)) = refl
three (Some (Flag8 v)) = refl
three (Some (Flag16 v)) = refl
three (Some (RuntimeId v)) = refl
three (Some (IntrinsicId v)) = refl
three (Some (Raw ty value)) = refl

none_at : (t : ℕ) → get_or (place_numbers None) t (pos 0) ≡ pos 0
none_at zero = refl
none_at (suc zero) = refl
none_at (suc (suc zero)) = refl
none_at (suc (suc (suc t))) = refl

abbrev operand_at : List OperandRecord → ℕ → Option Operand
operand_at rs j = (get_or rs j (record_of None)).operand

operands_at_lem : (rs : List OperandRecord) (j : ℕ) → get_or (operands_numbers rs) j (pos 0) ≡ get_or (place_numbers (operand_at rs (j / 3))) (j % 3) (pos 0)
operands_at_lem [] j = sym (none_at (j % 3))
operands_at_lem (r ∷ rs) j = ⊎_elim here (there (operands_at_lem rs (j - 3))) (under? j 3)
  where
    here : j < 3 → get_or (operands_numbers (r ∷ rs)) j (pos 0) ≡ get_or (place_numbers (operand_at (r ∷ rs) (j / 3))) (j % 3) (pos 0)
    here h =
        let d : j / 3 ≡ 0 = omega arith in
        let m : j % 3 ≡ j = omega arith in
        rw (d, m) (get_or-append (place_numbers r.operand) (operands_numbers rs) (pos 0) j (omega (arith, three r.operand)))

    there : get_or (operands_numbers rs) (j - 3) (pos 0) ≡ get_or (place_numbers (operand_at rs ((j - 3) / 3))) ((j - 3) % 3) (pos 0)
        → 3 ≤ j → get_or (operands_numbers (r ∷ rs)) j (pos 0) ≡ get_or (place_numbers (operand_at (r ∷ rs) (j / 3))) (j % 3) (pos 0)
    there rest h =
        let d : j / 3 ≡ suc ((j - 3) / 3) = omega arith in
        let m : j % 3 ≡ (j - 3) % 3 = omega arith in
        let e : j ≡ length (place_numbers r.operand) + (j - 3) = omega (arith, three r.operand) in
        ap (λ (k : ℕ). get_or (operands_numbers (r ∷ rs)) k (pos 0)) e ∙ get_or-append-add (place_numbers r.operand) (operands_numbers rs) (j - 3) (pos 0) ∙ rw (d, m) rest

-- from number 4 on, three for each operand
pub instr_operand : (i : Instr) (k : ℕ) → 4 ≤ k → instr_number i k ≡ told64 (get_or (place_numbers (operand_in i ((k - 4) / 3))) ((k - 4) % 3) (pos 0))
instr_operand i k h =
    let e : k ≡ suc (suc (suc (suc (k - 4)))) = omega arith in
    ap (λ (n : ℕ). instr_number i n) e ∙ ap told64 (operands_at_lem i.operands (k - 4))

-- ---- all of them
-- one more number is stored
pub numbers_more : (i : Instr) (ns : List ℕ) (n v : ℕ) → n < length ns → v ≡ instr_number i n → NumbersAre i ns n → NumbersAre i (set ns n v) (n + 1)
numbers_more i ns n v room is h k l = ⊎_elim
    (λ (e : k ≡ n). ap (λ (j : ℕ). get_or (set ns n v) j 0) e ∙ get_or-set_same ns n v 0 room ∙ is ∙ ap (instr_number i) (sym e))
    (λ (x : k ≡ n → ⊥). get_or-set_other ns n k v 0 x ∙ h k (omega arith)) (same? k n)

operands_length : (rs : List OperandRecord) → length (operands_numbers rs) ≡ 3 * length rs
operands_length [] = refl
operands_length (r ∷ rs) = rw length-append (omega (arith, three r.operand, operands_length rs))

-- 28 numbers are those of an instruction with eight places for operands
pub numbers_told_lem : (i : Instr) (ns : List ℕ) → length ns ≡ 28 → length i.operands ≡ 8 → NumbersAre i ns 28 → ns ≡ map told64 (instr_numbers i)
numbers_told_lem i ns len eight are =
    let long : length (instr_numbers i) ≡ 28 = omega (arith, operands_length i.operands, eight) in
    ext_get_or 0 ns (map told64 (instr_numbers i)) (len ∙ sym long ∙ sym (length-map (instr_numbers i) told64)) (λ k h. are k (omega (arith, len, h)) ∙ sym (get_or-map told64 (instr_numbers i) k (pos 0)))
