-- Laws of the largest register, for the code's loops. Assumes nothing.
use Prim.Native.Nat.{ℕ, zero, suc, ◌+◌, ◌<◌}
use mathlib.Core.Path.{◌≡◌, refl}
use mathlib.Core.List.{List, [], ◌∷◌}
use lib.ListN.{length, get_or, take}
use native.Mathlib.Nat.{not-suc-le-zero, le_of_suc-le-suc}
use native.Mathlib.Numerals.{add-one}
use Rattle.operand.specs.declared.Operand.{Operand}
use Rattle.decoder.specs.declared.OperandRecord.{OperandRecord}
use Rattle.decoder.specs.declared.Instr.{Instr}
use Rattle.std.specs.Prelude.{Option, Some, None}
use Rattle.registers.specs.Registers.{with_place, with_operands, with_instr, with_instrs}

-- a place without an operand
pub place_stays : (b : Option ℕ) (p : Option Operand) → ((o : Operand) → p ≡ Some o → ⊥) → b ≡ with_place b p
place_stays b None h = refl
place_stays b (Some o) h = absurd (h o refl)

-- one more place
pub operands_more : (best b : Option ℕ) (xs : List OperandRecord) (i : ℕ) (z : OperandRecord) → i < length xs → b ≡ with_operands best (take i xs)
    → with_place b (get_or xs i z).operand ≡ with_operands best (take (i + 1) xs)
unfolding with_operands
operands_more best b xs i z h e = rw (add-one, e) (go best xs i h)
  where
    go : (d : Option ℕ) (l : List OperandRecord) (j : ℕ) → j < length l → with_place (with_operands d (take j l)) (get_or l j z).operand ≡ with_operands d (take (suc j) l)
    go d [] j k = absurd (not-suc-le-zero k)
    go d (x ∷ l) zero k = refl
    go d (x ∷ l) (suc j) k = go (with_place d x.operand) l j (le_of_suc-le-suc k)

pub operands_none : (best : Option ℕ) (xs : List OperandRecord) → best ≡ with_operands best (take 0 xs)
unfolding with_operands
operands_none best xs = refl

-- one more instruction
pub instrs_more : (best : Option ℕ) (xs : List Instr) (i : ℕ) (z : Instr) → i < length xs → with_instrs best (take (i + 1) xs) ≡ with_instr (with_instrs best (take i xs)) (get_or xs i z)
instrs_more best xs i z h = rw add-one (go best xs i h)
  where
    go : (b : Option ℕ) (l : List Instr) (j : ℕ) → j < length l → with_instrs b (take (suc j) l) ≡ with_instr (with_instrs b (take j l)) (get_or l j z)
    go b [] j k = absurd (not-suc-le-zero k)
    go b (x ∷ l) zero k = refl
    go b (x ∷ l) (suc j) k = go (with_instr b x) l j (le_of_suc-le-suc k)
