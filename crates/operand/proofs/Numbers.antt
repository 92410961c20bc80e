-- An operand's three numbers say all of it, also where other numbers follow. Assumes nothing.
use Prim.Native.Nat.{ℕ, zero, suc}
use mathlib.Core.Path.{◌≡◌, refl, ap}
use mathlib.Core.List.{List, [], ◌∷◌, ◌++◌}
use lib.IntN.{ℤ, nat_abs}
use Rattle.refusal.proofs.Numbers.{one_by}
use Rattle.operand.specs.Numbers.{operand_numbers, place_numbers}
use Rattle.std.specs.Prelude.{Option, Some, None}
use Rattle.std.proofs.lemmas.Option.{same_Some}
use Rattle.operand.specs.declared.Operand.{Operand}
use Rattle.operand.specs.declared.Operand.TheVariants.{Reg, RegList, Imm, Idx, Flag8, Flag16, RuntimeId, IntrinsicId, Raw}

abbrev of_numbers : ℕ → ℤ → ℤ → Option Operand
of_numbers zero f s = None
of_numbers (suc zero) f s = Some (Reg f)
of_numbers (suc (suc zero)) f s = Some (RegList f (nat_abs s))
of_numbers (suc (suc (suc zero))) f s = Some (Imm f)
of_numbers (suc (suc (suc (suc zero)))) f s = Some (Idx (nat_abs f))
of_numbers (suc (suc (suc (suc (suc zero))))) f s = Some (Flag8 (nat_abs f))
of_numbers (suc (suc (suc (suc (suc (suc zero)))))) f s = Some (Flag16 (nat_abs f))
of_numbers (suc (suc (suc (suc (suc (suc (suc zero))))))) f s = Some (RuntimeId (nat_abs f))
of_numbers (suc (suc (suc (suc (suc (suc (suc (suc zero)))))))) f s = Some (IntrinsicId (nat_abs f))
of_numbers (suc (suc (suc (suc (suc (suc (suc (suc (suc k))))))))) f s = Some (Raw (nat_abs f) (nat_abs s))

-- the place whose numbers come first, and what follows them
pub record Leading : Type 0 where
  pub operand : Option Operand
  pub rest : List ℤ

abbrev pub leading : List ℤ → Leading
leading [] = record { operand = None; rest = [] }
leading (k ∷ []) = record { operand = None; rest = [] }
leading (k ∷ f ∷ []) = record { operand = None; rest = [] }
leading (k ∷ f ∷ s ∷ vs) = record { operand = of_numbers (nat_abs k) f s; rest = vs }

pub operand_leads : (o : Option Operand) (vs : List ℤ) → leading (place_numbers o ++ vs) ≡ record { operand = o; rest = vs }
operand_leads None vs = refl
operand_leads (Some (Reg i)) vs = refl
operand_leads (Some (RegList first count)) vs = refl
operand_leads (Some (Imm v)) vs = refl
operand_leads (Some (Idx v)) vs = refl
operand_leads (Some (Flag8 v)) vs = refl
operand_leads (Some (Flag16 v)) vs = refl
operand_leads (Some (RuntimeId v)) vs = refl
operand_leads (Some (IntrinsicId v)) vs = refl
operand_leads (Some (Raw ty value)) vs = refl

pub place_numbers_one : (a b : Option Operand) → place_numbers a ≡ place_numbers b → a ≡ b
place_numbers_one = one_by place_numbers (λ vs. (leading (vs ++ [])).operand) (λ o. ap (λ (l : Leading). l.operand) (operand_leads o []))

pub operand_numbers_one : (a b : Operand) → operand_numbers a ≡ operand_numbers b → a ≡ b
operand_numbers_one a b e = same_Some a b (place_numbers_one (Some a) (Some b) e)
