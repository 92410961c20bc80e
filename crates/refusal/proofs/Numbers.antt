-- Numbers say all of an answer: each definition of numbers can be read back. Assumes nothing.
use Prim.Native.Nat.{ℕ, zero, suc, ◌-◌}
use mathlib.Core.Path.{◌≡◌, refl, sym, ap, ◌∙◌}
use mathlib.Core.Bool.{cond}
use mathlib.Core.List.{List, [], ◌∷◌}
use lib.Dec.{eqb}
use lib.IntN.{ℤ, pos, negsuc, nat_abs}
use lib.ListN.{get_or}
use Rattle.refusal.specs.Refusal.{Refusal}
use Rattle.std.specs.Prelude.{Ok, Err}
use Rattle.refusal.specs.Check.{Check, refusal_at}
use Rattle.refusal.specs.Numbers.{Numbers, refusal_numbers, check_numbers}
use Rattle.refusal.specs.Fault.{number_of}
use Rattle.refusal.specs.declared.Fault.{Fault}
use Rattle.refusal.specs.declared.Fault.TheVariants as fault

-- what can be read back is told of one answer only
pub one_by : {A B : Type 0} (tell : A → B) (read : B → A) → ((a : A) → read (tell a) ≡ a) → (a b : A) → tell a ≡ tell b → a ≡ b
one_by tell read back a b e = sym (back a) ∙ ap read e ∙ back b

-- the fault of a number
abbrev pub faults : List Fault
faults =
    fault.TableSize ∷ fault.BadName ∷ fault.BadOpcode ∷ fault.BadType ∷
    fault.BadLayout ∷ fault.StoreSize ∷ fault.BadRecord ∷ fault.NoObject ∷
    fault.BadLength ∷ fault.LongCode ∷ fault.EndsAfterWide ∷ fault.EndsAfterExtraWide ∷
    fault.NoOpcode ∷ fault.EndsInOperand ∷ fault.EndsInCount ∷ fault.BadSwitch ∷
    fault.ShortOutput ∷ fault.ShortMarks ∷ fault.CodeNotHeld ∷ fault.BeyondCode ∷
    fault.WrongScale ∷ fault.WrongOpcode ∷ fault.WrongOperands ∷ fault.HandlersSize ∷
    fault.BadHandler ∷ fault.BadFlow ∷ fault.OtherFlow ∷ []

abbrev pub fault_of : ℕ → Fault
fault_of n = get_or faults (n - 1) fault.TableSize

fault_back_lem : (f : Fault) → fault_of (number_of f) ≡ f
fault_back_lem fault.TableSize = refl
fault_back_lem fault.BadName = refl
fault_back_lem fault.BadOpcode = refl
fault_back_lem fault.BadType = refl
fault_back_lem fault.BadLayout = refl
fault_back_lem fault.StoreSize = refl
fault_back_lem fault.BadRecord = refl
fault_back_lem fault.NoObject = refl
fault_back_lem fault.BadLength = refl
fault_back_lem fault.LongCode = refl
fault_back_lem fault.EndsAfterWide = refl
fault_back_lem fault.EndsAfterExtraWide = refl
fault_back_lem fault.NoOpcode = refl
fault_back_lem fault.EndsInOperand = refl
fault_back_lem fault.EndsInCount = refl
fault_back_lem fault.BadSwitch = refl
fault_back_lem fault.ShortOutput = refl
fault_back_lem fault.ShortMarks = refl
fault_back_lem fault.CodeNotHeld = refl
fault_back_lem fault.BeyondCode = refl
fault_back_lem fault.WrongScale = refl
fault_back_lem fault.WrongOpcode = refl
fault_back_lem fault.WrongOperands = refl
fault_back_lem fault.HandlersSize = refl
fault_back_lem fault.BadHandler = refl
fault_back_lem fault.BadFlow = refl
fault_back_lem fault.OtherFlow = refl

abbrev pub refusal_of : Numbers → Refusal
refusal_of n = record { fault = fault_of n.number; place = n.place }

pub refusal_back : (r : Refusal) → refusal_of (refusal_numbers r) ≡ r
refusal_back r = ap (λ (f : Fault). refusal_at f r.place) (fault_back_lem r.fault)

-- a refusal where there are no values, else what the values say
abbrev pub refused_or : {A : Type 0} → (Refusal → A) → (List ℤ → A) → Numbers → A
refused_or refusal answer n = elim n.values [ [] ↦ refusal (refusal_of n) | v ∷ vs ↦ answer (v ∷ vs) ]

-- what was sought in vain, or what is found
abbrev pub found_or : {A : Type 0} → A → (List ℤ → A) → List ℤ → A
found_or nothing found [] = nothing
found_or nothing found (pos zero ∷ vs) = nothing
found_or nothing found (pos (suc n) ∷ vs) = found vs
found_or nothing found (negsuc n ∷ vs) = nothing

-- where nothing is found: the end, or not
abbrev pub end_or : {A : Type 0} → A → A → Numbers → A
end_or end nothing n = cond (eqb n.number 255) end nothing

-- value k, and one that is not negative as a number
abbrev pub value : ℕ → List ℤ → ℤ
value k vs = get_or vs k (pos 0)

abbrev pub count : ℕ → List ℤ → ℕ
count k vs = nat_abs (value k vs)

abbrev check_of : Numbers → Check
check_of = refused_or Err (λ vs. (Ok tt))

check_back_lem : (a : Check) → check_of (check_numbers a) ≡ a
check_back_lem (Ok tt) = refl
check_back_lem (Err r) = ap (λ (x : Refusal). Err x) (refusal_back r)

pub check_numbers_one : (a b : Check) → check_numbers a ≡ check_numbers b → a ≡ b
check_numbers_one = one_by check_numbers check_of check_back_lem
