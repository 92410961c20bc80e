-- What the functions learn of what is decoded and kept, and of room. Assumes nothing.
use Prim.Native.Nat.{ℕ, ◌≤◌}
use mathlib.Core.Path.{◌≡◌, refl, sym, ap, subst, ◌∙◌}
use mathlib.Core.Bool.{Bool, cond}
use mathlib.Core.List.{List}
use mathlib.Core.Logic.{⊎_elim}
use native.Mathlib.Omega.{arith}
use lib.ListN.{take, length-take, get_or-eq_default}
use lib.Seq.{get_or-take}
use lib.IntN.{ℤ}
use Rattle.laws.proofs.Tests.{under?}
use Rattle.std.specs.Prelude.{Option, Some, None, Result, Ok, Err}
use Rattle.targets.specs.declared.Entries.{Entries}
use Rattle.refusal.specs.declared.Fault.TheVariants as fault
use Rattle.refusal.specs.Check.{Check, refused, first_refusal}
use Rattle.std.specs.Result.{result_and, result_unwrap_or}
use Rattle.decoder.specs.Decode.{decode_at}
use Rattle.decoder.specs.Listed.{decodes}
use Rattle.flow.specs.Opcodes.{opcodes_of}
use Rattle.function.specs.declared.Function.{Function}
use Rattle.function.specs.Code.{table_check}
use Rattle.steps.specs.declared.Kept.{Kept}
use Rattle.steps.specs.mirror.Keeping.{kept_on, stored}
use Rattle.steps.proofs.Laws.{is_refused}
use Rattle.walk.specs.mirror.Search.{Prefixed, Clear, kept_check}
use Rattle.targets.specs.declared.BadSwitch.{BadSwitch}

-- what is decoded with the prefix opcodes that were found once
pub decoded_is : (ops : List ℕ) (u : Function) (code types : List ℕ) (rfs : ℤ) (o : ℕ) → Prefixed ops u → decode_at code (opcodes_of ops) types o rfs u.prefixes ≡ decodes code (opcodes_of ops) types rfs o
decoded_is ops u code types rfs o t = ap (decode_at code (opcodes_of ops) types o rfs) t

-- what is kept of an instruction is checked as its table is, where number 16 refuses both or none
pub check_is : (t : Result (Option Entries) BadSwitch) (at : ℕ) → cond (is_refused t) (refused fault.BadSwitch at) (Ok tt) ≡ table_check t at
check_is (Ok None) at = refl
check_is (Ok (Some e)) at = refl
check_is (Err e) at = refl

pub kept_is_refused : (k : Result Kept BadSwitch) (t : Result (Option Entries) BadSwitch) (at : ℕ) → is_refused k ≡ is_refused t → kept_check k at ≡ table_check t at
kept_is_refused k t at same = go k ∙ ap (λ (b : Bool). cond b (refused fault.BadSwitch at) (Ok tt)) same ∙ check_is t at
  where
    go : (k : Result Kept BadSwitch) → kept_check k at ≡ cond (is_refused k) (refused fault.BadSwitch at) (Ok tt)
    go (Ok p) = refl
    go (Err e) = refl

pub and_is : (a b : Check) → result_and a b ≡ first_refusal a b
and_is (Ok tt) b = refl
and_is (Err r) b = refl

pub stored_is : (size : ℕ) (k : Result Kept BadSwitch) → result_unwrap_or k (kept_on size) ≡ stored size k
stored_is size (Ok p) = refl
stored_is size (Err e) = refl

-- ---- room
-- an array of k numbers has room for n
pub room_of : (n m k : ℕ) → n ≤ k → m ≡ k → n ≤ m
room_of n m k h e = subst (λ (x : ℕ). n ≤ x) (sym e) h

-- a part of room of zeros is one
pub clear_part : (n : ℕ) (l : List ℕ) → Clear l → Clear (take n l)
clear_part n l c t = ⊎_elim (λ h. get_or-take n l t 0 h ∙ c t) (λ h. get_or-eq_default (take n l) 0 (omega (arith, length-take n l))) (under? t n)
