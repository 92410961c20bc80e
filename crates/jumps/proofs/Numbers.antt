-- The answers' numbers say all of them: each answer is read back from its numbers. Assumes nothing.
use Prim.Native.Nat.{ℕ, zero, suc}
use mathlib.Core.Path.{◌≡◌, refl, ap}
use mathlib.Core.List.{List}
use lib.IntN.{ℤ}
use Rattle.std.specs.Prelude.{Option, Some, None, Ok, Err}
use Rattle.refusal.specs.Refusal.{Refusal}
use Rattle.refusal.specs.Numbers.{Numbers, finds_nothing}
use Rattle.refusal.proofs.Numbers.{one_by, refusal_back, refused_or, found_or, end_or, value, count}
use Rattle.targets.specs.declared.Entries.{Entries}
use Rattle.jumps.specs.Jumps.{Asked}
use Rattle.jumps.specs.Numbers.{asked_numbers, target_numbers, table_numbers, shown_numbers, entry_numbers}
use Rattle.jumps.specs.declared.Entry.{Entry}
use Rattle.jumps.specs.declared.Entry.TheVariants.{Shown, Skipped, Beyond}

-- an answer by its numbers; `found` reads back what the instruction has
abbrev asked_read : {A : Type 0} → (Numbers → Option A) → Numbers → Asked A
asked_read found n = refused_or Err (λ vs. end_or (Ok None) (Ok (Some (found n))) n) n

module _ {A : Type 0} (told : A → Numbers) (found : Numbers → Option A) (nothing : found finds_nothing ≡ None)
    (back : (a : A) → asked_read found (told a) ≡ Ok (Some (Some a))) where
  asked_back : (at : ℕ) (x : Asked A) → asked_read found (asked_numbers told at x) ≡ x
  asked_back at (Ok (Some (Some a))) = back a
  asked_back at (Ok (Some None)) = ap (λ (x : Option A). Ok (Some x)) nothing
  asked_back at (Ok None) = refl
  asked_back at (Err r) = ap (λ (x : Refusal). Err x) (refusal_back r)

  asked_one : (at : ℕ) (a b : Asked A) → asked_numbers told at a ≡ asked_numbers told at b → a ≡ b
  asked_one at = one_by (asked_numbers told at) (asked_read found) (asked_back at)

abbrev target_found : Numbers → Option ℕ
target_found n = found_or None (λ vs. Some (count 0 vs)) n.values

pub target_numbers_one : (at : ℕ) (a b : Asked ℕ) → target_numbers at a ≡ target_numbers at b → a ≡ b
target_numbers_one = asked_one _ target_found refl (λ t. refl)

abbrev table_found : Numbers → Option Entries
table_found n = found_or None (λ vs. Some (record { start = count 0 vs; count = count 1 vs; base = value 2 vs })) n.values

pub table_numbers_one : (at : ℕ) (a b : Asked Entries) → table_numbers at a ≡ table_numbers at b → a ≡ b
table_numbers_one = asked_one _ table_found refl (λ e. refl)

abbrev entry_by : ℕ → List ℤ → Option Entry
entry_by zero vs = None
entry_by (suc zero) vs = Some (Shown (record { case = value 1 vs; target = count 2 vs }))
entry_by (suc (suc zero)) vs = Some Skipped
entry_by (suc (suc (suc k))) vs = Some Beyond

abbrev entry_found : Numbers → Option Entry
entry_found n = entry_by (count 0 n.values) n.values

entry_back : (e : Entry) → asked_read entry_found (shown_numbers e) ≡ Ok (Some (Some e))
entry_back (Shown c) = refl
entry_back Skipped = refl
entry_back Beyond = refl

pub entry_numbers_one : (at : ℕ) (a b : Asked Entry) → entry_numbers at a ≡ entry_numbers at b → a ≡ b
entry_numbers_one = asked_one _ entry_found refl entry_back
