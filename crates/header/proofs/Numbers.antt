-- The answers' numbers say all of them: each answer is read back from its numbers. Assumes nothing.
use Rattle.std.specs.Prelude.{ℕ}
use mathlib.Core.Path.{◌≡◌, refl, ap}
use mathlib.Core.List.{List}
use lib.IntN.{ℤ}
use Rattle.refusal.specs.Numbers.{Numbers}
use Rattle.refusal.proofs.Numbers.{one_by, refused_or, found_or, refusal_back, value, count}
use Rattle.std.specs.Prelude.{Option, Some, None, Result, Ok, Err}
use Rattle.refusal.specs.Refusal.{Refusal}
use Rattle.header.specs.declared.Header.{Header}
use Rattle.serializer.proofs.Numbers.{smi_of}
use Rattle.header.specs.Numbers.{header_numbers, smi_slot_numbers, num_field_numbers}

abbrev header_back : List ℤ → Result Header Refusal
header_back vs = Ok (record {
  length = count 0 vs;
  parameter_count = value 1 vs;
  register_count = count 2 vs;
  frame_size = count 3 vs;
  osr = count 4 vs;
  age = count 5 vs;
  code_at = count 6 vs;
  code_len = count 7 vs;
})

abbrev header_read : Numbers → Result Header Refusal
header_read = refused_or Err header_back

header_back_lem : (a : Result Header Refusal) → header_read (header_numbers a) ≡ a
header_back_lem (Ok h) = refl
header_back_lem (Err r) = ap (λ (x : Refusal). Err x) (refusal_back r)

pub header_numbers_one : (a b : Result Header Refusal) → header_numbers a ≡ header_numbers b → a ≡ b
header_numbers_one = one_by header_numbers header_read header_back_lem

abbrev smi_read : Numbers → Result (Option ℤ) Refusal
smi_read = refused_or Err (λ vs. Ok (smi_of vs))

smi_back : (a : Result (Option ℤ) Refusal) → smi_read (smi_slot_numbers a) ≡ a
smi_back (Ok (Some v)) = refl
smi_back (Ok None) = refl
smi_back (Err r) = ap (λ (x : Refusal). Err x) (refusal_back r)

pub smi_slot_numbers_one : (a b : Result (Option ℤ) Refusal) → smi_slot_numbers a ≡ smi_slot_numbers b → a ≡ b
smi_slot_numbers_one = one_by smi_slot_numbers smi_read smi_back

abbrev num_read : Numbers → Result (Option ℕ) Refusal
num_read = refused_or Err (λ vs. Ok (found_or None (λ ws. Some (count 0 ws)) vs))

num_back : (a : Result (Option ℕ) Refusal) → num_read (num_field_numbers a) ≡ a
num_back (Ok (Some n)) = refl
num_back (Ok None) = refl
num_back (Err r) = ap (λ (x : Refusal). Err x) (refusal_back r)

pub num_field_numbers_one : (a b : Result (Option ℕ) Refusal) → num_field_numbers a ≡ num_field_numbers b → a ≡ b
num_field_numbers_one = one_by num_field_numbers num_read num_back
