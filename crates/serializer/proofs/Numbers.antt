-- The answers' numbers say all of them: each answer is read back from its numbers. Assumes nothing.
use Prim.Native.Nat.{ℕ, zero, suc}
use mathlib.Core.Path.{◌≡◌, refl, ap}
use mathlib.Core.List.{List}
use lib.IntN.{ℤ}
use Rattle.refusal.specs.Numbers.{Numbers}
use Rattle.refusal.proofs.Numbers.{one_by, refused_or, found_or, refusal_back, value, count}
use Rattle.store.proofs.Numbers.{value_by, value_back}
use Rattle.serializer.specs.Numbers.{smi_numbers, slot_numbers, raw_numbers, len_numbers, elem_numbers, off_numbers}
use Rattle.std.specs.Prelude.{Option, Some, None, Result, Ok, Err}
use Rattle.refusal.specs.Refusal.{Refusal}
use Rattle.store.specs.declared.SlotValue.{SlotValue}
use Rattle.serializer.specs.declared.Elem.{Elem}
use Rattle.serializer.specs.declared.Elem.TheVariants as elem

-- ---- small integers

abbrev pub smi_of : List ℤ → Option ℤ
smi_of = found_or None (λ vs. Some (value 0 vs))

pub smi_back : (a : Option ℤ) → smi_of (smi_numbers a).values ≡ a
smi_back (Some v) = refl
smi_back None = refl

pub smi_numbers_one : (a b : Option ℤ) → smi_numbers a ≡ smi_numbers b → a ≡ b
smi_numbers_one = one_by smi_numbers (λ n. smi_of n.values) smi_back

-- ---- slots

abbrev slot_read : Numbers → Result (Option SlotValue) Refusal
slot_read = refused_or Err (found_or (Ok None) (λ vs. Ok (Some (value_by vs))))

slot_back : (a : Result (Option SlotValue) Refusal) → slot_read (slot_numbers a) ≡ a
slot_back (Ok (Some v)) = ap (λ (x : SlotValue). Ok (Some x)) (value_back v)
slot_back (Ok None) = refl
slot_back (Err r) = ap (λ (x : Refusal). Err x) (refusal_back r)

pub slot_numbers_one : (a b : Result (Option SlotValue) Refusal) → slot_numbers a ≡ slot_numbers b → a ≡ b
slot_numbers_one = one_by slot_numbers slot_read slot_back

-- ---- fields

abbrev raw_read : Numbers → Result (Option ℕ) Refusal
raw_read = refused_or Err (found_or (Ok None) (λ vs. Ok (Some (count 0 vs))))

raw_back : (a : Result (Option ℕ) Refusal) → raw_read (raw_numbers a) ≡ a
raw_back (Ok (Some n)) = refl
raw_back (Ok None) = refl
raw_back (Err r) = ap (λ (x : Refusal). Err x) (refusal_back r)

pub raw_numbers_one : (a b : Result (Option ℕ) Refusal) → raw_numbers a ≡ raw_numbers b → a ≡ b
raw_numbers_one = one_by raw_numbers raw_read raw_back

-- ---- lengths and offsets

abbrev len_read : Numbers → Result ℕ Refusal
len_read = refused_or Err (λ vs. Ok (count 0 vs))

len_back : (a : Result ℕ Refusal) → len_read (len_numbers a) ≡ a
len_back (Ok n) = refl
len_back (Err r) = ap (λ (x : Refusal). Err x) (refusal_back r)

pub len_numbers_one : (a b : Result ℕ Refusal) → len_numbers a ≡ len_numbers b → a ≡ b
len_numbers_one = one_by len_numbers len_read len_back

pub off_numbers_one : (a b : Result ℕ Refusal) → off_numbers a ≡ off_numbers b → a ≡ b
off_numbers_one = len_numbers_one

-- ---- elements

abbrev elem_of_kind : ℕ → List ℤ → Option Elem
elem_of_kind zero vs = Some (elem.Object (count 1 vs))
elem_of_kind (suc zero) vs = Some elem.Root
elem_of_kind (suc (suc zero)) vs = Some elem.OtherRef
elem_of_kind (suc (suc (suc zero))) vs = Some (elem.Smi (value 1 vs))
elem_of_kind (suc (suc (suc (suc k)))) vs = Some (elem.Bytes (record { at = count 1 vs; len = count 2 vs }))

abbrev elem_read : Numbers → Result (Option Elem) Refusal
elem_read = refused_or Err (λ vs. Ok (found_or None (λ ws. elem_of_kind (count 0 ws) ws) vs))

elem_back : (a : Result (Option Elem) Refusal) → elem_read (elem_numbers a) ≡ a
elem_back (Ok (Some (elem.Object n))) = refl
elem_back (Ok (Some elem.Root)) = refl
elem_back (Ok (Some elem.OtherRef)) = refl
elem_back (Ok (Some (elem.Smi v))) = refl
elem_back (Ok (Some (elem.Bytes b))) = refl
elem_back (Ok None) = refl
elem_back (Err r) = ap (λ (x : Refusal). Err x) (refusal_back r)

pub elem_numbers_one : (a b : Result (Option Elem) Refusal) → elem_numbers a ≡ elem_numbers b → a ≡ b
elem_numbers_one = one_by elem_numbers elem_read elem_back
