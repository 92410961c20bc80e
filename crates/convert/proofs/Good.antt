-- What a pair of files that passes its check is known to be, record by record, and what shows that it passes. Assumes nothing.
use Prim.Native.Nat.{ℕ, ◌-◌, ◌*◌, ◌/◌, ◌%◌, ◌<◌, ◌≤◌}
use mathlib.Core.Path.{◌≡◌, refl, ap}
use mathlib.Core.Bool.{Bool, true, false, cond, not, ◌&&◌}
use mathlib.Core.List.{List}
use mathlib.Core.Logic.{◌⊎◌, inl, inr}
use native.Mathlib.Omega.{arith}
use borrow.Author.Tests.{lt-ltb, le-ltb, eq-eqb, eqb-true, not-false}
use lib.Dec.{ltb, eqb}
use lib.ListN.{length, get_or}
use Rattle.laws.specs.Scan.{first_from}
use Rattle.laws.proofs.Scan.{first-within, first_holds, first_none, first_is}
use Rattle.laws.proofs.Tests.{and_left, and_right, and_both, under?}
use Rattle.refusal.specs.Refusal.{Refusal}
use Rattle.std.specs.Prelude.{Ok, Err, Option, Some, None, is_some}
use Rattle.refusal.specs.declared.Fault.{Fault}
use Rattle.refusal.specs.Check.{Check}
use Rattle.refusal.specs.declared.Fault.TheVariants as fault
use Rattle.refusal.specs.Check.{refusal_at, first_refusal, refuse_unless, first_bad}
use Rattle.refusal.proofs.Laws.{never, or_left, or_right, good_is}
use Rattle.tables.specs.Names.{name_ok, not_zero, bad_name}
use Rattle.tables.specs.Records.{opcode_name_size, most_opcodes, type_size, type_name_size, fixed_types, most_types, type_count, type_fault, zeros, size_as, fault_as}
use Rattle.tables.specs.Check.{whole_records, records, check_names, refused_for, is_faulty, first_fault, check_types, check_pair}
use Rattle.tables.specs.declared.Form.{Form}

-- ---- rows over n records
found_none : (p : ℕ → Bool) (n : ℕ) (r : Refusal) → ◌≡◌ {A = Check} (cond (ltb (first_from p 0 n) n) (Err r) (Ok tt)) (Ok tt) → (k : ℕ) → k < n → p k ≡ false
found_none p n r h k l = go (under? (first_from p 0 n) n)
  where
    go : (first_from p 0 n < n) ⊎ (n ≤ first_from p 0 n) → p k ≡ false
    go (inl m) = never r (rw (lt-ltb (first_from p 0 n) n m) at h)
    go (inr m) = first_none p 0 n (omega (arith, (first-within p 0 n).1)) k (omega arith) (omega arith)

none_found : (p : ℕ → Bool) (n : ℕ) → ((k : ℕ) → k < n → p k ≡ false) → ltb (first_from p 0 n) n ≡ false
none_found p n h = le-ltb (first_from p 0 n) n (omega (arith, first_is p 0 n n (omega arith) (omega arith) (λ j low l. h j l) (λ l. absurd (omega arith))))

-- none is bad, and none has a fault
pub none_bad : (fault : Fault) (bad : ℕ → Bool) (n : ℕ) → first_bad fault bad n ≡ Ok tt → (k : ℕ) → k < n → bad k ≡ false
none_bad fault bad n h = found_none bad n (refusal_at fault (first_from bad 0 n)) h

pub all_good : (fault : Fault) (bad : ℕ → Bool) (n : ℕ) → ((k : ℕ) → k < n → bad k ≡ false) → first_bad fault bad n ≡ Ok tt
all_good fault bad n h = rw (none_found bad n h)

faulty_refused : (o : Option Fault) (k : ℕ) → is_some o ≡ true → refused_for o k ≡ Ok tt → ⊥
faulty_refused None k e h = cc
faulty_refused (Some f) k e h = never (refusal_at f k) h

none_is : (o : Option Fault) → is_some o ≡ false → o ≡ None
none_is None e = refl
none_is (Some f) e = cc

no_fault : (wrong : ℕ → Option Fault) (n : ℕ) → first_fault wrong n ≡ Ok tt → (k : ℕ) → k < n → wrong k ≡ None
no_fault wrong n h k l = none_is (wrong k) (go (under? j n))
  where
    j : ℕ
    j = first_from (is_faulty wrong) 0 n

    go : (j < n) ⊎ (n ≤ j) → is_faulty wrong k ≡ false
    go (inl m) = absurd (faulty_refused (wrong j) j (first_holds (is_faulty wrong) 0 n (omega arith)) (rw (lt-ltb j n m) at h))
    go (inr m) = first_none (is_faulty wrong) 0 n (omega (arith, (first-within (is_faulty wrong) 0 n).1)) k (omega arith) (omega arith)

all_faultless : (wrong : ℕ → Option Fault) (n : ℕ) → ((k : ℕ) → k < n → wrong k ≡ None) → first_fault wrong n ≡ Ok tt
all_faultless wrong n h = rw (none_found (is_faulty wrong) n (λ k l. ap is_some (h k l)))

-- ---- the whole check
pub record Good (form : Form) (ops tys : List ℕ) : Type 0 where
  pub whole : records (size_as form) 1 most_opcodes ops ≡ true
  pub types_whole : records type_size fixed_types most_types tys ≡ true
  pub names : (k : ℕ) → k < length ops / size_as form → name_ok ops (k * size_as form) 40 ≡ true
  pub names_of_types : check_names type_size type_name_size tys ≡ Ok tt
  pub faults : (k : ℕ) → k < length ops / size_as form → fault_as form ops (type_count tys) k ≡ None
  pub types : check_types (type_fault tys) tys ≡ Ok tt

module _ (form : Form) (ops tys : List ℕ) where
  abbrev names_row : Check
  names_row = check_names (size_as form) opcode_name_size ops

  abbrev types_row : Check
  types_row = check_names type_size type_name_size tys

  abbrev faults_row : Check
  faults_row = first_fault (fault_as form ops (type_count tys)) (length ops / size_as form)

  abbrev last_row : Check
  last_row = check_types (type_fault tys) tys

  pub pair_good : check_pair form ops tys ≡ Ok tt → Good form ops tys
  unfolding check_pair
  pair_good ok =
      let size : Bool = records (size_as form) 1 most_opcodes ops in
      let sizes : (size && records type_size fixed_types most_types tys) ≡ true = good_is _ fault.TableSize (or_left _ (first_refusal names_row (first_refusal types_row (first_refusal faults_row last_row))) ok) in
      let rest : first_refusal names_row (first_refusal types_row (first_refusal faults_row last_row)) ≡ Ok tt = or_right (refuse_unless (size && records type_size fixed_types most_types tys) fault.TableSize) _ ok in
      let rest₂ : first_refusal types_row (first_refusal faults_row last_row) ≡ Ok tt = or_right names_row _ rest in
      let rest₃ : first_refusal faults_row last_row ≡ Ok tt = or_right types_row _ rest₂ in
      record {
        whole = and_left size _ sizes;
        types_whole = and_right size _ sizes;
        names = λ k l. not-false _ (none_bad fault.BadName (bad_name ops (size_as form) opcode_name_size) (length ops / size_as form) (or_left names_row _ rest) k l);
        names_of_types = or_left types_row _ rest₂;
        faults = no_fault (fault_as form ops (type_count tys)) (length ops / size_as form) (or_left faults_row last_row rest₃);
        types = or_right faults_row last_row rest₃;
      }

pub good_pair : (form : Form) (ops tys : List ℕ) → Good form ops tys → check_pair form ops tys ≡ Ok tt
unfolding check_pair
good_pair form ops tys g =
    rw (
      and_both g.whole g.types_whole,
      all_good fault.BadName (bad_name ops (size_as form) opcode_name_size) (length ops / size_as form) (λ k l. ap not (g.names k l)),
      g.names_of_types,
      all_faultless (fault_as form ops (type_count tys)) (length ops / size_as form) g.faults,
      g.types,
    )

-- ---- whole records
pub no_rest : (size least most bytes : ℕ) → whole_records size least most bytes ≡ true → bytes % size ≡ 0
unfolding whole_records
no_rest size least most bytes h = eqb-true _ _ (and_left _ _ h)

-- as many of another size
pub as_many : (size size' least most bytes bytes' : ℕ) → whole_records size least most bytes ≡ true → bytes' % size' ≡ 0 → bytes' / size' ≡ bytes / size → whole_records size' least most bytes' ≡ true
unfolding whole_records
as_many size size' least most bytes bytes' h r e = rw (eq-eqb (bytes' % size') 0 r, e) (and_right (eqb (bytes % size) 0) _ h)

-- ---- zeros
pub zeros_byte : (s : List ℕ) (from to : ℕ) → from ≤ to → zeros s from to ≡ true → (k : ℕ) → from ≤ k → k < to → get_or s k 0 ≡ 0
zeros_byte s from to order h k low high = eqb-true _ _ (not-false _ (first_none (not_zero s) from (to - from) (omega (arith, eqb-true (first_from (not_zero s) from (to - from)) to h)) k low (omega arith)))

pub byte_zeros : (s : List ℕ) (from to : ℕ) → from ≤ to → ((k : ℕ) → from ≤ k → k < to → get_or s k 0 ≡ 0) → zeros s from to ≡ true
byte_zeros s from to order h = eq-eqb _ _ (first_is (not_zero s) from (to - from) to order (omega arith) (λ j low l. ap not (eq-eqb _ _ (h j low l))) (λ l. absurd (omega arith)))
