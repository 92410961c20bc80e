-- The numbers of an answer say all of it: it is read back from them. Assumes nothing.
use Prim.Native.Nat.{ℕ}
use mathlib.Core.Path.{◌≡◌, refl, ap}
use mathlib.Core.List.{List}
use Rattle.refusal.specs.Numbers.{Numbers}
use Rattle.refusal.proofs.Numbers.{one_by, refused_or, refusal_back, count}
use Rattle.std.specs.Prelude.{Result, Ok, Err}
use Rattle.refusal.specs.Refusal.{Refusal}
use Rattle.text.specs.Numbers.{written_numbers, WrittenAs}
use Rattle.text.specs.mirror.Written.{WrittenBy}

abbrev written_read : Numbers → Result ℕ Refusal
written_read = refused_or Err (λ vs. Ok (count 0 vs))

written_back : (a : Result ℕ Refusal) → written_read (written_numbers a) ≡ a
written_back (Ok n) = refl
written_back (Err r) = ap (λ (x : Refusal). Err x) (refusal_back r)

pub written_numbers_one : (a b : Result ℕ Refusal) → written_numbers a ≡ written_numbers b → a ≡ b
written_numbers_one = one_by written_numbers written_read written_back

-- the promise in 01's numbers, from that of a part, and back
pub written_as : {a : Result ℕ Refusal × List ℕ} {r : Result ℕ Refusal} {o' : List ℕ} → WrittenBy a r o' → WrittenAs a r o'
written_as w = (ap written_numbers w.0, w.1)

pub written_by : {a : Result ℕ Refusal × List ℕ} {r : Result ℕ Refusal} {o' : List ℕ} → WrittenAs a r o' → WrittenBy a r o'
written_by {a} {r} w = (written_numbers_one r a.0 w.0, w.1)
