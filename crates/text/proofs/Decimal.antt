-- Decimal numbers are digits only, and two numbers below 10 ^ 20 have not the same. Assumes nothing.
use Prim.Native.Nat.{ℕ, zero, suc, ◌+◌, ◌-◌, ◌*◌, ◌/◌, ◌%◌, ◌^◌, ◌<◌}
use mathlib.Core.Path.{◌≡◌, refl, sym, ap, ◌∙◌}
use mathlib.Core.Bool.{Bool, true, false, cond}
use mathlib.Core.List.{List, [], ◌∷◌, ◌++◌}
use native.Mathlib.Omega.{arith}
use native.Mathlib.Nat.{pow-suc}
use borrow.Author.Tests.{le-leb, ltb-true}
use lib.Dec.{ltb}
use Rattle.laws.specs.Scan.{within}
use Rattle.laws.specs.All.{All}
use Rattle.laws.proofs.Scan.{within_from}
use Rattle.laws.proofs.All.{all_append}
use Rattle.text.specs.Texts.{last_digits, decimal}

abbrev pub digit : ℕ → Bool
digit b = within 48 57 b

is_digit : (d : ℕ) → d < 10 → digit (48 + d) ≡ true
is_digit d h = within_from 48 57 (48 + d) (omega arith) ∙ le-leb (48 + d) 57 (omega arith)

digits_only : (k n : ℕ) → All digit (last_digits k n)
unfolding last_digits
digits_only zero n = tt
digits_only (suc k) n = go (ltb n 10) refl (digits_only k (n / 10))
  where
    go : (t : Bool) → ltb n 10 ≡ t → All digit (last_digits k (n / 10)) → All digit (cond t ((48 + n) ∷ []) (last_digits k (n / 10) ++ ((48 + n % 10) ∷ [])))
    go true e rest = (is_digit n (ltb-true n 10 e), tt)
    go false e rest = all_append digit (last_digits k (n / 10)) ((48 + n % 10) ∷ []) rest (is_digit (n % 10) (omega arith), tt)

pub decimal_digits : (n : ℕ) → All digit (decimal n)
unfolding decimal
decimal_digits n = digits_only 20 n

-- the number that digits say, behind a number a
value : ℕ → List ℕ → ℕ
value a [] = a
value a (d ∷ ds) = value (a * 10 + (d - 48)) ds

value-last : (a : ℕ) (ds : List ℕ) (d : ℕ) → value a (ds ++ (d ∷ [])) ≡ value a ds * 10 + (d - 48)
unfolding value
value-last a [] d = refl
value-last a (x ∷ ds) d = value-last (a * 10 + (x - 48)) ds d

value_digits : (k n : ℕ) → n < 10 ^ k → value 0 (last_digits k n) ≡ n
unfolding value last_digits
value_digits zero n h = omega arith
value_digits (suc k) n h = go (ltb n 10) refl (value_digits k (n / 10))
  where
    small : n / 10 < 10 ^ k
    small = omega (arith, pow-suc 10 k)

    go : (t : Bool) → ltb n 10 ≡ t → (n / 10 < 10 ^ k → value 0 (last_digits k (n / 10)) ≡ n / 10)
        → value 0 (cond t ((48 + n) ∷ []) (last_digits k (n / 10) ++ ((48 + n % 10) ∷ []))) ≡ n
    go true e rest = omega arith
    go false e rest = value-last 0 (last_digits k (n / 10)) (48 + n % 10) ∙ omega (arith, rest small)

pub decimal_one : (m n : ℕ) → m < 10 ^ 20 → n < 10 ^ 20 → decimal m ≡ decimal n → m ≡ n
unfolding decimal
decimal_one m n p q h = sym (value_digits 20 m p) ∙ ap (value 0) h ∙ value_digits 20 n q
