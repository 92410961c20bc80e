-- A map of the numbers below n into themselves that sends no two to one has every number below n as a value. Assumes nothing.
use Prim.Native.Nat.{ℕ, zero, suc, ◌-◌, ◌<◌, ◌≤◌}
use mathlib.Core.Path.{◌≡◌, refl}
use mathlib.Core.Bool.{Bool, cond}
use mathlib.Core.Logic.{◌⊎◌, inl, inr, ⊎_elim}
use native.Mathlib.Omega.{arith}
use borrow.Author.Tests.{eqb-true, eqb-false, lt-ltb, le-ltb}
use lib.Dec.{eqb, ltb}
use Rattle.laws.specs.Scan.{first_from}
use Rattle.laws.proofs.Scan.{first-within, first_holds, first_none}
use Rattle.laws.proofs.Tests.{under?}

-- values above v, one lower
lower : ℕ → ℕ → ℕ
lower v x = cond (ltb v x) (x - 1) x

lower_is : (v x : ℕ) → ((v < x) × (lower v x ≡ x - 1)) ⊎ ((x ≤ v) × (lower v x ≡ x))
unfolding lower
lower_is v x = ⊎_elim (λ (h : v < x). inl (h, rw (lt-ltb v x h))) (λ (h : x ≤ v). inr (h, rw (le-ltb v x h))) (under? v x)

-- but for v, numbers to n stay apart, and below n
lower_under : (v x n : ℕ) → (x ≡ v → ⊥) → v < suc n → x < suc n → lower v x < n
lower_under v x n a l m = ⊎_elim (λ (h : (v < x) × (lower v x ≡ x - 1)). omega (arith, h.0, h.1)) (λ (h : (x ≤ v) × (lower v x ≡ x)). omega (arith, h.0, h.1)) (lower_is v x)

lower_one : (v x y : ℕ) → (x ≡ v → ⊥) → (y ≡ v → ⊥) → lower v x ≡ lower v y → x ≡ y
lower_one v x y a b e = go (lower_is v x) (lower_is v y)
  where
    go : ((v < x) × (lower v x ≡ x - 1)) ⊎ ((x ≤ v) × (lower v x ≡ x)) → ((v < y) × (lower v y ≡ y - 1)) ⊎ ((y ≤ v) × (lower v y ≡ y)) → x ≡ y
    go (inl h) (inl k) = omega (arith, h.0, h.1, k.0, k.1)
    go (inl h) (inr k) = omega (arith, h.0, h.1, k.0, k.1)
    go (inr h) (inl k) = omega (arith, h.0, h.1, k.0, k.1)
    go (inr h) (inr k) = omega (arith, h.1, k.1)

-- no injection of n + 1 numbers into n: the last one's value is taken out
pub too_many : (n : ℕ) (f : ℕ → ℕ) → ((i : ℕ) → i < suc n → f i < n) → ((i j : ℕ) → i < suc n → j < suc n → f i ≡ f j → i ≡ j) → ⊥
too_many zero f into one = omega (arith, into 0 (omega arith))
too_many (suc n) f into one =
    too_many n (λ i. lower v (f i)) (λ i l. lower_under v (f i) n (other i l) (into (suc n) (omega arith)) (into i (omega arith))) (λ i j l m e. one i j (omega arith) (omega arith) (lower_one v (f i) (f j) (other i l) (other j m) e))
  where
    v : ℕ
    v = f (suc n)

    other : (i : ℕ) → i < suc n → f i ≡ v → ⊥
    other i l e = let z : i ≡ suc n = one i (suc n) (omega arith) (omega arith) e in omega arith

-- each value is met
pub onto : (n : ℕ) (f : ℕ → ℕ) → ((i : ℕ) → i < n → f i < n) → ((i j : ℕ) → i < n → j < n → f i ≡ f j → i ≡ j) → (v : ℕ) → v < n → (i : ℕ) × (i < n) × (f i ≡ v)
onto n f into one v l = go (under? at n)
  where
    is : ℕ → Bool
    is i = eqb (f i) v

    at : ℕ
    at = first_from is 0 n

    missed : n ≤ at → (i : ℕ) → i < n → f i ≡ v → ⊥
    missed h i m e = eqb-false (f i) v (first_none is 0 n (omega (arith, (first-within is 0 n).1)) i (omega arith) (omega arith)) e

    -- else n values would lie among the n - 1 that are not v
    none : n ≤ at → (m : ℕ) → n ≡ m → ⊥
    none h zero e = omega arith
    none h (suc m) e = too_many m (λ i. lower v (f i)) (λ i k. lower_under v (f i) m (missed h i (omega arith)) (omega arith) (omega (arith, into i (omega arith)))) (λ i j k p q. one i j (omega arith) (omega arith) (lower_one v (f i) (f j) (missed h i (omega arith)) (missed h j (omega arith)) q))

    go : (at < n) ⊎ (n ≤ at) → (i : ℕ) × (i < n) × (f i ≡ v)
    go (inl h) = (at, h, eqb-true (f at) v (first_holds is 0 n (omega arith)))
    go (inr h) = absurd (none h n refl)
