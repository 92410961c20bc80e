-- The order on lists of integers is total, antisymmetric and transitive, and calls only equal lists equal. Assumes nothing.
use Prim.Native.Nat.{ℕ, ◌<◌}
use mathlib.Core.Path.{◌≡◌, refl, sym, ap, ◌∙◌}
use mathlib.Core.Bool.{Bool, true, false, cond}
use mathlib.Core.List.{List, [], ◌∷◌, ◌++◌}
use native.Mathlib.Omega.{arith}
use borrow.Author.Tests.{lt-ltb, le-ltb, ltb-true, ltb-false}
use lib.Dec.{ltb}
use lib.IntN.{ℤ, pos, negsuc}
use lib.ListN.{length}
use Rattle.laws.specs.Order.{Order, flip, or_then, compare_ℕ, compare_ℤ, lex}
use Rattle.laws.specs.Order.Order.{less, equal, greater}

-- two orders are not one
pub less_equal : {A : Type 0} → less ≡ equal → A
less_equal h = let z : ◌≡◌ {A = ℕ} 0 1 = cc in absurd (omega arith)

pub greater_equal : {A : Type 0} → greater ≡ equal → A
greater_equal h = let z : ◌≡◌ {A = ℕ} 0 1 = cc in absurd (omega arith)

pub equal_less : {A : Type 0} → equal ≡ less → A
equal_less h = let z : ◌≡◌ {A = ℕ} 0 1 = cc in absurd (omega arith)

pub greater_less : {A : Type 0} → greater ≡ less → A
greater_less h = let z : ◌≡◌ {A = ℕ} 0 1 = cc in absurd (omega arith)

-- ---- numbers

-- what an answer says
abbrev Says : ℕ → ℕ → Order → Type 0
Says a b less = a < b
Says a b equal = a ≡ b
Says a b greater = b < a

says : (a b : ℕ) → Says a b (compare_ℕ a b)
unfolding compare_ℕ
says a b = go (ltb a b) (ltb b a) refl refl
  where
    go : (p q : Bool) → ltb a b ≡ p → ltb b a ≡ q → Says a b (cond p less (cond q greater equal))
    go true q e f = ltb-true a b e
    go false true e f = ltb-true b a f
    go false false e f = omega (arith, ltb-false a b e, ltb-false b a f)

is_less : (a b : ℕ) → a < b → compare_ℕ a b ≡ less
unfolding compare_ℕ
is_less a b h = rw (lt-ltb a b h)

is_equal : (a b : ℕ) → a ≡ b → compare_ℕ a b ≡ equal
unfolding compare_ℕ
is_equal a b h = rw (le-ltb a b (omega arith), le-ltb b a (omega arith))

is_greater : (a b : ℕ) → b < a → compare_ℕ a b ≡ greater
unfolding compare_ℕ
is_greater a b h = rw (le-ltb a b (omega arith), lt-ltb b a h)

flip_ℕ : (a b : ℕ) → compare_ℕ b a ≡ flip (compare_ℕ a b)
flip_ℕ a b = go (compare_ℕ a b) (says a b)
  where
    go : (o : Order) → Says a b o → compare_ℕ b a ≡ flip o
    go less h = is_greater b a h
    go equal h = is_equal b a (sym h)
    go greater h = is_less b a h

equal_ℕ : (a b : ℕ) → compare_ℕ a b ≡ equal → a ≡ b
equal_ℕ a b h = rw h at (says a b)

less_ℕ : (a b : ℕ) → compare_ℕ a b ≡ less → a < b
less_ℕ a b h = rw h at (says a b)

-- ---- integers

pub refl_ℤ : (a : ℤ) → compare_ℤ a a ≡ equal
unfolding compare_ℤ
refl_ℤ (pos a) = is_equal a a refl
refl_ℤ (negsuc a) = is_equal a a refl

pub flip_ℤ : (a b : ℤ) → compare_ℤ b a ≡ flip (compare_ℤ a b)
unfolding compare_ℤ
flip_ℤ (pos a) (pos b) = flip_ℕ a b
flip_ℤ (pos a) (negsuc b) = refl
flip_ℤ (negsuc a) (pos b) = refl
flip_ℤ (negsuc a) (negsuc b) = flip_ℕ b a

pub equal_ℤ : (a b : ℤ) → compare_ℤ a b ≡ equal → a ≡ b
unfolding compare_ℤ
equal_ℤ (pos a) (pos b) h = ap pos (equal_ℕ a b h)
equal_ℤ (pos a) (negsuc b) h = greater_equal h
equal_ℤ (negsuc a) (pos b) h = less_equal h
equal_ℤ (negsuc a) (negsuc b) h = ap negsuc (sym (equal_ℕ b a h))

pub trans_ℤ : (a b c : ℤ) → compare_ℤ a b ≡ less → compare_ℤ b c ≡ less → compare_ℤ a c ≡ less
unfolding compare_ℤ
trans_ℤ (pos a) (pos b) (pos c) h k = is_less a c (omega (arith, less_ℕ a b h, less_ℕ b c k))
trans_ℤ (pos a) (pos b) (negsuc c) h k = greater_less k
trans_ℤ (pos a) (negsuc b) c h k = greater_less h
trans_ℤ (negsuc a) (pos b) (pos c) h k = refl
trans_ℤ (negsuc a) (pos b) (negsuc c) h k = greater_less k
trans_ℤ (negsuc a) (negsuc b) (pos c) h k = refl
trans_ℤ (negsuc a) (negsuc b) (negsuc c) h k = is_less c a (omega (arith, less_ℕ b a h, less_ℕ c b k))

-- ---- lists

pub lex_refl : (a : List ℤ) → lex a a ≡ equal
unfolding lex
lex_refl [] = refl
lex_refl (x ∷ xs) = rw (refl_ℤ x) (lex_refl xs)

flip_then : (o p : Order) → or_then (flip o) (flip p) ≡ flip (or_then o p)
flip_then less p = refl
flip_then equal p = refl
flip_then greater p = refl

-- total and antisymmetric: the other way round is the other answer
pub lex-flip : (a b : List ℤ) → lex b a ≡ flip (lex a b)
unfolding lex
lex-flip [] [] = refl
lex-flip [] (y ∷ ys) = refl
lex-flip (x ∷ xs) [] = refl
lex-flip (x ∷ xs) (y ∷ ys) = rw (flip_ℤ x y, lex-flip xs ys) (flip_then (compare_ℤ x y) (lex xs ys))

-- equal are only equal lists
pub lex_equal : (a b : List ℤ) → lex a b ≡ equal → a ≡ b
unfolding lex
lex_equal [] [] h = refl
lex_equal [] (y ∷ ys) h = less_equal h
lex_equal (x ∷ xs) [] h = greater_equal h
lex_equal (x ∷ xs) (y ∷ ys) h = go (compare_ℤ x y) refl h (lex_equal xs ys)
  where
    go : (o : Order) → compare_ℤ x y ≡ o → or_then o (lex xs ys) ≡ equal → (lex xs ys ≡ equal → xs ≡ ys) → x ∷ xs ≡ y ∷ ys
    go less e f rest = less_equal f
    go equal e f rest = let p = equal_ℤ x y e in let q = rest f in cc
    go greater e f rest = greater_equal f

pub lex_trans : (a b c : List ℤ) → lex a b ≡ less → lex b c ≡ less → lex a c ≡ less
unfolding lex
lex_trans [] [] c h k = equal_less h
lex_trans [] (y ∷ ys) [] h k = greater_less k
lex_trans [] (y ∷ ys) (z ∷ zs) h k = refl
lex_trans (x ∷ xs) [] c h k = greater_less h
lex_trans (x ∷ xs) (y ∷ ys) [] h k = greater_less k
lex_trans (x ∷ xs) (y ∷ ys) (z ∷ zs) h k = go (compare_ℤ x y) (compare_ℤ y z) refl refl h k (lex_trans xs ys zs)
  where
    go : (o p : Order) → compare_ℤ x y ≡ o → compare_ℤ y z ≡ p → or_then o (lex xs ys) ≡ less → or_then p (lex ys zs) ≡ less
        → (lex xs ys ≡ less → lex ys zs ≡ less → lex xs zs ≡ less) → or_then (compare_ℤ x z) (lex xs zs) ≡ less
    go less less e f m n rest = rw (trans_ℤ x y z e f)
    go less equal e f m n rest = let q = equal_ℤ y z f in let g : compare_ℤ x z ≡ less = ap (compare_ℤ x) (sym q) ∙ e in rw g
    go less greater e f m n rest = greater_less n
    go equal less e f m n rest = let q = equal_ℤ x y e in let g : compare_ℤ x z ≡ less = ap (λ (v : ℤ). compare_ℤ v z) q ∙ f in rw g
    go equal equal e f m n rest = let q = equal_ℤ x y e in let g : compare_ℤ x z ≡ equal = ap (λ (v : ℤ). compare_ℤ v z) q ∙ f in rw g (rest m n)
    go equal greater e f m n rest = greater_less n
    go greater p e f m n rest = greater_less m

then_assoc : (o p q : Order) → or_then o (or_then p q) ≡ or_then (or_then o p) q
then_assoc less p q = refl
then_assoc equal p q = refl
then_assoc greater p q = refl

-- "instruction by instruction": where keys are of one length, the first two that differ decide
pub lex_blocks : (k m a b : List ℤ) → length k ≡ length m → lex (k ++ a) (m ++ b) ≡ or_then (lex k m) (lex a b)
unfolding lex
lex_blocks [] [] a b h = refl
lex_blocks [] (y ∷ m) a b h = absurd (omega arith)
lex_blocks (x ∷ k) [] a b h = absurd (omega arith)
lex_blocks (x ∷ k) (y ∷ m) a b h = ap (or_then (compare_ℤ x y)) (lex_blocks k m a b (omega arith)) ∙ then_assoc (compare_ℤ x y) (lex k m) (lex a b)
