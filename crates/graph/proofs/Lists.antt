-- Tests on the elements of a list: what passes is among them, the first that passes, and counting what passes. Assumes nothing.
use Prim.Native.Nat.{ℕ, suc, ◌≤◌, zero-le}
use mathlib.Core.Path.{◌≡◌, refl, sym, ap, ◌∙◌}
use mathlib.Core.Bool.{Bool, true, false, cond, ◌&&◌, ◌||◌}
use mathlib.Core.List.Memᴰ
use mathlib.Core.List.{List, [], ◌∷◌, Memᴰ as Among}
use mathlib.Core.Logic.{◌⊎◌, inl, inr, ⊎_elim}
use native.Mathlib.Omega.{arith}
use borrow.Author.Tests.{eqb-true, eq-eqb}
use lib.Dec.{eqb}
use lib.ListN.{length}
use Rattle.laws.proofs.Tests.{by_test, either, clash, or_either}
use Rattle.graph.specs.Lists.{any, keep, elem, first}
use Rattle.graph.specs.Graph.{Rising}

pub or_left : {a : Bool} (b : Bool) → a ≡ true → (a || b) ≡ true
or_left b h = rw h

pub or_right : (a : Bool) {b : Bool} → b ≡ true → (a || b) ≡ true
or_right true h = refl
or_right false h = h

-- ---- what passes, and where it stands
module _ {A : Type 0} (p : A → Bool) where
  pub any_among : (l : List A) → any p l ≡ true → (x : A) × Among x l × (p x ≡ true)
  any_among [] e = clash e refl
  any_among (x ∷ xs) e = go (p x) refl e (any_among xs)
    where
      go : (b : Bool) → p x ≡ b → (b || any p xs) ≡ true → (any p xs ≡ true → (y : A) × Among y xs × (p y ≡ true)) → (y : A) × Among y (x ∷ xs) × (p y ≡ true)
      go true h e rest = (x, Among.head refl, h)
      go false h e rest = let y = rest e in (y.0, Among.tail y.1, y.2)

  pub among_any : {x : A} {l : List A} → Among x l → p x ≡ true → any p l ≡ true
  among_any (Among.head {xs = xs} e) h = rw (sym (ap p e) ∙ h)
  among_any (Among.tail {x = y} i) h = or_right (p y) (among_any i h)

  -- what is among elements of which none passes does not
  pub none_among : {x : A} {l : List A} → any p l ≡ false → Among x l → p x ≡ false
  none_among {x} e i = ⊎_elim (λ h. clash (among_any i h) e) (λ h. h) (either (p x))

-- ---- numbers
pub elem_among : (t : ℕ) (l : List ℕ) → elem t l ≡ true → Among t l
elem_among t l e = let x = any_among (eqb t) l e in Memᴰ.cast (eqb-true t x.0 x.2) x.1

pub among_elem : {t : ℕ} {l : List ℕ} → Among t l → elem t l ≡ true
among_elem {t} i = among_any (eqb t) i (eq-eqb t t refl)

-- what passes, by elem
pub any-elem : (p : ℕ → Bool) (l : List ℕ) → any p l ≡ true → (t : ℕ) × (elem t l ≡ true) × (p t ≡ true)
any-elem p l e = let x = any_among p l e in (x.0, among_elem x.1, x.2)

pub elem-any : (p : ℕ → Bool) (t : ℕ) (l : List ℕ) → elem t l ≡ true → p t ≡ true → any p l ≡ true
elem-any p t l e h = among_any p (elem_among t l e) h

-- what is kept was there, and passes
pub elem-keep : (p : ℕ → Bool) (t : ℕ) (l : List ℕ) → elem t (keep p l) ≡ (elem t l && p t)
elem-keep p t [] = refl
elem-keep p t (x ∷ xs) = go (p x) (eqb t x) refl refl (elem-keep p t xs)
  where
    drop_it : (b : Bool) → p t ≡ false → (b && p t) ≡ false
    drop_it true h = h
    drop_it false h = refl

    go : (b c : Bool) → p x ≡ b → eqb t x ≡ c → elem t (keep p xs) ≡ (elem t xs && p t) → elem t (cond b (x ∷ keep p xs) (keep p xs)) ≡ ((c || elem t xs) && p t)
    go true true h e r = rw (e, ap p (eqb-true t x e), h)
    go true false h e r = rw e r
    go false true h e r = let f : p t ≡ false = ap p (eqb-true t x e) ∙ h in r ∙ drop_it (elem t xs) f ∙ sym f
    go false false h e r = r

-- ---- the first that passes
pub first_passes : (p : ℕ → Bool) (l : List ℕ) → any p l ≡ true → (elem (first p l) l ≡ true) × (p (first p l) ≡ true)
first_passes p [] e = clash e refl
first_passes p (x ∷ xs) e = go (p x) refl e (first_passes p xs)
  where
    go : (b : Bool) → p x ≡ b → (b || any p xs) ≡ true → (any p xs ≡ true → (elem (first p xs) xs ≡ true) × (p (first p xs) ≡ true))
        → (elem (cond b x (first p xs)) (x ∷ xs) ≡ true) × (p (cond b x (first p xs)) ≡ true)
    go true h e rest = (rw (eq-eqb x x refl), h)
    go false h e rest = let r = rest e in (or_right (eqb (first p xs) x) r.0, r.1)

rising_above : (a y : ℕ) (l : List ℕ) → Rising a l → elem y l ≡ true → a ≤ y
rising_above a y [] r e = clash e refl
rising_above a y (x ∷ xs) r e = ⊎_elim (λ h. omega (arith, eqb-true y x h, r.0)) (λ h. omega (arith, rising_above (suc x) y xs r.1 h, r.0)) (or_either (eqb y x) (elem y xs) e)

-- of rising numbers the first that passes is the lowest
pub first_lowest : (p : ℕ → Bool) (a y : ℕ) (l : List ℕ) → Rising a l → elem y l ≡ true → p y ≡ true → first p l ≤ y
first_lowest p a y [] r e h = clash e refl
first_lowest p a y (x ∷ xs) r e h = go (p x) refl (or_either (eqb y x) (elem y xs) e) (λ i. first_lowest p (suc x) y xs r.1 i h)
  where
    go : (b : Bool) → p x ≡ b → (eqb y x ≡ true) ⊎ (elem y xs ≡ true) → (elem y xs ≡ true → first p xs ≤ y) → cond b x (first p xs) ≤ y
    go true f (inl i) rest = omega (arith, eqb-true y x i)
    go true f (inr i) rest = omega (arith, rising_above (suc x) y xs r.1 i)
    go false f (inl i) rest = clash h (ap p (eqb-true y x i) ∙ f)
    go false f (inr i) rest = rest i

rising_from : (a b : ℕ) (l : List ℕ) → a ≤ b → Rising b l → Rising a l
rising_from a b [] h r = tt
rising_from a b (x ∷ xs) h r = (omega (arith, r.0), r.1)

pub rising_keep : (p : ℕ → Bool) (a : ℕ) (l : List ℕ) → Rising a l → Rising a (keep p l)
rising_keep p a [] r = tt
rising_keep p a (x ∷ xs) r =
    let rest = rising_keep p (suc x) xs r.1 in
    by_test (Rising a) (p x) (λ _. (r.0, rest)) (λ _. rising_from a (suc x) (keep p xs) (omega (arith, r.0)) rest)

-- ---- counting
pub keep-length : (p : ℕ → Bool) (l : List ℕ) → length (keep p l) ≤ length l
keep-length p [] = zero-le
keep-length p (x ∷ xs) = let r = keep-length p xs in by_test (λ (k : List ℕ). length k ≤ suc (length xs)) (p x) (λ _. omega arith) (λ _. omega arith)

-- where all that passes p passes q, and no more pass q than p, what passes q passes p
module _ (p q : ℕ → Bool) (imp : (t : ℕ) → p t ≡ true → q t ≡ true) where
  keep_more : (l : List ℕ) → length (keep p l) ≤ length (keep q l)
  keep_more [] = zero-le
  keep_more (x ∷ xs) = go (p x) (q x) refl refl (keep_more xs)
    where
      go : (b c : Bool) → p x ≡ b → q x ≡ c → length (keep p xs) ≤ length (keep q xs) → length (cond b (x ∷ keep p xs) (keep p xs)) ≤ length (cond c (x ∷ keep q xs) (keep q xs))
      go true true h i r = omega arith
      go true false h i r = clash (imp x h) i
      go false true h i r = omega arith
      go false false h i r = r

  pub keep_same : (l : List ℕ) → length (keep q l) ≤ length (keep p l) → (t : ℕ) → elem t l ≡ true → q t ≡ true → p t ≡ true
  keep_same [] le t e h = clash e refl
  keep_same (x ∷ xs) le t e h = go (p x) (q x) refl refl le (λ s. keep_same xs s t)
    where
      go : (b c : Bool) → p x ≡ b → q x ≡ c → length (cond c (x ∷ keep q xs) (keep q xs)) ≤ length (cond b (x ∷ keep p xs) (keep p xs))
          → (length (keep q xs) ≤ length (keep p xs) → elem t xs ≡ true → q t ≡ true → p t ≡ true) → p t ≡ true
      go true true f i s rest = ⊎_elim (λ z. ap p (eqb-true t x z) ∙ f) (λ z. rest (omega arith) z h) (or_either (eqb t x) (elem t xs) e)
      go true false f i s rest = clash (imp x f) i
      go false true f i s rest = let z : ⊥ = omega (arith, keep_more xs) in absurd z
      go false false f i s rest = ⊎_elim (λ z. clash h (ap q (eqb-true t x z) ∙ i)) (λ z. rest s z h) (or_either (eqb t x) (elem t xs) e)
