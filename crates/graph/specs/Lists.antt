-- Tests on the elements of a list.
use Rattle.std.specs.Prelude.{ℕ, Bool, false, cond, ◌||◌, List, [], ◌∷◌, eqb}

module _ {A : Type 0} where
  -- whether some element passes
  abbrev pub any : (A → Bool) → List A → Bool
  any p [] = false
  any p (x ∷ xs) = p x || any p xs

  -- the elements that pass, in their order
  abbrev pub keep : (A → Bool) → List A → List A
  keep p [] = []
  keep p (x ∷ xs) = cond (p x) (x ∷ keep p xs) (keep p xs)

-- whether t is in the list
abbrev pub elem : ℕ → List ℕ → Bool
elem t l = any (eqb t) l

-- the first number that passes; 0 if none does
abbrev pub first : (ℕ → Bool) → List ℕ → ℕ
first p [] = 0
first p (x ∷ xs) = cond (p x) x (first p xs)
