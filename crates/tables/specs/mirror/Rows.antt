-- Names as a constant has them; `row_named` of proofs/Rows.antt says that a row is its name of the believed list.
use Rattle.std.specs.Prelude.{ℕ, zero, suc, List, [], ◌∷◌, ◌++◌}

-- a name, filled up with zeros to w bytes
unfoldable pub filled : ℕ → List ℕ → List ℕ
filled zero name = []
filled (suc w) [] = 0 ∷ filled w []
filled (suc w) (b ∷ name) = b ∷ filled w name

-- names, each filled up, one behind the other
unfoldable pub rows : ℕ → List (List ℕ) → List ℕ
rows w [] = []
rows w (name ∷ names) = filled w name ++ rows w names
