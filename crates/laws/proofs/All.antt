-- Lists whose elements all pass a test. Assumes nothing.
use Prim.Native.Nat.{ℕ}
use mathlib.Core.Bool.{Bool}
use mathlib.Core.List.{List, [], ◌∷◌, ◌++◌}
use Rattle.laws.specs.All.{All}

pub all_append : (p : ℕ → Bool) (a b : List ℕ) → All p a → All p b → All p (a ++ b)
all_append p [] b h k = k
all_append p (x ∷ a) b h k = (h.0, all_append p a b h.1 k)
