-- The computed marks say what is reached. Assumes nothing.
use Prim.Native.Nat.{ℕ, zero, suc, ◌+◌, ◌<◌}
use mathlib.Core.Path.{◌≡◌, refl, sym, ap, ◌∙◌}
use mathlib.Core.Bool.{Bool, true, cond}
use mathlib.Core.List.{List}
use mathlib.Core.Logic.{◌↔◌}
use native.Mathlib.Omega.{arith}
use lib.ListN.{length, get_or}
use lib.Seq.{ext_get_or}
use Rattle.graph.specs.Graph.{Graph, Reach, Finding, Marked, marked, bits}
use Rattle.graph.specs.Graph.Finding.{closed, leaves}
use Rattle.graph.proofs.Levels.{reached_sound, reached_complete}
use Rattle.graph.proofs.Bound.{bounded}

module _ (g : Graph) (p : ℕ) where
  pub marked_closed : (marked g closed p ≡ true) ↔ ((m : ℕ) × Reach g m p)
  unfolding marked
  marked_closed = (λ e. let x = reached_sound g _ p e in (x.0, x.2), λ x. let y = bounded x.1 in reached_complete _ y.1 y.2)

  pub marked_leaves : (n o : ℕ) → (marked g (leaves n o) p ≡ true) ↔ ((m : ℕ) × (m < n) × Reach g m p)
  unfolding marked
  marked_leaves n o = (λ e. reached_sound g n p e, λ x. reached_complete n x.1 x.2)

  pub marked_is : (f : Finding) → (marked g f p ≡ true) ↔ Marked g f p
  marked_is closed = marked_closed
  marked_is (leaves n o) = marked_leaves n o

-- ---- bits, of marks or of starts
pub bits-length : (p : ℕ → Bool) (i n : ℕ) → length (bits p i n) ≡ n
unfolding bits
bits-length p i zero = refl
bits-length p i (suc n) = ap suc (bits-length p (suc i) n)

bits_from : (p : ℕ → Bool) (i n k : ℕ) → k < n → get_or (bits p i n) k 0 ≡ cond (p (i + k)) 1 0
unfolding bits
bits_from p i zero k h = let z : ⊥ = omega arith in absurd z
bits_from p i (suc n) zero h = ap (λ (j : ℕ). cond (p j) 1 0) (omega arith)
bits_from p i (suc n) (suc k) h = bits_from p (suc i) n k (omega arith) ∙ ap (λ (j : ℕ). cond (p j) 1 0) (omega arith)

pub bits_at : (p : ℕ → Bool) (n k : ℕ) → k < n → get_or (bits p 0 n) k 0 ≡ cond (p k) 1 0
bits_at p n k h = bits_from p 0 n k h ∙ ap (λ (j : ℕ). cond (p j) 1 0) (omega arith)

-- a list with the bits of p at its n places
pub bits_are : (p : ℕ → Bool) (n : ℕ) (M : List ℕ) → length M ≡ n → ((k : ℕ) → k < n → get_or M k 0 ≡ cond (p k) 1 0) → M ≡ bits p 0 n
bits_are p n M len all = ext_get_or 0 M (bits p 0 n) (len ∙ sym (bits-length p 0 n)) (λ k h. all k (omega arith) ∙ sym (bits_at p n k (omega arith)))
