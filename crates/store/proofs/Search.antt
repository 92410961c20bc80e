-- The first bad one of n records, as `find` over their numbers tells it. Assumes nothing.
use Prim.Native.Nat.{ℕ, ◌<◌, ◌≤◌}
use mathlib.Core.Path.{◌≡◌, sym, ◌∙◌}
use mathlib.Core.Bool.{Bool, true, false}
use native.Mathlib.Omega.{arith}
use Rattle.std.specs.Prelude.{Option, Some, None, MatchOption}
use Rattle.std.specs.Option.{unwrap_or}
use Rattle.laws.specs.Scan.{first_from}
use Rattle.laws.proofs.Scan.{first_is}

-- e is what is found, or n
pub first_or_all : (bad : ℕ → Bool) (n : ℕ) (r : Option ℕ) {e : ℕ} → e ≡ unwrap_or r n
    → MatchOption r ((k : ℕ) → 0 ≤ k → k < n → bad k ≡ false) (λ i. (0 ≤ i) × (i < n) × (bad i ≡ true) × ((k : ℕ) → 0 ≤ k → k < i → bad k ≡ false))
    → e ≡ first_from bad 0 n
first_or_all bad n (Some i) e h = e ∙ sym (first_is bad 0 n i (omega arith) (omega arith) h.3 (λ z. h.2))
first_or_all bad n None e h = e ∙ sym (first_is bad 0 n n (omega arith) (omega arith) h (λ z. absurd (omega arith)))
