-- A level gone through, entry by entry: the lowest that exits, and the successors that are pushed. Assumes nothing.
use mathlib.Core.Path.{◌≡◌, refl, sym, ap, ◌∙◌, subst}
use mathlib.Core.Bool.{Bool, true, false, cond}
use mathlib.Core.List.{List}
use mathlib.Core.Logic.{inl, inr, ⊎_elim}
use Rattle.std.specs.Prelude.{Option, None, Some}
use Prim.Native.Nat.{ℕ, ◌+◌, ◌≤◌, ◌<◌}
use native.Mathlib.Nat.{le_refl}
use native.Mathlib.Omega.{arith}
use lib.Dec.{leb}
use lib.ListN.{get_or}
use borrow.Author.Tests.{leb-true, leb-false}
use Rattle.laws.proofs.Tests.{clash, under?}
use Rattle.graph.specs.Graph.{Graph, Succ, exits}
use Rattle.graph.specs.mirror.Queue.{Grown, SuccIn, LowestAt, Lowest, lower_of}
use Rattle.graph.proofs.Queues.{grown_join}

module _ (g : Graph) (q : List ℕ) (lo i : ℕ) where
  -- what holds of the entries before i, and at i, holds of those before i + 1
  entries_more : (P : ℕ → Type 0) → ((j : ℕ) → lo ≤ j → j < i → P j) → P i → (j : ℕ) → lo ≤ j → j < i + 1 → P j
  entries_more P all here j l u = ⊎_elim (λ h. all j l h) (λ h. let e : i ≡ j = omega arith in subst P e here) (under? j i)

  -- what was lowest before i still is, unless the entry at i exits and is lower
  keep : {p : ℕ} → LowestAt g q lo i p → (exits g (get_or q i 0) ≡ true → p ≤ get_or q i 0) → LowestAt g q lo (i + 1) p
  keep {p} w h = record {
    at = w.at;
    from = w.from;
    below = omega (arith, w.below);
    is = w.is;
    exit = w.exit;
    least = entries_more (λ j. exits g (get_or q j 0) ≡ true → p ≤ get_or q j 0) w.least h;
  }

  lowest_skip : (f : Option ℕ) → Lowest g q lo i f → exits g (get_or q i 0) ≡ false → Lowest g q lo (i + 1) f
  lowest_skip (Some o) w quiet = keep w (λ x. clash x quiet)
  lowest_skip None w quiet = entries_more (λ j. exits g (get_or q j 0) ≡ false) w quiet

  module _ (from : lo ≤ i) (x : exits g (get_or q i 0) ≡ true) where
    take : ((j : ℕ) → lo ≤ j → j < i → exits g (get_or q j 0) ≡ true → get_or q i 0 ≤ get_or q j 0) → LowestAt g q lo (i + 1) (get_or q i 0)
    take h = record {
      at = i;
      from = from;
      below = omega arith;
      is = refl;
      exit = x;
      least = entries_more (λ j. exits g (get_or q j 0) ≡ true → get_or q i 0 ≤ get_or q j 0) h (λ _. le_refl _);
    }

    picked : (p : ℕ) (b : Bool) → leb p (get_or q i 0) ≡ b → LowestAt g q lo i p → Lowest g q lo (i + 1) (cond b (Some p) (Some (get_or q i 0)))
    picked p true e w = keep w (λ _. leb-true _ _ e)
    picked p false e w = take (λ j l u y. omega (arith, w.least j l u y, leb-false p (get_or q i 0) e))

    lowest_more : (f : Option ℕ) → Lowest g q lo i f → Lowest g q lo (i + 1) (lower_of f (get_or q i 0))
    lowest_more (Some p) w = picked p (leb p (get_or q i 0)) refl w
    lowest_more None w = take (λ j l u y. clash y (w j l u))

  -- the same, as the code has it: o is the entry, and r what `lower` makes of f and o
  pub lowest_found : (f r : Option ℕ) (o : ℕ) → o ≡ get_or q i 0 → lo ≤ i → exits g o ≡ true → r ≡ lower_of f o → Lowest g q lo i f → Lowest g q lo (i + 1) r
  lowest_found f r o e l x s w = subst (λ (z : Option ℕ). Lowest g q lo (i + 1) z) (sym (s ∙ ap (lower_of f) e)) (lowest_more l (ap (exits g) (sym e) ∙ x) f w)

  pub lowest_passed : (f : Option ℕ) (o : ℕ) → o ≡ get_or q i 0 → exits g o ≡ false → Lowest g q lo i f → Lowest g q lo (i + 1) f
  lowest_passed f o e quiet w = lowest_skip f w (ap (exits g) (sym e) ∙ quiet)

  pub level_more : {q₁ q₂ M₁ M₂ : List ℕ} {k k₁ k₂ o : ℕ} → o ≡ get_or q₁ i 0 → lo ≤ i → i < k → Grown q k M₁ q₁ k₁ (SuccIn g q lo i) → Grown q₁ k₁ M₂ q₂ k₂ (Succ g o)
      → Grown q k M₂ q₂ k₂ (SuccIn g q lo (i + 1))
  level_more s l u a b = grown_join a b
      (λ p x. (x.0, x.1, omega arith, x.3))
      (λ p x. (i, l, omega arith, subst (λ (y : ℕ). Succ g y p) (s ∙ a.kept i u) x))
      (λ p x. ⊎_elim (λ h. inl (x.0, x.1, h, x.3)) (λ h. inr (let e : x.0 ≡ i = omega arith in subst (λ (y : ℕ). Succ g y p) (ap (λ (j : ℕ). get_or q j 0) e ∙ sym (s ∙ a.kept i u)) x.3)) (under? x.0 i))
