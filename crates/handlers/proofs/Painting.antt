-- A record's number said of the places that it holds: filling, by blocks and place by place, and record over record. Assumes nothing.
use Prim.Native.Nat.{ℕ, zero, suc, ◌+◌, ◌*◌, ◌/◌, ◌≤◌, ◌<◌, max}
use mathlib.Core.Path.{◌≡◌, refl, ap, ◌∙◌}
use mathlib.Core.Bool.{cond}
use mathlib.Core.List.{List}
use mathlib.Core.Logic.{inl, inr, ⊎_elim}
use native.Mathlib.Omega.{arith}
use lib.ListN.{length, get_or, replicate, get_or-replicate}
use Rattle.laws.proofs.Tests.{by_test, under?}
use Rattle.handlers.specs.Handlers.{range_start, range_end, is_held}
use Rattle.handlers.specs.mirror.Catches.{last_of, Painted, Filled, Said, Laid}

-- ---- by blocks and place by place
-- the higher of two, of which one is v
left_is : (p b v : ℕ) → max p b ≤ v → max v b ≡ v
left_is p b v h = omega (arith, h)

right_is : (p b v : ℕ) → max p b ≤ v → max p v ≡ v
right_is p b v h = omega (arith, h)

both_are : {p b p' b' : ℕ} → p' ≡ p → b' ≡ b → max p' b' ≡ max p b
both_are h i = omega (arith, h, i)

module _ {P P₁ P' B B' : List ℕ} {a e f l v : ℕ} (first : f ≡ (a + 255) / 256) (last : l ≡ e / 256) (order : f ≤ l) (A : Filled P P₁ a (f * 256) v) (M : Filled B B' f l v)
    (E : Filled P₁ P' (l * 256) e v) where
  -- a block before the whole ones, and one behind them
  block_left : (o : ℕ) → o < f * 256 → get_or B' (o / 256) 0 ≡ get_or B (o / 256) 0
  block_left o h = M.outside (o / 256) (inl (omega (arith, h)))

  block_right : (o : ℕ) → l * 256 ≤ o → get_or B' (o / 256) 0 ≡ get_or B (o / 256) 0
  block_right o h = M.outside (o / 256) (inr (omega (arith, h)))

  -- a place of a whole block keeps what it had
  place_kept : (o : ℕ) → f * 256 ≤ o → o < l * 256 → get_or P' o 0 ≡ get_or P o 0
  place_kept o h u = E.outside o (inl u) ∙ A.outside o (inr h)

  inside_left : (o : ℕ) → a ≤ o → o < f * 256 → o < e → get_or P' o 0 ≡ v
  inside_left o h u w = ⊎_elim (λ x. E.outside o (inl x) ∙ A.inside o h u) (λ x. E.inside o x w) (under? o (l * 256))

  pub said_blocks : Said P B P' B' a e v
  said_blocks = record {
    inside = λ o h u m. ⊎_elim
        (λ x. both_are (inside_left o h x u) (block_left o x) ∙ left_is (get_or P o 0) (get_or B (o / 256) 0) v m)
        (λ x. ⊎_elim
        (λ y. both_are (place_kept o x y) (M.inside (o / 256) (omega (arith, x)) (omega (arith, y))) ∙ right_is (get_or P o 0) (get_or B (o / 256) 0) v m)
        (λ y. both_are (E.inside o y u) (block_right o y) ∙ left_is (get_or P o 0) (get_or B (o / 256) 0) v m)
        (under? o (l * 256)))
        (under? o (f * 256));
    outside = λ o x. ⊎_elim
        (λ (h : o < a). both_are (E.outside o (inl (omega (arith, h, first, order))) ∙ A.outside o (inl h)) (M.outside (o / 256) (inl (omega (arith, h, first)))))
        (λ (h : e ≤ o). both_are (E.outside o (inr h) ∙ A.outside o (inr (omega (arith, h, last, order)))) (M.outside (o / 256) (inr (omega (arith, h, last)))))
        x;
  }

-- ---- record over record
pub last-le : (s : List ℕ) (o n : ℕ) → last_of s o n ≤ n
unfolding last_of
last-le s o zero = omega arith
last-le s o (suc n) = by_test (λ (x : ℕ). x ≤ suc n) (is_held s o n) (λ _. omega arith) (λ _. omega (arith, last-le s o n))

-- no record is said in zeros
pub painted_none : (s P : List ℕ) → length P ≤ 65536 → ((o : ℕ) → get_or P o 0 ≡ 0) → Painted s P (replicate 256 0) 0
unfolding last_of
painted_none s P h clear o inside = omega (arith, clear o, get_or-replicate {A = ℕ} 256 (o / 256) 0 0 (omega (arith, h, inside)))

pub painted_more : (s P B P' B' : List ℕ) (r : ℕ) {v : ℕ} → v ≡ r + 1 → length P' ≡ length P → Laid P B P' B' (range_start s r) (range_end s r) v → Painted s P B r → Painted s P' B' v
unfolding last_of
painted_more s P B P' B' r {v} is same L p o inside =
    let h = p o (omega (arith, inside, same)) in
    let z : v ≡ suc r = omega (arith, is) in
    L o (omega (arith, inside, same)) (omega (arith, h, last-le s o r, z)) ∙ ap (λ (x : ℕ). cond (is_held s o r) v x) h ∙ rw z refl
