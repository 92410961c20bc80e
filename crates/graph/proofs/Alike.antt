-- Two graphs that do alike, as computed tests say it, have one finding and the same marks. Assumes nothing.
use Prim.Native.Nat.{ℕ, suc, ◌≤◌}
use mathlib.Core.Path.{◌≡◌, refl, sym, ap, ◌∙◌, subst}
use mathlib.Core.Bool.{Bool, true, false, ◌||◌}
use mathlib.Core.List.{List, [], ◌∷◌, append-nil}
use mathlib.Core.Logic.{⊎_elim}
use native.Mathlib.Omega.{arith}
use borrow.Author.Tests.{eqb-true, eq-eqb, ne_eqb}
use lib.Dec.{eqb}
use lib.ListN.{length}
use Rattle.laws.proofs.Tests.{clash, either, or_either, same?}
use Rattle.graph.specs.Lists.{any, elem}
use Rattle.graph.specs.Graph.{Graph, Good, Rising, is_start, is_to, Finding, Answer, exits, finding, marked, mark_list}
use Rattle.graph.proofs.Lists.{or_left, any_among, among_any, first_lowest}
use Rattle.graph.proofs.Levels.{exits_sound, exits_complete}
use Rattle.graph.proofs.Marks.{bits-length}
use Rattle.graph.proofs.Answers.{found, computed}
use Rattle.graph.proofs.Same.{Less, answer_same}

-- one list of starts; from each start both go to the same starts, and both leave or neither does
pub record Alike (g g' : Graph) : Type 0 where
  pub starts : g.starts ≡ g'.starts
  pub goes : (o t : ℕ) → is_start g o ≡ true → is_start g t ≡ true → any (is_to t) (g.steps o) ≡ any (is_to t) (g'.steps o)
  pub leaves : (o : ℕ) → is_start g o ≡ true → exits g o ≡ exits g' o

pub same_start : (g g' : Graph) → g.starts ≡ g'.starts → (t : ℕ) → is_start g t ≡ is_start g' t
unfolding is_start
same_start g g' e t = ap (elem t) e

pub alike_back : {g g' : Graph} → Alike g g' → Alike g' g
alike_back {g} {g'} a =
    let s = same_start g g' a.starts in
    record { starts = sym a.starts; goes = λ o t h i. sym (a.goes o t (s o ∙ h) (s t ∙ i)); leaves = λ o h. sym (a.leaves o (s o ∙ h)) }

pub alike_less : {g g' : Graph} → Alike g g' → Less g g'
alike_less {g} {g'} a = record {
  starts = a.starts;
  goes = λ o t h s.
      let x = any_among (is_to t) (g'.steps o) (sym (a.goes o t h s.start) ∙ among_any (is_to t) s.among s.goes) in
      record { step = x.0; among = x.1; goes = x.2; start = sym (same_start g g' a.starts t) ∙ s.start };
  leaves = λ o h x. exits_sound g' o (sym (a.leaves o h) ∙ exits_complete x);
}

marks_length : (g : Graph) (f : Finding) (n : ℕ) → length (mark_list g f n) ≡ n
unfolding mark_list
marks_length g f n = bits-length (marked g f) 0 n

module _ {g g' : Graph} (G : Good g) (a : Alike g g') where
  good_too : Good g'
  good_too = record { rising = subst (Rising 0) a.starts G.rising }

  both : (n : ℕ) → (finding g ≡ finding g') × (mark_list g (finding g) n ≡ mark_list g' (finding g') n)
  both n = found good_too (marks_length g (finding g) n) (answer_same (alike_less a) (alike_less (alike_back a)) (subst (λ (M : List ℕ). Answer g n M (finding g)) (append-nil (mark_list g (finding g) n)) (computed G n [])))

  pub finding_alike : finding g ≡ finding g'
  finding_alike = (both 0).0

  pub marks_alike : (n : ℕ) → mark_list g (finding g) n ≡ mark_list g' (finding g') n
  marks_alike n = (both n).1

-- ---- numbers that rise, told by which of them there are
above : (a y : ℕ) (l : List ℕ) → Rising a l → elem y l ≡ true → a ≤ y
above a y [] r e = clash e refl
above a y (x ∷ l) r e = omega (arith, first_lowest (λ _. true) a y (x ∷ l) r e refl, r.0)

module _ (x : ℕ) (l : List ℕ) (y : ℕ) (m : List ℕ) (r : Rising (suc x) l) (s : Rising (suc y) m) where
  -- the first of both is the same
  first : ((t : ℕ) → elem t (x ∷ l) ≡ elem t (y ∷ m)) → x ≡ y
  first h =
      ⊎_elim (λ e. eqb-true x y e)
      (λ i. ⊎_elim (λ e. sym (eqb-true y x e)) (λ j. let z : ⊥ = omega (arith, above (suc y) x m s i, above (suc x) y l r j) in absurd z)
      (or_either (eqb y x) (elem y l) (h y ∙ or_left _ (eq-eqb y y refl))))
      (or_either (eqb x y) (elem x m) (sym (h x) ∙ or_left _ (eq-eqb x x refl)))

  -- and so are those behind it
  behind : x ≡ y → ((t : ℕ) → elem t (x ∷ l) ≡ elem t (y ∷ m)) → (t : ℕ) → elem t l ≡ elem t m
  behind e h t = ⊎_elim (λ i. none l x r i ∙ sym (none m y s (i ∙ e))) (λ n. sym (ap (λ (b : Bool). b || elem t l) (ne_eqb t x n)) ∙ h t ∙ ap (λ (b : Bool). b || elem t m) (ne_eqb t y (λ i. n (i ∙ sym e)))) (same? t x)
    where
      none : (k : List ℕ) (z : ℕ) → Rising (suc z) k → t ≡ z → elem t k ≡ false
      none k z q i = ⊎_elim (λ j. let w : ⊥ = omega (arith, above (suc z) t k q j, i) in absurd w) (λ j. j) (either (elem t k))

pub rising_same : (a : ℕ) (l m : List ℕ) → Rising a l → Rising a m → ((t : ℕ) → elem t l ≡ elem t m) → l ≡ m
rising_same a [] [] r s h = refl
rising_same a [] (y ∷ m) r s h = clash (or_left _ (eq-eqb y y refl)) (sym (h y))
rising_same a (x ∷ l) [] r s h = clash (or_left _ (eq-eqb x x refl)) (h x)
rising_same a (x ∷ l) (y ∷ m) r s h = go (first x l y m r.1 s.1 h) (rising_same (suc x) l m r.1)
  where
    go : x ≡ y → (Rising (suc x) m → ((t : ℕ) → elem t l ≡ elem t m) → l ≡ m) → x ∷ l ≡ y ∷ m
    go e rest = let i = rest (subst (λ (z : ℕ). Rising (suc z) m) (sym e) s.1) (behind x l y m r.1 s.1 e h) in cc
