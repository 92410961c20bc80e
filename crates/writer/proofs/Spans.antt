-- Pieces of a code: what stands from one place to another. Assumes nothing.
use Prim.Native.Nat.{ℕ, ◌+◌, ◌-◌, ◌<◌, ◌≤◌}
use mathlib.Core.Path.{◌≡◌, sym, ap, ◌∙◌}
use mathlib.Core.List.{List, [], ◌∷◌, ◌++◌, append_assoc}
use native.Mathlib.Omega.{arith}
use lib.ListN.{length, get_or, take, drop}
use lib.Seq.{drop-cons, drop-drop, take-add}

-- two pieces between a front and a rest
pub front : (s a b u : List ℕ) → s ++ ((a ++ b) ++ u) ≡ (s ++ a) ++ (b ++ u)
front s a b u = ap (λ (l : List ℕ). s ++ l) (append_assoc a b u) ∙ sym (append_assoc s a (b ++ u))

module _ (code : List ℕ) where
  -- l is what stands from place at to place e, of a code that reaches so far
  pub record Spans (at e : ℕ) (l : List ℕ) : Type 0 where
    pub rises : at ≤ e
    pub inside : at ≤ length code → e ≤ length code
    pub is : l ≡ take (e - at) (drop at code)

  pub spans_none : (at : ℕ) → Spans at at []
  spans_none at = let z : at - at ≡ 0 = omega arith in record { rises = omega arith; inside = λ h. h; is = rw z }

  -- w bytes in front of others
  pub spans_more : (at w e : ℕ) (b l : List ℕ) → at + w ≤ length code → b ≡ take w (drop at code) → Spans (at + w) e l → Spans at e (b ++ l)
  spans_more at w e b l room is rest =
      let n : e - at ≡ w + (e - (at + w)) = omega (arith, rest.rises) in
      record {
        rises = omega (arith, rest.rises);
        inside = λ h. rest.inside room;
        is = rw (is, rest.is, n, take-add w (e - (at + w)) (drop at code), drop-drop w at code);
      }

  -- a byte in front of others
  pub spans_byte : (at e : ℕ) (l : List ℕ) → at < length code → Spans (at + 1) e l → Spans at e (get_or code at 0 ∷ l)
  spans_byte at e l room rest = spans_more at 1 e (get_or code at 0 ∷ []) l (omega arith) (rw (drop-cons code at 0 room)) rest

  -- one piece behind the other
  pub spans_both : (at m e : ℕ) (b l : List ℕ) → at ≤ length code → Spans at m b → Spans m e l → Spans at e (b ++ l)
  spans_both at m e b l low h k =
      let p : at + (m - at) ≡ m = omega (arith, h.rises) in
      spans_more at (m - at) e b l (omega (arith, h.rises, h.inside low)) h.is (rw p k)
