-- Records of w bytes one behind the other: record k stands behind k * w bytes. Assumes nothing.
use Prim.Native.Nat.{ℕ, zero, suc, ◌+◌, ◌-◌, ◌*◌, ◌<◌, ◌≤◌}
use mathlib.Core.Path.{◌≡◌, sym, ap, ◌∙◌}
use mathlib.Core.List.{List, [], ◌++◌}
use native.Mathlib.Omega.{arith}
use native.Mathlib.Nat.{suc-mul}
use lib.ListN.{length, get_or, take, drop, length-append, drop_of_length-le, take-append-drop, get_or-append}
use lib.Seq.{drop-append-add, drop-drop, get_or-drop}
use Rattle.convert.specs.Records.{joined}

module _ (f : ℕ → List ℕ) (w n : ℕ) (long : (k : ℕ) → k < n → length (f k) ≡ w) where
  pub joined-drop : (k j m : ℕ) → k ≤ m → j + m ≤ n → drop (k * w) (joined f j m) ≡ joined f (j + k) (m - k)
  unfolding joined
  joined-drop zero j m l h = let p : j + 0 ≡ j = omega arith in let q : m - 0 ≡ m = omega arith in let z : 0 * w ≡ 0 = omega arith in rw (p, q, z)
  joined-drop (suc k) j zero l h = absurd (omega arith)
  joined-drop (suc k) j (suc m) l h =
      let r = f j in
      let e : suc k * w ≡ length r + k * w = omega (arith, suc-mul k w, long j (omega arith)) in
      let p : j + 1 + k ≡ j + suc k = omega arith in
      let g : suc m - suc k ≡ m - k = omega arith in
      ap (λ (x : ℕ). drop x (r ++ joined f (j + 1) m)) e ∙ drop-append-add r (joined f (j + 1) m) (k * w)
      ∙ joined-drop k (j + 1) m (omega arith) (omega arith) ∙ ap (λ (x : ℕ). joined f x (m - k)) p ∙ ap (joined f (j + suc k)) (sym g)

  pub joined_length : (m j : ℕ) → j + m ≤ n → length (joined f j m) ≡ m * w
  unfolding joined
  joined_length zero j h = omega arith
  joined_length (suc m) j h = length-append (f j) (joined f (j + 1) m) ∙ omega (arith, suc-mul m w, long j (omega arith), joined_length m (j + 1) (omega arith))

  -- record k, and what stands behind it
  pub joined_at : (k : ℕ) → k < n → drop (k * w) (joined f 0 n) ≡ f k ++ joined f (k + 1) (n - (k + 1))
  unfolding joined
  joined_at k h =
      let e : n - k ≡ suc (n - (k + 1)) = omega arith in
      let z : 0 + k ≡ k = omega arith in
      joined-drop k 0 n (omega arith) (omega arith) ∙ rw (z, e)

  pub joined_byte : (k i : ℕ) → k < n → i < w → get_or (joined f 0 n) (k * w + i) 0 ≡ get_or (f k) i 0
  joined_byte k i h l =
      sym (get_or-drop (k * w) (joined f 0 n) i 0) ∙ ap (λ (x : List ℕ). get_or x i 0) (joined_at k h) ∙ get_or-append (f k) (joined f (k + 1) (n - (k + 1))) 0 i (omega (arith, long k h))

-- the next of the records from k on, and their end
pub joined_next : (f : ℕ → List ℕ) (n k : ℕ) → k < n → joined f k (n - k) ≡ f k ++ joined f (k + 1) (n - (k + 1))
unfolding joined
joined_next f n k h = let e : n - k ≡ suc (n - (k + 1)) = omega arith in rw e

pub joined_end : (f : ℕ → List ℕ) (n k : ℕ) → n ≤ k → joined f k (n - k) ≡ []
unfolding joined
joined_end f n k h = let e : n - k ≡ 0 = omega arith in rw e

-- a file of n records is these, one behind the other
module _ (f : ℕ → List ℕ) (w n : ℕ) (s : List ℕ) (whole : length s ≡ n * w) (each : (k : ℕ) → k < n → take w (drop (k * w) s) ≡ f k) where
  joined_rest : (m k : ℕ) → k + m ≡ n → joined f k m ≡ drop (k * w) s
  unfolding joined
  joined_rest zero k e = let p : k ≡ n = omega arith in rw p (sym (drop_of_length-le s {i = n * w} (omega arith)))
  joined_rest (suc m) k e =
      let p : (k + 1) * w ≡ k * w + w = omega (arith, suc-mul k w) in
      ap (λ (x : List ℕ). x ++ joined f (k + 1) m) (sym (each k (omega arith)))
      ∙ ap (λ (x : List ℕ). take w (drop (k * w) s) ++ x) (joined_rest m (k + 1) (omega arith) ∙ ap (λ (x : ℕ). drop x s) p ∙ sym (drop-drop w (k * w) s))
      ∙ take-append-drop w (drop (k * w) s)

  pub joined_whole : joined f 0 n ≡ s
  joined_whole = let z : 0 * w ≡ 0 = omega arith in joined_rest n 0 (omega arith) ∙ rw z
