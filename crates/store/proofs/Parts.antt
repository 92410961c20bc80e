-- The search for falls by parts of 256 slots: what is written down of them, what an object asks of it, and the least of what all objects found.
-- Assumes nothing.
use Prim.Native.Nat.{ℕ, zero, suc, ◌+◌, ◌-◌, ◌*◌, ◌/◌, ◌<◌, ◌≤◌, min}
use mathlib.Core.Path.{◌≡◌, refl, sym, ◌∙◌}
use mathlib.Core.Bool.{Bool, true, false, cond, ◌||◌}
use mathlib.Core.List.{List}
use mathlib.Core.Logic.{◌⊎◌, inl, inr}
use native.Mathlib.Omega.{arith}
use native.Mathlib.Nat.{le_refl}
use native.Mathlib.Numerals.{add-one}
use borrow.Author.Tests.{lt-ltb, le-ltb}
use lib.Dec.{ltb}
use Rattle.std.proofs.Math.Bool.{or-true}
use lib.ListN.{length, get_or, set, length-set}
use lib.Seq.{get_or-set_same, get_or-set_other}
use Rattle.laws.specs.Scan.{first_from}
use Rattle.laws.proofs.Scan.{first_is, first-within, first_holds, first-before, first_more}
use Rattle.laws.proofs.Tests.{under?, same?}
use Rattle.store.specs.Records.{slot_of, object_of}
use Rattle.store.specs.mirror.Falls.{lower}
use Rattle.store.specs.Check.{falls_in, falls}
use Rattle.store.proofs.Falls.{high, level}

-- the first place of either test is the lesser of the first places of both
first_least : (p q : ℕ → Bool) (n : ℕ) → min (first_from p 0 n) (first_from q 0 n) ≡ first_from (λ k. p k || q k) 0 n
first_least p q n = sym (first_is (λ k. p k || q k) 0 n (min a b) (omega arith) (omega (arith, (first-within p 0 n).1)) before here)
  where
    a : ℕ
    a = first_from p 0 n

    b : ℕ
    b = first_from q 0 n

    before : (j : ℕ) → 0 ≤ j → j < min a b → (p j || q j) ≡ false
    before j low l = rw (first-before p 0 n j low (omega arith), first-before q 0 n j low (omega arith))

    here : min a b < 0 + n → (p (min a b) || q (min a b)) ≡ true
    here l = go (under? a b)
      where
        go : (a < b) ⊎ (b ≤ a) → (p (min a b) || q (min a b)) ≡ true
        go (inl m) = let e : min a b ≡ a = omega arith in rw (e, first_holds p 0 n (omega arith))
        go (inr m) = let e : min a b ≡ b = omega arith in rw (e, first_holds q 0 n (omega arith)) (or-true (p b))

-- what all objects before k found, and what object k finds
pub falls_least : (o s : List ℕ) (end k : ℕ) → min (first_from (falls o s k) 0 end) (first_from (falls_in s (object_of o k).first (object_of o k).count) 0 end) ≡ first_from (falls o s (k + 1)) 0 end
unfolding falls
falls_least o s end k = rw add-one (first_least (falls o s k) (falls_in s (object_of o k).first (object_of o k).count) end)

-- a slot whose index is not lower falls within no object
no_falls : (o s : List ℕ) (n k : ℕ) → lower s k ≡ false → falls o s n k ≡ false
unfolding falls
no_falls o s zero k h = refl
no_falls o s (suc n) k h = rw (no_falls o s n k h, level s (object_of o n).first (object_of o n).count k h)

-- where none falls within all the slots, none falls within an object
pub none_lower : (o s : List ℕ) (n end : ℕ) {any : ℕ} → any ≡ first_from (falls_in s 0 end) 0 end → end ≤ any → end ≡ first_from (falls o s n) 0 end
unfolding lower falls_in
none_lower o s n end {any} found l = sym (first_is (falls o s n) 0 end end (omega arith) (omega arith) (λ j z m. no_falls o s n j (flat j m)) (λ z. absurd (omega arith)))
  where
    none : (j : ℕ) → j < end → falls_in s 0 end j ≡ false
    none j m = first-before (falls_in s 0 end) 0 end j (omega arith) (omega arith)

    flat : (j : ℕ) → j < end → lower s j ≡ false
    flat zero m = le-ltb (slot_of s 0).index (slot_of s 0).index (le_refl _)
    flat (suc j) m = rw (lt-ltb 0 (suc j) (omega arith), lt-ltb (suc j) (0 + end) (omega arith)) at (none (suc j) m)

module _ (s : List ℕ) (end : ℕ) where
  -- what is written down from slot k on
  pub record Filled (k : ℕ) (later : List ℕ) : Type 0 where
    pub room : end ≤ length later * 256
    pub at : (b : ℕ) → 0 < b → k ≤ b * 256 → b * 256 < end → get_or later b 0 ≡ first_from (lower s) (b * 256) (end - b * 256)

  pub filled_start : {later : List ℕ} → end ≤ length later * 256 → Filled end later
  filled_start e = record { room = e; at = λ b z l m. absurd (omega arith) }

  pub filled_next : {later : List ℕ} (k : ℕ) {fall : ℕ} → 0 < k → k ≤ end → fall ≡ first_from (lower s) (k - 1) (end - (k - 1)) → Filled k later → Filled (k - 1) (set later ((k - 1) / 256) fall)
  filled_next {later} k {fall} z l found f = record { room = rw length-set f.room; at = λ b y low m. go b y low m (same? b ((k - 1) / 256)) }
    where
      go : (b : ℕ) → 0 < b → k - 1 ≤ b * 256 → b * 256 < end → (b ≡ (k - 1) / 256) ⊎ (b ≡ (k - 1) / 256 → ⊥) → get_or (set later ((k - 1) / 256) fall) b 0 ≡ first_from (lower s) (b * 256) (end - b * 256)
      go b y low m (inl e) =
          let h : b * 256 ≡ k - 1 = omega arith in
          rw (h, e) (get_or-set_same later ((k - 1) / 256) fall 0 (omega (arith, f.room)) ∙ found)
      go b y low m (inr e) = get_or-set_other later ((k - 1) / 256) b fall 0 e ∙ f.at b y (omega arith) m

  -- the first lower index from slot k - 1 on
  pub lower_next : (k : ℕ) {here before found r : ℕ} → 0 < k → k ≤ end → here ≡ (slot_of s (k - 1)).index → before ≡ (slot_of s (k - 1 - 1)).index
      → found ≡ first_from (lower s) k (end - k) → r ≡ cond (ltb here before) (k - 1) found → r ≡ first_from (lower s) (k - 1) (end - (k - 1))
  unfolding first_from lower
  lower_next k z l h b f e =
      let n : end - (k - 1) ≡ suc (end - k) = omega arith in
      let m : k - 1 + 1 ≡ k = omega arith in
      rw (n, m, ← h, ← b, ← f) e

-- an object's slots: edge is where the part behind first's begins, near the first fall before it
module _ (s : List ℕ) (first count end : ℕ) {edge near : ℕ} (before : near ≡ first_from (falls_in s first count) 0 edge) where
  pub fall_near : edge ≤ end → near < edge → near ≡ first_from (falls_in s first count) 0 end
  fall_near l m = before ∙ sym (first_more (falls_in s first count) 0 edge end l (omega arith))

  pub fall_edge : edge ≡ end → edge ≤ near → end ≡ first_from (falls_in s first count) 0 end
  fall_edge e l = let h : first_from (falls_in s first count) 0 edge ≡ edge = omega (arith, (first-within (falls_in s first count) 0 edge).1) in rw (← e) (sym h)

  module _ (far : ℕ) (l : edge ≤ near) (inside : edge < end) (found : far ≡ first_from (lower s) edge (end - edge)) where
    -- none before far
    clear : (j : ℕ) → j < far → falls_in s first count j ≡ false
    clear j m = go (under? j edge)
      where
        go : (j < edge) ⊎ (edge ≤ j) → falls_in s first count j ≡ false
        go (inl n) = first-before (falls_in s first count) 0 edge j (omega arith) (omega arith)
        go (inr n) = level s first count j (first-before (lower s) edge (end - edge) j n (omega arith))

    pub fall_far : first < edge → far < first + count → far ≡ first_from (falls_in s first count) 0 end
    unfolding falls_in lower
    fall_far f m = sym (first_is (falls_in s first count) 0 end far (omega arith) (omega (arith, (first-within (lower s) edge (end - edge)).1)) (λ j z. clear j) here)
      where
        here : far < 0 + end → falls_in s first count far ≡ true
        here n =
            let h : lower s far ≡ true = rw found (first_holds (lower s) edge (end - edge) (omega arith)) in
            rw (lt-ltb first far (omega (arith, (first-within (lower s) edge (end - edge)).0)), lt-ltb far (first + count) m, h)

    pub fall_behind : first + count ≤ far → end ≡ first_from (falls_in s first count) 0 end
    fall_behind m = sym (first_is (falls_in s first count) 0 end end (omega arith) (omega arith) (λ j z n. go j (under? j far)) (λ z. absurd (omega arith)))
      where
        go : (j : ℕ) → (j < far) ⊎ (far ≤ j) → falls_in s first count j ≡ false
        go j (inl n) = clear j n
        go j (inr n) = high s first count j (omega arith)
