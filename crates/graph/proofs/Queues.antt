-- The marks and the queue: what a push does, and how growths join. Nothing here knows of steps. Assumes nothing.
use mathlib.Core.Path.{◌≡◌, refl, sym, ap, ◌∙◌, subst}
use mathlib.Core.List.{List, [], ◌∷◌}
use mathlib.Core.Logic.{◌⊎◌, inl, inr, ⊎_elim}
use Prim.Native.Nat.{ℕ, zero, suc, ◌+◌, ◌≤◌, ◌<◌, zero-le}
use native.Mathlib.Nat.{le_refl}
use native.Mathlib.Omega.{arith}
use lib.ListN.{length, get_or, set, replicate, length-set, length-replicate}
use lib.Seq.{get_or-set_same, get_or-set_other}
use Rattle.laws.proofs.Tests.{under?, same?}
use Rattle.graph.specs.Graph.{Mark}
use Rattle.graph.specs.mirror.Queue.{In, sum, Held, Grown}

-- ---- the sum of the marks
sum-set : (M : List ℕ) (t : ℕ) → t < length M → get_or M t 0 ≡ 0 → sum (set M t 1) ≡ suc (sum M)
unfolding sum
sum-set [] t h e = absurd (omega arith)
sum-set (x ∷ M) zero h e = omega arith
sum-set (x ∷ M) (suc t) h e = omega (arith, sum-set M t (omega arith) e)

sum-le : (M : List ℕ) → ((p : ℕ) → get_or M p 0 ≤ 1) → sum M ≤ length M
unfolding sum
sum-le [] b = zero-le
sum-le (x ∷ M) b = omega (arith, b 0, sum-le M (λ p. b (suc p)))

sum-zero : (n : ℕ) → sum (replicate n 0) ≡ 0
unfolding sum
sum-zero zero = refl
sum-zero (suc n) = omega (arith, sum-zero n)

pub zero_at : (n p : ℕ) → ◌≡◌ {A = ℕ} (get_or (replicate n 0) p 0) 0
zero_at zero p = refl
zero_at (suc n) zero = refl
zero_at (suc n) (suc p) = zero_at n p

-- ---- being in the queue
pub In_kept : {q q' : List ℕ} {k k' p : ℕ} → ((i : ℕ) → i < k → get_or q' i 0 ≡ get_or q i 0) → k ≤ k' → In q k p → In q' k' p
In_kept keep le x = record { at = x.at; below = omega arith; is = keep x.at x.below ∙ x.is }

pub held_none : (n : ℕ) (q : List ℕ) → n ≤ length q → n ≤ 65536 → Held (replicate n 0) q 0
held_none n q h s = record {
  bits = λ p. omega (arith, zero_at n p);
  count = sum-zero n;
  marked = λ p e. absurd (omega (arith, zero_at n p));
  queued = λ i l. absurd (omega arith);
  room = omega (arith, length-replicate {A = ℕ} n 0);
  small = omega (arith, length-replicate {A = ℕ} n 0);
}

-- the entries are no more than the marks
pub held-le : {M q : List ℕ} {k : ℕ} → Held M q k → k ≤ length M
held-le {M} h = omega (arith, sum-le M h.bits, h.count)

-- ---- growths
pub grown_none : {M q : List ℕ} {k : ℕ} {P : ℕ → Type 0} → Held M q k → ((p : ℕ) → P p → In q k p) → Grown q k M q k P
grown_none h a = record { held = h; more = le_refl _; kept = λ i l. refl; new = λ i l u. absurd (omega arith); all = a }

-- a growth by P is one by what is the same
pub grown_same : {q M' q' : List ℕ} {k k' : ℕ} {P Q : ℕ → Type 0} → ((p : ℕ) → P p → Q p) → ((p : ℕ) → Q p → P p) → Grown q k M' q' k' P → Grown q k M' q' k' Q
grown_same to from a = record { held = a.held; more = a.more; kept = a.kept; new = λ i l u. to _ (a.new i l u); all = λ p x. a.all p (from p x) }

pub grown_join : {q q₁ q₂ M₁ M₂ : List ℕ} {k k₁ k₂ : ℕ} {P₁ P₂ P : ℕ → Type 0} → Grown q k M₁ q₁ k₁ P₁ → Grown q₁ k₁ M₂ q₂ k₂ P₂
    → ((p : ℕ) → P₁ p → P p) → ((p : ℕ) → P₂ p → P p) → ((p : ℕ) → P p → P₁ p ⊎ P₂ p) → Grown q k M₂ q₂ k₂ P
grown_join {q} {q₁} {q₂} {k₁ = k₁} {P = P} a b i₁ i₂ s = record {
  held = b.held;
  more = omega arith;
  kept = λ i l. b.kept i (omega arith) ∙ a.kept i l;
  new = λ i l u. ⊎_elim (λ h. subst P (sym (b.kept i h)) (i₁ _ (a.new i l h))) (λ h. i₂ _ (b.new i h u)) (under? i k₁);
  all = λ p x. ⊎_elim (λ y. In_kept b.kept b.more (a.all p y)) (λ y. b.all p y) (s p x);
}

-- ---- a mark set to 1
module _ (M : List ℕ) (t : ℕ) (inside : t < length M) where
  pub at_t : get_or (set M t 1) t 0 ≡ 1
  at_t = get_or-set_same M t 1 0 inside

  pub off_t : (p : ℕ) → (p ≡ t → ⊥) → get_or (set M t 1) p 0 ≡ get_or M p 0
  off_t p ne = get_or-set_other M t p 1 0 ne

  pub one_now : (p : ℕ) → get_or M p 0 ≡ 1 → get_or (set M t 1) p 0 ≡ 1
  one_now p e = ⊎_elim (λ x. rw x at_t) (λ ne. off_t p ne ∙ e) (same? p t)

  pub bits_now : ((p : ℕ) → get_or M p 0 ≤ 1) → (p : ℕ) → get_or (set M t 1) p 0 ≤ 1
  bits_now b p = ⊎_elim (λ e. omega (arith, ap (λ (x : ℕ). get_or (set M t 1) x 0) e, at_t)) (λ ne. rw (off_t p ne) (b p)) (same? p t)

-- ---- a push
module _ (M q : List ℕ) (k t : ℕ) (h : Held M q k) (inside : t < length M) where
  pub push_old : (get_or M t 0 ≡ 0 → ⊥) → Grown q k M q k (λ p. p ≡ t)
  push_old ne = grown_none h (λ p e. h.marked p (ap (λ (x : ℕ). get_or M x 0) e ∙ omega (arith, h.bits t, ne)))

  module _ (free : get_or M t 0 ≡ 0) where
    sum_now : sum (set M t 1) ≡ suc (sum M)
    sum_now = sum-set M t inside free

    pub push_room : k < length M
    push_room = omega (arith, sum-le (set M t 1) (bits_now M t inside h.bits), length-set M t 1, sum_now, h.count)

    at_k : get_or (set q k t) k 0 ≡ t
    at_k = get_or-set_same q k t 0 (omega (arith, push_room, h.room))

    below_k : (i : ℕ) → i < k → get_or (set q k t) i 0 ≡ get_or q i 0
    below_k i l = get_or-set_other q k i t 0 (λ e. omega arith)

    pub push_new : Grown q k (set M t 1) (set q k t) (k + 1) (λ p. p ≡ t)
    push_new = record {
      held = record {
        bits = bits_now M t inside h.bits;
        count = omega (arith, sum_now, h.count);
        marked = λ p e. ⊎_elim (λ x. record { at = k; below = omega arith; is = at_k ∙ sym x }) (λ ne. In_kept below_k (omega arith) (h.marked p (sym (off_t M t inside p ne) ∙ e))) (same? p t);
        queued = λ i l. ⊎_elim (λ lt. rw (below_k i lt) (one_now M t inside _ (h.queued i lt))) (λ le. let e : i ≡ k = omega arith in rw (e, at_k) (at_t M t inside)) (under? i k);
        room = simp length-set h.room;
        small = simp length-set h.small;
      };
      more = omega arith;
      kept = below_k;
      new = λ i l u. let e : i ≡ k = omega arith in rw e at_k;
      all = λ p e. record { at = k; below = omega arith; is = at_k ∙ sym e };
    }

-- ---- what the marks say in the end
pub mark_of : {M q : List ℕ} {k : ℕ} (P : Type 0) (p : ℕ) → Held M q k → (In q k p → P) → (P → In q k p) → Mark (get_or M p 0) P
mark_of {M} P p h to from =
    ⊎_elim (λ e. inl (e, to (h.marked p e)))
    (λ ne. inr (omega (arith, h.bits p, ne), λ x. let y = from x in ne (subst (λ (o : ℕ). get_or M o 0 ≡ 1) y.is (h.queued y.at y.below))))
    (same? (get_or M p 0) 1)
