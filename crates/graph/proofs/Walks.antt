-- The levels of a breadth-first search over the queue. Assumes nothing.
use mathlib.Core.Path.{◌≡◌, refl, sym, ap, ◌∙◌, subst}
use mathlib.Core.Bool.{true, false}
use mathlib.Core.List.{List}
use mathlib.Core.Logic.{⊎_elim}
use Prim.Native.Nat.{ℕ, suc, ◌+◌, ◌≤◌, ◌<◌, zero-le, suc-le-suc}
use native.Mathlib.Numerals.{add-one}
use native.Mathlib.Omega.{arith}
use lib.ListN.{get_or}
use Rattle.laws.proofs.Tests.{clash, under?}
use Rattle.graph.specs.Graph.{Graph, is_start, Succ, Reach, Leaving, exits}
use Rattle.graph.specs.Graph.Reach.{here, next}
use Rattle.graph.specs.Graph.Leaving.{leave}
use Rattle.graph.specs.mirror.Queue.{In, Held, Grown, SuccIn, Quiet, LowestAt}
use Rattle.graph.specs.mirror.Right.{IsClosed, IsLeaving}
use Rattle.graph.proofs.Levels.{exits_sound, exits_complete}
use Rattle.graph.proofs.Queues.{In_kept, mark_of}

-- The queue at the head of level d: what stands before lo was reached in fewer than d steps, what stands in lo .. hi is reached in d, and that is all that is reached in at most d.
pub record Level (g : Graph) (M q : List ℕ) (lo hi d : ℕ) : Type 0 where
  pub held : Held M q hi
  pub order : lo ≤ hi
  pub depth : d ≤ lo
  pub past : (i : ℕ) → i < lo → (m : ℕ) × (m < d) × Reach g m (get_or q i 0)
  pub present : (i : ℕ) → lo ≤ i → i < hi → Reach g d (get_or q i 0)
  pub closed : (i t : ℕ) → i < lo → Succ g (get_or q i 0) t → In q hi t
  pub all : (m p : ℕ) → Reach g m p → m ≤ d → In q hi p
  pub quiet : (m p : ℕ) → Reach g m p → m < d → exits g p ≡ false

-- a walk of no step is at 0
at_start : {g : Graph} {m p : ℕ} → Reach g m p → m ≤ 0 → p ≡ 0
at_start (here z) h = refl
at_start (next r s) h = absurd (omega arith)

pub level_start : {g : Graph} {q₀ M q : List ℕ} {k : ℕ} → is_start g 0 ≡ true → Grown q₀ 0 M q k (λ p. p ≡ 0) → Level g M q 0 k 0
level_start {g} z G = record {
  held = G.held;
  order = zero-le;
  depth = zero-le;
  past = λ i l. absurd (omega arith);
  present = λ i l u. subst (Reach g 0) (sym (G.new i l u)) (here z);
  closed = λ i t l s. absurd (omega arith);
  all = λ m p r h. G.all p (at_start r h);
  quiet = λ m p r h. absurd (omega arith);
}

module _ {g : Graph} {M q : List ℕ} {lo hi d : ℕ} (L : Level g M q lo hi d) where
  -- every entry of the queue was reached in at most d steps
  entry : (i : ℕ) → i < hi → (m : ℕ) × (m < suc d) × Reach g m (get_or q i 0)
  entry i l = ⊎_elim (λ h. let x = L.past i h in (x.0, omega arith, x.2)) (λ h. (d, omega arith, L.present i h l)) (under? i lo)

  -- no entry of an earlier level exits
  passed : (i : ℕ) → i < lo → exits g (get_or q i 0) ≡ false
  passed i l = let x = L.past i l in L.quiet x.0 _ x.2 x.1

  module _ (Q : Quiet g q lo hi) {M' q' : List ℕ} {e : ℕ} (some : lo < hi) (G : Grown q hi M' q' e (SuccIn g q lo hi)) where
    onward : (i t : ℕ) → i < hi → Succ g (get_or q i 0) t → In q' e t
    onward i t l s = ⊎_elim (λ h. In_kept G.kept G.more (L.closed i t h s)) (λ h. G.all t (i, h, l, s)) (under? i lo)

    all_next : {m p : ℕ} → Reach g m p → m ≤ suc d → In q' e p
    all_next (here z) h = In_kept G.kept G.more (L.all 0 0 (here z) zero-le)
    all_next (next {m = m} {o = o} {t = t} r s) h =
        let y = L.all m o r (omega arith) in onward y.at t y.below (subst (λ (x : ℕ). Succ g x t) (sym y.is) s)

    level-suc : Level g M' q' hi e (suc d)
    level-suc = record {
      held = G.held;
      order = G.more;
      depth = omega (arith, L.depth);
      past = λ i l. rw (G.kept i l) (entry i l);
      present = λ i l u. let x = G.new i l u in next (L.present x.0 x.1 x.2) x.3;
      closed = λ i t l s. onward i t l (subst (λ (x : ℕ). Succ g x t) (G.kept i l) s);
      all = λ m p r h. all_next r h;
      quiet = λ m p r h.
          let y = L.all m p r (omega arith) in
          subst (λ (x : ℕ). exits g x ≡ false) y.is (⊎_elim (passed y.at) (λ l. Q y.at l y.below) (under? y.at lo));
    }

    pub level_next : Level g M' q' hi e (d + 1)
    level_next = subst (Level g M' q' hi e) (sym (add-one d)) level-suc

  module _ {o : ℕ} (W : LowestAt g q lo hi o) where
    soonest : {t p : ℕ} → Leaving g t p → suc d ≤ t
    soonest (leave {m = m} {o = p} r x) = ⊎_elim (λ h. clash (exits_complete x) (L.quiet m p r h)) (λ h. suc-le-suc h) (under? m d)

    lowest : {t p : ℕ} → Leaving g t p → t ≡ suc d → o ≤ p
    lowest (leave {m = m} {o = p} r x) e =
        let y = L.all m p r (omega arith) in
        let h : exits g (get_or q y.at 0) ≡ true = ap (exits g) y.is ∙ exits_complete x in
        ⊎_elim (λ l. clash h (passed y.at l)) (λ l. subst (λ (z : ℕ). o ≤ z) y.is (W.least y.at l y.below h)) (under? y.at lo)

    leaves_suc : (n : ℕ) → IsLeaving g n M (suc d) o
    leaves_suc n = record {
      claim = record {
        leaves = leave (subst (Reach g d) W.is (L.present W.at W.from W.below)) (exits_sound g o W.exit);
        soonest = λ t p l. soonest l;
        lowest = λ p l. lowest l refl;
      };
      marks = λ p _. mark_of _ p L.held
          (λ y. let z = entry y.at y.below in (z.0, z.1, subst (Reach g z.0) y.is z.2))
          (λ z. L.all z.0 p z.2 (omega arith));
    }

    pub level_leaves : (n : ℕ) → IsLeaving g n M (d + 1) o
    level_leaves n = subst (λ (s : ℕ). IsLeaving g n M s o) (sym (add-one d)) (leaves_suc n)

  module _ (done : hi ≤ lo) where
    closing : {m p : ℕ} → Reach g m p → In q hi p
    closing (here z) = L.all 0 0 (here z) zero-le
    closing (next {m = m} {o = o} {t = t} r s) =
        let y = closing r in L.closed y.at t (omega arith) (subst (λ (x : ℕ). Succ g x t) (sym y.is) s)

    never : {m p : ℕ} → Leaving g m p → ⊥
    never (leave r x) = let y = closing r in clash (ap (exits g) y.is ∙ exits_complete x) (passed y.at (omega arith))

    pub level_closed : (n : ℕ) → IsClosed g n M
    level_closed n = record {
      claim = record { never = λ m p l. never l };
      marks = λ p _. mark_of _ p L.held
          (λ y. let z = entry y.at y.below in (z.0, subst (Reach g z.0) y.is z.2))
          (λ z. closing z.1);
    }
