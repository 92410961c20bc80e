-- Two graphs with the same starts, from each of which either does what the other does, by whatever steps: what is right of one is right of the other.
-- Assumes nothing.
use Prim.Native.Nat.{ℕ}
use mathlib.Core.Path.{◌≡◌, sym, ap, ◌∙◌}
use mathlib.Core.Bool.{true}
use mathlib.Core.List.{List}
use mathlib.Core.Logic.{inl, inr}
use lib.ListN.{get_or}
use Rattle.graph.specs.Lists.{elem}
use Rattle.graph.specs.Graph.{Graph, is_start, Succ, Exits, Reach, Leaving, Finding, Claim, Mark, Marked, Answer}
use Rattle.graph.specs.Graph.Reach.{here, next}
use Rattle.graph.specs.Graph.Leaving.{leave}
use Rattle.graph.specs.Graph.Finding.{closed, leaves}
use Rattle.graph.proofs.Levels.{reach_start}

-- g has the starts of g', and from each of them does nothing that g' does not, by whatever steps
pub record Less (g g' : Graph) : Type 0 where
  pub starts : g.starts ≡ g'.starts
  pub goes : (o t : ℕ) → is_start g o ≡ true → Succ g o t → Succ g' o t
  pub leaves : (o : ℕ) → is_start g o ≡ true → Exits g o → Exits g' o

is_start_lem : (g g' : Graph) → g.starts ≡ g'.starts → (t : ℕ) → is_start g t ≡ is_start g' t
unfolding is_start
is_start_lem g g' e t = ap (elem t) e

module _ {g g' : Graph} (L : Less g g') where
  pub reach_too : {m o : ℕ} → Reach g m o → Reach g' m o
  reach_too (here z) = here (sym (is_start_lem g g' L.starts 0) ∙ z)
  reach_too (next {o = o} {t = t} r s) = next (reach_too r) (L.goes o t (reach_start r) s)

  pub leaving_too : {n o : ℕ} → Leaving g n o → Leaving g' n o
  leaving_too (leave {o = o} r x) = leave (reach_too r) (L.leaves o (reach_start r) x)

  marked_too : (f : Finding) (p : ℕ) → Marked g f p → Marked g' f p
  marked_too closed p x = (x.0, reach_too x.1)
  marked_too (leaves n o) p x = (x.0, x.1, reach_too x.2)

module _ {g g' : Graph} (L : Less g g') (L' : Less g' g) where
  claim_same : (f : Finding) → Claim g f → Claim g' f
  claim_same closed c = record { never = λ n o w. c.never n o (leaving_too L' w) }
  claim_same (leaves n o) c = record {
    leaves = leaving_too L c.leaves;
    soonest = λ t p w. c.soonest t p (leaving_too L' w);
    lowest = λ p w. c.lowest p (leaving_too L' w);
  }

  mark_same : (f : Finding) (p v : ℕ) → Mark v (Marked g f p) → Mark v (Marked g' f p)
  mark_same f p v (inl x) = inl (x.0, marked_too L f p x.1)
  mark_same f p v (inr x) = inr (x.0, λ y. x.1 (marked_too L' f p y))

  pub answer_same : {n : ℕ} {M : List ℕ} {f : Finding} → Answer g n M f → Answer g' n M f
  answer_same {M = M} {f} a = record { claim = claim_same f a.claim; marks = λ p l. mark_same f p (get_or M p 0) (a.marks p l) }
