-- The computed finding meets the claim, and the claim has one answer only. Assumes nothing.
use Prim.Native.Nat.{ℕ, suc, ◌≤◌, ◌<◌, suc-le-suc}
use mathlib.Core.Path.{◌≡◌, refl, sym, subst}
use mathlib.Core.Bool.{Bool, true}
use mathlib.Core.Logic.{◌↔◌, ⊎_elim}
use native.Mathlib.Omega.{arith}
use borrow.Author.Tests.{ltb-true, ltb-false}
use lib.Dec.{ltb}
use Rattle.laws.proofs.Scan.{first_holds, first-before}
use Rattle.laws.proofs.Tests.{by_test, clash, under?}
use Rattle.graph.specs.Lists.{any, first}
use Rattle.graph.specs.Graph.{Graph, Good, Exits, Reach, Leaving, Leaves, Finding, Claim, exits, level, bound, first_exit, finding}
use Rattle.graph.specs.Graph.Leaving.{leave}
use Rattle.graph.specs.Graph.Finding.{closed, leaves}
use Rattle.graph.proofs.Lists.{elem-any, first_passes, first_lowest}
use Rattle.graph.proofs.Levels.{exits_sound, exits_complete, level_sound, level_complete, level_rises}
use Rattle.graph.proofs.Bound.{bounded}

-- some offset of level m exits
abbrev leaves_at : Graph → ℕ → Bool
leaves_at g m = any (exits g) (level g m)

module _ {g : Graph} (G : Good g) where
  -- a walk that leaves is seen at its level
  seen : {m o : ℕ} → Reach g m o → Exits g o → leaves_at g m ≡ true
  seen {m} {o} r x = elem-any (exits g) o (level g m) (level_complete r) (exits_complete x)

  -- none is seen before the first
  early : {m o : ℕ} → Reach g m o → Exits g o → m < first_exit g → ⊥
  unfolding first_exit
  early {m} r x l = clash (seen r x) (first-before (leaves_at g) 0 (bound g) m (omega arith) l)

  never : {n o : ℕ} → bound g ≤ first_exit g → Leaving g n o → ⊥
  never b (leave r x) = let k = bounded r in early k.2 x (omega arith)

  soonest : {t p : ℕ} → Leaving g t p → suc (first_exit g) ≤ t
  soonest (leave {m = k} r x) = ⊎_elim (λ h. absurd (early r x h)) (λ h. suc-le-suc h) (under? k (first_exit g))

  lowest : {t p : ℕ} → Leaving g t p → t ≡ suc (first_exit g) → first (exits g) (level g (first_exit g)) ≤ p
  lowest (leave {m = k} {o = p} r x) e =
      let h : k ≡ first_exit g = omega arith in
      first_lowest (exits g) 0 p (level g (first_exit g)) (level_rises G (first_exit g)) (level_complete (subst (λ (i : ℕ). Reach g i p) h r)) (exits_complete x)

  passes : first_exit g < bound g → leaves_at g (first_exit g) ≡ true
  unfolding first_exit
  passes l = first_holds (leaves_at g) 0 (bound g) (omega arith)

  leaves_first : first_exit g < bound g → Leaves g (suc (first_exit g)) (first (exits g) (level g (first_exit g)))
  leaves_first l =
      let f = first_passes (exits g) (level g (first_exit g)) (passes l) in
      record {
        leaves = leave (level_sound g _ _ f.0) (exits_sound g _ f.1);
        soonest = λ t p w. soonest w;
        lowest = λ p w. lowest w refl;
      }

  -- the computed answer is right
  pub finding_meets : Claim g (finding g)
  unfolding finding
  finding_meets =
      by_test (Claim g) (ltb (first_exit g) (bound g))
      (λ h. leaves_first (ltb-true _ _ h))
      (λ h. record { never = λ n p w. never (ltb-false _ _ h) w })

-- the claim determines the answer
pub claim_unique : (g : Graph) (f f' : Finding) → Claim g f → Claim g f' → f ≡ f'
claim_unique g closed closed a b = refl
claim_unique g closed (leaves n o) a b = absurd (a.never n o b.leaves)
claim_unique g (leaves n o) closed a b = absurd (b.never n o a.leaves)
claim_unique g (leaves n o) (leaves n' o') a b =
    let e : n ≡ n' = omega (arith, a.soonest n' o' b.leaves, b.soonest n o a.leaves) in
    let h : o ≡ o' = omega (arith, a.lowest o' (subst (λ (i : ℕ). Leaving g i o') (sym e) b.leaves), b.lowest o (subst (λ (i : ℕ). Leaving g i o) e a.leaves)) in
    cc

-- so the claim is met by the computed answer, and by no other
pub claim_is : {g : Graph} → Good g → (f : Finding) → Claim g f ↔ (f ≡ finding g)
claim_is {g} G f = (λ c. claim_unique g f (finding g) c (finding_meets G), λ e. subst (Claim g) (sym e) (finding_meets G))
