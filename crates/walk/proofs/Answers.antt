-- From what the search answers to the call's equation, and from the equation to demand 3. Assumes nothing.
use Prim.Native.Nat.{ℕ, ◌≤◌}
use mathlib.Core.Path.{◌≡◌, refl, sym, ap, subst, ◌∙◌}
use mathlib.Core.List.{List, ◌++◌}
use native.Mathlib.Omega.{arith}
use lib.ListN.{length, drop}
use Rattle.refusal.specs.Refusal.{Refusal}
use Rattle.std.specs.Prelude.{Result, Ok, Err}
use Rattle.refusal.specs.Check.{Check}
use Rattle.refusal.specs.Check.{guarded_on}
use Rattle.function.specs.Code.{listing_check}
use Rattle.refusal.proofs.Laws.{or_left}
use Rattle.graph.specs.Graph.{Finding, Answer, finding, mark_list}
use Rattle.graph.specs.Graph.Finding.{closed, leaves}
use Rattle.graph.proofs.Answers.{computed}
use Rattle.search.specs.declared.Walked.{Walked}
use Rattle.search.specs.declared.Walked.TheVariants as walked
use Rattle.search.specs.mirror.Kept.{kept_graph, finding_as, IsFound}
use Rattle.steps.specs.Steps.{Source, listing, walk_graph}
use Rattle.steps.specs.mirror.Keeping.{Catches}
use Rattle.steps.proofs.Listed.{walk_good}
use Rattle.steps.proofs.Keeps.{keeps_found}
use Rattle.walk.specs.Walk.{answer, walk_check, walk_found, walk_source, Promise}
use Rattle.walk.specs.mirror.Search.{Started, WalkedBy}

-- what the search answers is the answer of its finding
answer_is : (r : Walked) → Ok r ≡ answer (finding_as r)
answer_is walked.Closed = refl
answer_is (walked.Leaves n o) = refl

module _ (s : Source) where
  abbrev whole : Check
  whole = listing_check s.opcodes s.pooled (listing s)

  -- the listing came to the code's end
  pub ended : whole ≡ Ok tt → (listing s).check ≡ Ok tt
  ended ok = or_left (listing s).check _ ok

  -- ---- the call, by what the checks said
  module _ (M : List ℕ) where
    -- what a check leads to
    abbrev Checked : Result Walked Refusal → List ℕ → Check → Type 0
    Checked w M' c = WalkedBy (guarded_on c Err M (walk_found s M)) w M'

    pub source_refused : (r : Refusal) → Err r ≡ walk_check s (length M) → WalkedBy (walk_source s M) (Err r) M
    unfolding walk_source
    source_refused r e = subst (Checked (Err r) M) e (refl, refl)

    -- marks Y were searched by themselves over the numbers that keep the code, and stand in front of the rest again
    pub source_found : (catches : List ℕ) {heads words Y : List ℕ} {n : ℕ} {kept : Check} (r : Walked) → Ok tt ≡ walk_check s (length M) → length s.code ≤ 65536 → n ≡ length s.code → length heads ≡ n
        → Started s heads words kept → Catches s catches → IsFound (kept_graph s.elem heads words catches) n r Y → WalkedBy (walk_source s M) (Ok r) (Y ++ drop (length s.code) M)
    unfolding walk_source
    source_found catches {heads} {words} {Y} {n} r ok few all as_many k c f =
        let fine = or_left whole _ (sym ok) in
        let x = keeps_found s heads words catches (k.keeps (ended fine)) c few (omega (arith, few, all, as_many)) (ended fine) n r Y f in
        subst (Checked (Ok r) (Y ++ drop (length s.code) M)) ok
        (answer_is r ∙ ap answer x.0, ap (λ (y : List ℕ). y ++ drop (length s.code) M) (x.1 ∙ ap (mark_list (walk_graph s) (finding (walk_graph s))) all))

  -- ---- demand 3
  met : (M : List ℕ) (f : Finding) → Answer (walk_graph s) (length s.code) M f → Promise s (answer f) M
  met M closed a = a
  met M (leaves n o) a = a

  promised : (M : List ℕ) → Promise s (walk_source s M).0 (walk_source s M).1
  unfolding walk_source
  promised M = go (walk_check s (length M)) refl
    where
      go : (c : Check) → walk_check s (length M) ≡ c → let x = guarded_on c Err M (walk_found s M) in Promise s x.0 x.1
      go (Err r) h = tt
      go (Ok tt) h = met _ (finding (walk_graph s)) (computed (walk_good s (ended (or_left whole _ h))) (length s.code) (drop (length s.code) M))

-- ---- the calls
pub walked_as : {a b : Result Walked Refusal × List ℕ} {r : Result Walked Refusal} {M : List ℕ} → a ≡ b → WalkedBy a r M → WalkedBy b r M
walked_as {r = r} {M} e w = subst (λ (x : Result Walked Refusal × List ℕ). WalkedBy x r M) e w

-- what a refusal before the code is looked at, or the code's own answer, promises
pub promise_unless : (s : Source) (c : Check) (M : List ℕ) {r : Result Walked Refusal} {M' : List ℕ} → WalkedBy (guarded_on c Err M (walk_source s M)) r M' → Promise s r M'
promise_unless s c M {r} {M'} w = subst (λ (x : Result Walked Refusal). Promise s x M') (sym w.0) (subst (λ (x : List ℕ). Promise s (guarded_on c Err M (walk_source s M)).0 x) (sym w.1) (go c))
  where
    go : (c : Check) → let x = guarded_on c Err M (walk_source s M) in Promise s x.0 x.1
    go (Ok tt) = promised s M
    go (Err x) = tt
