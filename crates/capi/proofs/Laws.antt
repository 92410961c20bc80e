-- Laws of the numbers that C is told. Assumes nothing.
use Prim.Native.Nat.{ℕ}
use mathlib.Core.Path.{◌≡◌, refl, sym, ap, subst, ◌∙◌}
use mathlib.Core.List.{List}
use native.Mathlib.Omega.{arith}
use Rattle.std.specs.Prelude.{Option, Result, Ok, Err}
use Rattle.refusal.specs.Refusal.{Refusal}
use Rattle.search.specs.declared.Walked.{Walked}
use Rattle.search.specs.declared.Walked.TheVariants as walked
use Rattle.function.specs.Files.{Files}
use Rattle.steps.specs.Steps.{Source}
use Rattle.walk.specs.Walk.{WalkedAs, Promise, Given, lent_with, walk_lent_with}
use Rattle.walk.proofs.Numbers.{walked_numbers_one}
use Rattle.walk.proofs.Rows.{WalkedRow}
use Rattle.capi.specs.Told.{walk_numbers, walk_told, WalkPromise}

-- ---- a walk check's answer
promise_told : (s : Source) (M : List ℕ) (w : Result Walked Refusal) → Promise s w M → WalkedRow w → let n = walk_numbers w in WalkPromise s M n.0 n.1 n.2
promise_told s M (Ok walked.Closed) p row = record { closed = λ e. p; leaves = λ e. absurd (omega (arith, e)); refused = λ a b. absurd (a refl) }
promise_told s M (Ok (walked.Leaves n o)) p row = record { closed = λ e. absurd (omega (arith, e)); leaves = λ e. p; refused = λ a b. absurd (b refl) }
promise_told s M (Err r) p row = record {
  closed = λ e. absurd (omega (arith, e, row.least));
  leaves = λ e. absurd (omega (arith, e, row.most));
  refused = λ a b. row.most;
}

-- an answer w and marks that are those of a call, as they are told
pub walk_told_lem : (s : Source) (w : Result Walked Refusal) (a : Result Walked Refusal × List ℕ) (M : List ℕ) → WalkedAs a w M × Promise s w M → WalkedRow a.0 → {r steps place : ℕ} → (r, steps, place) ≡ walk_numbers w
    → ((r, steps, place, M) ≡ walk_told a) × WalkPromise s M r steps place
walk_told_lem s w a M x row e =
    let same = walked_numbers_one w a.0 x.0.0 in (
      ap (λ (t : ℕ × ℕ × ℕ). (t.0, t.1, t.2, M)) e ∙ ap (λ (v : Result Walked Refusal). walk_told (v, M)) same ∙ ap (λ (m : List ℕ). walk_told (a.0, m)) x.0.1,
      subst (λ (t : ℕ × ℕ × ℕ). WalkPromise s M t.0 t.1 t.2) (sym e) (promise_told s M w x.1 (subst (WalkedRow) (sym same) row)),
    )

-- the same on lent code, with the object p that was made of a flag and a number
pub lent_told : (f : Files) (g : Given) (code marks : List ℕ) (p q : Option ℕ) → p ≡ q → WalkedRow (walk_lent_with f g q code marks).0 → (w : Result Walked Refusal) (M : List ℕ)
    → WalkedAs (walk_lent_with f g p code marks) w M × Promise (lent_with f g p code) w M
    → {r steps place : ℕ} → (r, steps, place) ≡ walk_numbers w → ((r, steps, place, M) ≡ walk_told (walk_lent_with f g q code marks)) × WalkPromise (lent_with f g q code) M r steps place
lent_told f g code marks p q e row w M x =
    walk_told_lem (lent_with f g q code) w (walk_lent_with f g q code marks) M (subst (λ (o : Option ℕ). WalkedAs (walk_lent_with f g o code marks) w M × Promise (lent_with f g o code) w M) e x) row
