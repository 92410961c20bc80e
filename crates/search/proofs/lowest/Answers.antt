use Prim.Native.Nat.{ℕ, ◌+◌}
use Rattle.std.specs.Prelude.{Option}
use mathlib.Core.Path.{◌≡◌, refl, sym, ◌∙◌, subst}
use native.Mathlib.Omega.{arith}
use Rattle.graph.specs.mirror.Queue.{Lowest}
use Rattle.graph.proofs.Scan.{lowest_found, lowest_passed}
use Rattle.search.specs.mirror.Kept.{graph_by}
use Rattle.search.proofs.lowest.Goals as goal
use Rattle.search.proofs.lowest.Goals.{then-exits, else-exits}

pub loop-i-init : goal.loop-i-init
loop-i-init c = λ i l u. absurd (omega arith)

pub loop-i-preserved : goal.loop-i-preserved
loop-i-preserved c =
    let i = c.loop-i in
    let a = c.args in
    let g = graph_by a.slots.now a.payload.now a.e.ts a.e.pool a.heads.now a.words.now a.catches.now in
    elim c.if-exits.branch [
      | then-exits w ↦ lowest_found g a.queue.now a.lo i.i i.f c.if-exits.f _ refl i.auto.i (sym c.exits.ensures ∙ w.if-exits.true) (w.f-is ∙ w.lower-f.ensures) i.invariant
      | else-exits w ↦ subst (λ (f : Option ℕ). Lowest g a.queue.now a.lo (i.i + 1) f) (sym w.f-is) (lowest_passed g a.queue.now a.lo i.i i.f _ refl (sym c.exits.ensures ∙ w.if-exits.false) i.invariant)
    ]

pub returns : goal.returns
returns c =
    let i = c.loop-i in
    let a = c.args in
    let g = graph_by a.slots.now a.payload.now a.e.ts a.e.pool a.heads.now a.words.now a.catches.now in
    let e : i.i ≡ a.hi = omega arith in
    subst (λ (k : ℕ). Lowest g a.queue.now a.lo k i.f) e i.invariant
