use mathlib.Core.Path.{◌≡◌, refl, sym, ap, ◌∙◌}
use mathlib.Core.Bool.{Bool}
use Prim.Native.Nat.{ℕ}
use mathlib.Core.List.{List}
use native.Mathlib.Omega.{arith}
use Rattle.std.specs.Prelude.{Option}
use Rattle.serializer.specs.declared.Elem.{Elem}
use Rattle.graph.specs.Lists.{any}
use Rattle.targets.specs.Targets.{smi_of, target_from}
use Rattle.targets.specs.mirror.Search.{pool_searched}
use Rattle.search.specs.mirror.Kept.{count_of, shown, off_heads}
use Rattle.search.proofs.Laws.{entry, entries_start, entries_past, entries_one, entries_read}
use Rattle.search.proofs.table_leaves.Goals as goal

-- whether the entry that the loop stands at leaves
leaves : (heads : List ℕ) (el : ℕ → Option Elem) (at n : ℕ) {t : Option ℕ} {b : Bool} → t ≡ target_from at (smi_of (el n)) → b ≡ any (off_heads heads) (shown t)
    → any (off_heads heads) (entry el at n) ≡ b
leaves heads el at n e f = ap (λ x. any (off_heads heads) (shown x)) (sym e) ∙ sym f

pub loop-k-init : goal.loop-k-init
loop-k-init c = entries_start _ _ _ _

pub returns-then-off_target : goal.returns-then-off_target
returns-then-off_target c =
    let a = c.args in
    let el = pool_searched a.slots.now a.payload.now a.e.ts a.e.pool in
    sym (sym (ap (any (off_heads a.heads.now)) (entries_read el c.here_of-at.ensures c.number_at-first.ensures refl)) ∙ entries_one _ _ _ _ c.loop-k.k _ c.loop-k-test.true (leaves a.heads.now el _ _ c.entry_target-target.ensures c.off_target.ensures ∙ c.if-off_target.true))

pub loop-k-preserved : goal.loop-k-preserved
loop-k-preserved c =
    let a = c.args in
    let el = pool_searched a.slots.now a.payload.now a.e.ts a.e.pool in
    entries_past _ _ _ _ c.loop-k.k c.loop-k.invariant (leaves a.heads.now el _ _ c.entry_target-target.ensures c.off_target.ensures ∙ c.if-off_target.false)

pub returns : goal.returns
returns c =
    let a = c.args in
    let el = pool_searched a.slots.now a.payload.now a.e.ts a.e.pool in
    let e : c.loop-k.k ≡ count_of c.args.h = omega arith in
    sym (sym (ap (any (off_heads a.heads.now)) (entries_read el c.here_of-at.ensures c.number_at-first.ensures e)) ∙ c.loop-k.invariant)
