use Prim.Native.Nat.{◌-◌, ◌+◌}
use mathlib.Core.Path.{refl, ap, ◌∙◌}
use native.Mathlib.Omega.{arith}
use native.Mathlib.Nat.{sub-zero}
use Rattle.targets.specs.Targets.{entry_at}
use Rattle.lines.specs.mirror.View.{elems_of}
use Rattle.lines.specs.Line.{entries_from, entry_text, shown_after}
use Rattle.text.proofs.PutUpTo.{up_to_none, up_to_more, up_to_all}
use Rattle.lines.proofs.Laws.{entries_next, entries_end}
use Rattle.lines.proofs.put_entries.Goals as goal

pub loop-k-init : goal.loop-k-init
loop-k-init c = (refl, λ b. rw sub-zero (up_to_none c.args.out.now c.args.at _ c.saturating_add-p.ensures))

pub loop-k-preserved : goal.loop-k-preserved
loop-k-preserved c =
    let a = c.args in
    let l = c.loop-k in
    let n = a.e.count in
    let el = elems_of a.slots.now a.payload.now a.f in
    let j = c.jump_entry_in-entry.ensures in (
      c.put_entry-p.auto.out ∙ l.invariant.0,
      λ b.
          rw (c.shown_after-shown.ensures ∙ ap (shown_after l.shown) (j b)) (up_to_more (entry_text l.shown (entry_at el a.here a.e l.k)) (entries_from el a.here a.e (shown_after l.shown (entry_at el a.here a.e l.k)) (l.k + 1) (n - (l.k + 1)))
          (omega (arith, c.well_formed)) (entries_next el a.here a.e l.shown n l.k (omega arith)) (l.invariant.1 b) (rw (j b) at c.put_entry-p.ensures)),
    )

pub shape_of-out : goal.shape_of-out
shape_of-out c = c.loop-k.invariant.0

pub returns : goal.returns
returns c = λ b.
    let a = c.args in
    let l = c.loop-k in
    let el = elems_of a.slots.now a.payload.now a.f in
    up_to_all (entries_end el a.here a.e l.shown a.e.count l.k (omega arith)) (l.invariant.1 b)
