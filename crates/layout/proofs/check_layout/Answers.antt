use Prim.Native.Nat.{ℕ}
use mathlib.Core.Bool.{not}
use mathlib.Core.Path.{sym, ap, ◌∙◌}
use borrow.Author.Tests.{le-ltb}
use Rattle.laws.proofs.Scan.{first-here, first_next, first_end}
use Rattle.refusal.specs.Check.{at_record}
use Rattle.layout.specs.Layout.{bad_value, in_range, range_of}
use Rattle.layout.proofs.check_layout.Goals as goal
use Rattle.refusal.specs.declared.Fault.TheVariants as fault

pub returns-then-not-in_range : goal.returns-then-not-in_range
returns-then-not-in_range c =
    let a = c.args in
    let l = c.loop-k in
    let e = c.in_range.ensures ∙ ap (in_range (range_of l.k)) c.value.ensures in
    c.at_record.ensures ∙ ap (λ (k : ℕ). at_record fault.BadLayout k 20) (sym (l.invariant ∙ first-here (bad_value a.layout.now) l.k 20 c.loop-k-test.true (ap not (sym e ∙ c.if-not-in_range.true))))

pub loop-k-preserved : goal.loop-k-preserved
loop-k-preserved c =
    let a = c.args in
    let l = c.loop-k in
    let e = c.in_range.ensures ∙ ap (in_range (range_of l.k)) c.value.ensures in
    l.invariant ∙ first_next (bad_value a.layout.now) l.k 20 c.loop-k-test.true (ap not (sym e ∙ c.if-not-in_range.false))

pub returns : goal.returns
returns c =
    let l = c.loop-k in
    rw (l.invariant ∙ first_end _ _ _ c.loop-k-test.false, le-ltb l.k 20 c.loop-k-test.false)
