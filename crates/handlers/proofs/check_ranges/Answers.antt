use Prim.Native.Nat.{ℕ}
use mathlib.Core.Bool.{not}
use mathlib.Core.Path.{sym, ap, ◌∙◌}
use native.Mathlib.Nat.{sub-zero}
use borrow.Author.Tests.{le-ltb}
use Rattle.laws.proofs.Scan.{first-here, first_next, first_end}
use Rattle.refusal.specs.Check.{at_record}
use Rattle.handlers.specs.Handlers.{bad_handler, handler_count}
use Rattle.handlers.proofs.check_ranges.Goals as goal
use Rattle.refusal.specs.declared.Fault.TheVariants as fault

pub loop-i-init : goal.loop-i-init
loop-i-init c = rw sub-zero

pub returns-then-not-is_range : goal.returns-then-not-is_range
returns-then-not-is_range c =
    let a = c.args in
    let l = c.loop-i in
    let n = handler_count a.handlers.now in
    let h = first-here (bad_handler a.handlers.now a.len) l.i n c.loop-i-test.true (sym c.is_range.ensures ∙ ap not c.if-not-is_range.true) in
    c.at_record.ensures ∙ ap (λ (k : ℕ). at_record fault.BadHandler k n) (sym (l.invariant ∙ h))

pub loop-i-preserved : goal.loop-i-preserved
loop-i-preserved c =
    let a = c.args in
    let l = c.loop-i in
    l.invariant ∙ first_next (bad_handler a.handlers.now a.len) l.i (handler_count a.handlers.now) c.loop-i-test.true (sym c.is_range.ensures ∙ ap not c.if-not-is_range.false)

pub returns : goal.returns
returns c = let l = c.loop-i in rw (l.invariant ∙ first_end _ _ _ c.loop-i-test.false, le-ltb _ _ c.loop-i-test.false)
