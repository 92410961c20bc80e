use Rattle.std.proofs.Common.{ℕ, ◌/◌, not, length, sym, ap, ◌∙◌, le-ltb}
use Rattle.laws.proofs.Scan.{first-here, first_next, first_end}
use Rattle.refusal.specs.Check.{at_record}
use Rattle.tables.specs.Names.{bad_name}
use Rattle.tables.proofs.names.check_names.Goals as goal
use Rattle.refusal.specs.declared.Fault.TheVariants as fault

pub returns-then-not-name_ok : goal.returns-then-not-name_ok
returns-then-not-name_ok c =
    let a = c.args in
    let l = c.loop-i in
    let n = length a.s.now / a.size in
    let h = first-here (bad_name a.s.now a.size a.w) l.i n c.loop-i-test.true (ap not (sym c.name_ok.ensures ∙ c.if-not-name_ok.true)) in
    c.at_record.ensures ∙ ap (λ (k : ℕ). at_record fault.BadName k n) (sym (l.invariant ∙ h))

pub loop-i-preserved : goal.loop-i-preserved
loop-i-preserved c =
    let a = c.args in
    let l = c.loop-i in
    let n = length a.s.now / a.size in
    l.invariant ∙ first_next (bad_name a.s.now a.size a.w) l.i n c.loop-i-test.true (ap not (sym c.name_ok.ensures ∙ c.if-not-name_ok.false))

pub returns : goal.returns
returns c = rw (c.loop-i.invariant ∙ first_end _ _ _ c.loop-i-test.false, le-ltb _ _ c.loop-i-test.false)
