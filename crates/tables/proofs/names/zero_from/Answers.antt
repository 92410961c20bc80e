use Rattle.std.proofs.Common.{◌≡◌, true, false, sym, ◌∙◌, arith, eq-eqb, ne_eqb}
use Rattle.tables.specs.Names.{is_zero}
use Rattle.laws.proofs.Scan.{first-here, first_next, first_end}
use Rattle.tables.proofs.names.zero_from.Goals as goal

pub returns-then-byte_at-eq0 : goal.returns-then-byte_at-eq0
returns-then-byte_at-eq0 c =
    let l = c.loop-i in
    let a = c.args in
    let h : is_zero a.s.now l.i ≡ true = eq-eqb _ _ (sym c.byte_at.ensures ∙ c.if-byte_at-eq0.true) in
    sym (l.invariant ∙ first-here (is_zero a.s.now) l.i a.to c.loop-i-test.true h)

pub loop-i-preserved : goal.loop-i-preserved
loop-i-preserved c =
    let l = c.loop-i in
    let a = c.args in
    let h : is_zero a.s.now l.i ≡ false = ne_eqb _ _ (λ e. c.if-byte_at-eq0.false (c.byte_at.ensures ∙ e)) in
    l.invariant ∙ first_next (is_zero a.s.now) l.i a.to c.loop-i-test.true h

pub returns : goal.returns
returns c =
    let l = c.loop-i in
    let e : l.i ≡ c.args.to = omega arith in
    sym (l.invariant ∙ first_end _ _ _ c.loop-i-test.false ∙ e)
