use Rattle.std.proofs.Common.{◌≡◌, not, sym, ap, ◌∙◌, arith, eq-eqb, ne_eqb}
use Rattle.laws.specs.Scan.{first_from}
use Rattle.laws.proofs.Scan.{first-here, first_next, first_end}
use Rattle.tables.specs.Names.{differs, is_named}
use Rattle.tables.proofs.names.field_is.Goals as goal

pub returns-then-byte_at : goal.returns-then-byte_at
unfolding is_named
returns-then-byte_at c =
    let l = c.loop-i in
    let a = c.args in
    let d = ap not (ne_eqb _ _ (λ e. c.if-byte_at.true (c.byte_at.ensures ∙ e ∙ sym c.byte_at-in-loop-i.ensures))) in
    let f : first_from (differs a.s.now a.at a.name.now) 0 a.w ≡ l.i = l.invariant ∙ first-here (differs a.s.now a.at a.name.now) l.i a.w c.loop-i-test.true d in
    sym (ne_eqb _ _ (λ e. let z : l.i ≡ a.w = sym f ∙ e in omega arith))

pub loop-i-preserved : goal.loop-i-preserved
loop-i-preserved c =
    let l = c.loop-i in
    let a = c.args in
    let d = ap not (eq-eqb _ _ (sym c.byte_at.ensures ∙ c.if-byte_at.false ∙ c.byte_at-in-loop-i.ensures)) in
    l.invariant ∙ first_next (differs a.s.now a.at a.name.now) l.i a.w c.loop-i-test.true d

pub returns : goal.returns
unfolding is_named
returns c =
    let l = c.loop-i in
    let e : l.i ≡ c.args.w = omega arith in
    sym (eq-eqb _ _ (l.invariant ∙ first_end _ _ _ c.loop-i-test.false ∙ e))
