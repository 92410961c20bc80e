use Rattle.std.proofs.Common.{◌≡◌, ℕ, true, false, not, sym, ap, ◌∙◌, arith}
use Rattle.tables.specs.Names.{is_name, not_name}
use Rattle.laws.proofs.Scan.{first-here, first_next, first_end}
use Rattle.tables.proofs.names.name_end.Goals as goal

pub returns-then-not-is_name : goal.returns-then-not-is_name
returns-then-not-is_name c =
    let l = c.loop-i in
    let a = c.args in
    let h : not_name a.s.now l.i ≡ true = ap (λ (b : ℕ). not (is_name b)) (sym c.byte_at.ensures) ∙ ap not (sym c.is_name.ensures ∙ c.if-not-is_name.true) in
    sym (l.invariant ∙ first-here (not_name a.s.now) l.i a.to c.loop-i-test.true h)

pub loop-i-preserved : goal.loop-i-preserved
loop-i-preserved c =
    let l = c.loop-i in
    let a = c.args in
    let h : not_name a.s.now l.i ≡ false = ap (λ (b : ℕ). not (is_name b)) (sym c.byte_at.ensures) ∙ ap not (sym c.is_name.ensures ∙ c.if-not-is_name.false) in
    l.invariant ∙ first_next (not_name a.s.now) l.i a.to c.loop-i-test.true h

pub returns : goal.returns
returns c =
    let l = c.loop-i in
    let e : l.i ≡ c.args.to = omega arith in
    sym (l.invariant ∙ first_end _ _ _ c.loop-i-test.false ∙ e)
