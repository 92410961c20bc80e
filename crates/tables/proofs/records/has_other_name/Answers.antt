use Rattle.std.proofs.Common.{◌≡◌, sym, ◌∙◌, arith, eq-eqb, ne_eqb}
use Rattle.laws.specs.Scan.{first_from}
use Rattle.laws.proofs.Scan.{first-here, first_next, first_end}
use Rattle.tables.specs.Records.{fixed_types, has_type_name}
use Rattle.tables.proofs.records.has_other_name.Goals as goal

pub returns-then-has_type_name : goal.returns-then-has_type_name
returns-then-has_type_name c =
    let a = c.args in
    let l = c.loop-k in
    let f : first_from (has_type_name a.types.now a.at) 0 fixed_types ≡ l.k = l.invariant ∙ first-here (has_type_name a.types.now a.at) l.k fixed_types c.loop-k-test.true (sym c.has_type_name.ensures ∙ c.if-has_type_name.true) in
    sym (ne_eqb _ _ (λ e. let z : l.k ≡ fixed_types = sym f ∙ e in omega arith))

pub loop-k-preserved : goal.loop-k-preserved
loop-k-preserved c =
    let a = c.args in
    let l = c.loop-k in
    l.invariant ∙ first_next (has_type_name a.types.now a.at) l.k fixed_types c.loop-k-test.true (sym c.has_type_name.ensures ∙ c.if-has_type_name.false)

pub returns : goal.returns
returns c =
    let l = c.loop-k in
    let e : l.k ≡ fixed_types = omega arith in
    sym (eq-eqb _ _ (l.invariant ∙ first_end _ _ _ c.loop-k-test.false ∙ e))
