use mathlib.Core.Path.{◌∙◌}
use native.Mathlib.Omega.{arith}
use borrow.Author.Rules.{sfits_of}
use borrow.Author.Tests.{eq-eqb, ne_eqb}
use mir.Facts.{to_z-of_z}
use mir.Syntax.{w32}
use Rattle.text.proofs.Put.{then}
use Rattle.bytecode.specs.Texts.{list_name}
use Rattle.bytecode.proofs.list_name.Goals as goal

pub returns-then-count-eq0 : goal.returns-then-count-eq0
unfolding list_name
returns-then-count-eq0 c =
    let h = c.well_formed in
    let r = simp (to_z-of_z c.ranges.params) at c.reg_name-p.ensures in
    let q = simp (to_z-of_z c.ranges.params) at c.reg_name.ensures in
    rw (eq-eqb _ _ c.if-count-eq0.true) (then (omega (arith, h)) (then (omega (arith, h)) r c.put_byte-p.ensures) q)

pub returns : goal.returns
unfolding list_name
returns c =
    let h = c.well_formed in
    let last = to_z-of_z {w = w32} {z = c.list_last-last.result} (sfits_of {w = w32} c.list_last-last.type_inv) ∙ simp (to_z-of_z c.ranges.first) at c.list_last-last.ensures in
    let r = simp (to_z-of_z c.ranges.params, to_z-of_z c.ranges.first) at c.reg_name-p-2.ensures in
    let q = simp (to_z-of_z c.ranges.params, last) at c.reg_name-2.ensures in
    rw (ne_eqb _ _ c.if-count-eq0.false) (then (omega (arith, h)) (then (omega (arith, h)) r c.put_byte-p-2.ensures) q)
