use mathlib.Core.Path.{◌∙◌}
use native.Mathlib.Omega.{arith}
use borrow.Author.Rules.{sfits_of, rules}
use mir.Facts.{to_z-of_z}
use mir.Syntax.{w32}
use mir.Val.{SFits}
use Rattle.text.proofs.Put.{then}
use Rattle.bytecode.specs.Texts.{reg_name}
use Rattle.bytecode.proofs.Tests.{differ, sign_is}
use Rattle.bytecode.proofs.reg_name.Goals as goal

pub returns-then-index-lt0 : goal.returns-then-index-lt0
unfolding reg_name
returns-then-index-lt0 c =
    let context : SFits w32 c.args.frame.context = search rules in
    let closure : SFits w32 c.args.frame.closure = search rules in
    let first : SFits w32 c.args.frame.first_param = search rules in
    let i = c.ranges.index in
    let p = to_z-of_z {w = w32} {z = c.parameter_index-p.result} (sfits_of {w = w32} c.parameter_index-p.type_inv) ∙ simp (to_z-of_z first, to_z-of_z c.ranges.params, to_z-of_z i) at c.parameter_index-p.ensures in
    rw (differ c.args.index c.args.frame.context i context c.if-index-frame.false, differ c.args.index c.args.frame.closure i closure c.if-index-frame-2.false, sign_is c.args.index i c.if-index-lt0.true, ← p)
    c.param_name.ensures

pub returns : goal.returns
unfolding reg_name
returns c =
    let context : SFits w32 c.args.frame.context = search rules in
    let closure : SFits w32 c.args.frame.closure = search rules in
    let i = c.ranges.index in
    rw (differ c.args.index c.args.frame.context i context c.if-index-frame.false, differ c.args.index c.args.frame.closure i closure c.if-index-frame-2.false, sign_is c.args.index i c.if-index-lt0.false)
    (then (omega (arith, c.well_formed)) c.put_byte-p.ensures (simp (to_z-of_z i) at c.put_signed32.ensures))
