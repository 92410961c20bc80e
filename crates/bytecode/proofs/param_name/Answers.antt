use native.Mathlib.Omega.{arith}
use lib.IntN.{pos}
use mir.Syntax.{w32}
use mir.Val.{SFits}
use Rattle.words.proofs.Signs.{sub_wraps}
use Rattle.text.proofs.Put.{then}
use Rattle.bytecode.specs.Texts.{param_name}
use Rattle.bytecode.proofs.Tests.{differ}
use Rattle.bytecode.proofs.param_name.Goals as goal

pub returns : goal.returns
unfolding param_name
returns c =
    let none : SFits w32 (pos 0) = record { sfits = omega arith } in
    let one : SFits w32 (pos 1) = record { sfits = omega arith } in
    rw (differ c.args.p (pos 0) c.ranges.p none c.if-p-eq0.false, ← sub_wraps c.args.p (pos 1) c.ranges.p one)
    (then (omega (arith, c.well_formed)) c.put_byte-q.ensures c.put_signed32.ensures)
