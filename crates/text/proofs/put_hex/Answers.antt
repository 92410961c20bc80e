use mathlib.Core.List.{append_assoc}
use mathlib.Core.Path.{refl, sym}
use native.Mathlib.Omega.{arith}
use lib.Seq.{take_all}
use Rattle.text.specs.Put.{Put}
use Rattle.text.specs.Texts.{hex_bytes}
use Rattle.text.proofs.Put.{beyond, kept, then}
use Rattle.text.proofs.Texts.{hex_bytes_none, hex_bytes_one, hex_bytes_more, hex_bytes-length}
use Rattle.text.proofs.put_hex.Goals as goal

pub returns-then-n-eq0 : goal.returns-then-n-eq0
returns-then-n-eq0 c = rw (hex_bytes_none c.args.s.now (omega arith)) (record { text = refl; end = c.saturating_add.ensures })

pub returns-then-out-at : goal.returns-then-out-at
returns-then-out-at c = let a = c.args in
    let e = hex_bytes-length a.s.now (omega arith) in
    beyond a.out.now (hex_bytes a.s.now) (omega arith) (omega (arith, e, c.saturating_add-then-out-at-3.ensures, c.saturating_add-then-out-at-2.ensures, c.saturating_add-then-out-at.ensures))

pub loop-i-init : goal.loop-i-init
loop-i-init c = λ o l a. a

pub loop-i-preserved : goal.loop-i-preserved
loop-i-preserved c =
    let b = c in
    let l = b in
    let s = l.args.s.now in
    λ o h a.
    rw (hex_bytes_more s l.loop-i.i (omega arith) (omega arith))
    (rw append_assoc at (then h (then h (l.loop-i.invariant o h a) b.put_byte-p.ensures) c.put_hex_byte-p-in-loop-i.ensures))

written : (c : goal.After-loop-i) → let a = c.args in
    Put a.out.now a.at (hex_bytes a.s.now) c.loop-i.out c.loop-i.p
written c =
    let l = c in
    let f = l in
    let a = f.args in
    rw (sym (take_all l.loop-i.i a.s.now (omega arith)))
    (l.loop-i.invariant a.out.now (omega arith) (rw (hex_bytes_one a.s.now (omega arith)) f.put_hex_byte-p.ensures))

pub shape_of-out : goal.shape_of-out
shape_of-out c = kept (written c)

pub returns : goal.returns
returns c = written c
