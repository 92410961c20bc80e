use Rattle.std.proofs.Common.{◌≡◌, ◌-◌, min, length, sym, ◌∙◌, arith}
use Rattle.tables.proofs.Rows.{word_differs, word_agrees, word_last}
use Rattle.tables.proofs.names.same_bytes.Goals as goal

pub returns-then-n-lt8 : goal.returns-then-n-lt8
returns-then-n-lt8 c =
    let d = c in
    let a = d.args.a.now in
    let b = d.args.b.now in
    let n : min (length a) 8 ≡ length a = omega arith in
    rw (c.le_at.ensures, c.le_at-then-n-lt8.ensures, n) (word_last a b d.type_inv.a d.type_inv.b (length a) 0 0 (length a) (λ k l. absurd (omega arith)) (omega arith) (omega arith))

pub returns-then-u64_at : goal.returns-then-u64_at
returns-then-u64_at c =
    let x = c.args in
    word_differs x.a.now x.b.now (length x.a.now) c.loop-i.i 8 (omega arith) (λ e. c.if-u64_at.true (c.u64_at.ensures ∙ e ∙ sym c.u64_at-in-loop-i.ensures))

pub loop-i-preserved : goal.loop-i-preserved
loop-i-preserved c =
    let l = c.loop-i in
    let d = c in
    let x = d.args in
    (omega arith, word_agrees x.a.now x.b.now d.type_inv.a d.type_inv.b l.i l.invariant.1 (sym c.u64_at.ensures ∙ c.if-u64_at.false ∙ c.u64_at-in-loop-i.ensures))

pub returns : goal.returns
returns c =
    let l = c.loop-i in
    let d = c in
    let a = d.args.a.now in
    let b = d.args.b.now in
    rw (c.u64_at-2.ensures, c.u64_at-3.ensures) (word_last a b d.type_inv.a d.type_inv.b (length a) l.i (length a - 8) 8 l.invariant.1 (omega arith) (omega arith))
