use Rattle.std.proofs.Common.{◌+◌, ◌∙◌, arith}
use Rattle.tables.proofs.Fields.{passed_none, passed_bad, passed_more, passed_all, part_word}
use Rattle.tables.proofs.records.codes_fit.Goals as goal

pub loop-k-init : goal.loop-k-init
loop-k-init c =
    let b = c in
    let a = b.args in
    passed_none a.s.now a.at a.count a.known c.u64_at-rest.result (c.u64_at-rest.ensures ∙ part_word a.s.now a.at (a.at + 8) b.requires.0 8 (omega arith))

pub returns-then-known-rest : goal.returns-then-known-rest
returns-then-known-rest c =
    let l = c.loop-k in
    let b = c in
    let a = b.args in
    passed_bad a.s.now b.type_inv.s a.at a.count a.known l.k l.rest b.requires.1 l.invariant c.loop-k-test.true c.if-known-rest.true

pub loop-k-preserved : goal.loop-k-preserved
loop-k-preserved c =
    let l = c.loop-k in
    let b = c in
    let a = b.args in
    passed_more a.s.now b.type_inv.s a.at a.count a.known l.k l.rest b.requires.1 l.invariant c.loop-k-test.true c.if-known-rest.false

pub returns : goal.returns
returns c =
    let l = c.loop-k in
    let b = c in
    let a = b.args in
    passed_all a.s.now b.type_inv.s a.at a.count a.known l.k l.rest b.requires.1 l.invariant c.loop-k-test.false
