use Rattle.std.proofs.Common.{◌≡◌, true, false, sym, ◌∙◌, eq-eqb, ne_eqb}
use Rattle.laws.proofs.Scan.{first-here, first_next, first_end}
use Rattle.tables.specs.Records.{opcode_count, prefix_mark, is_marked}
use Rattle.tables.proofs.Laws.{marked-found, marked_none}
use Rattle.tables.proofs.records.prefix_op.Goals as goal

pub returns-then-byte_at-mark : goal.returns-then-byte_at-mark
returns-then-byte_at-mark c =
    let a = c.args in
    let l = c.loop-op in
    let h : is_marked (prefix_mark a.opcodes.now) a.mark l.op ≡ true = eq-eqb _ _ (sym c.byte_at.ensures ∙ c.if-byte_at-mark.true) in
    marked-found (opcode_count a.opcodes.now) (prefix_mark a.opcodes.now) a.mark l.op _ l.invariant.0 c.loop-op-test.true
    (l.invariant.1 ∙ first-here (is_marked (prefix_mark a.opcodes.now) a.mark) l.op _ c.loop-op-test.true h)

pub loop-op-preserved : goal.loop-op-preserved
loop-op-preserved c =
    let a = c.args in
    let l = c.loop-op in
    let h : is_marked (prefix_mark a.opcodes.now) a.mark l.op ≡ false = ne_eqb _ _ (λ e. c.if-byte_at-mark.false (c.byte_at.ensures ∙ e)) in
    (l.invariant.0, l.invariant.1 ∙ first_next (is_marked (prefix_mark a.opcodes.now) a.mark) l.op _ c.loop-op-test.true h)

pub returns : goal.returns
returns c =
    let a = c.args in
    let l = c.loop-op in
    marked_none (opcode_count a.opcodes.now) (prefix_mark a.opcodes.now) a.mark _ l.invariant.0 l.op c.loop-op-test.false (l.invariant.1 ∙ first_end _ _ _ c.loop-op-test.false)
