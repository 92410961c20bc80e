use Rattle.std.proofs.Common.{◌≡◌, ℕ, ◌-◌, min, eqb, [], length, sym, ap, ◌∙◌, arith}
use Rattle.words.specs.Le.{le_at}
use Rattle.words.proofs.Le.{le_at_past}
use Rattle.tables.proofs.Rows.{word_differs, word_agrees, word_last}
use Rattle.tables.proofs.Fields.{no_bytes}
use Rattle.tables.proofs.names.all_zero.Goals as goal

-- a word of zeros, as one of the empty name
none : (i w : ℕ) → le_at [] i w ≡ 0
none i w = le_at_past [] i w (omega arith)

pub returns-then-n-lt8 : goal.returns-then-n-lt8
returns-then-n-lt8 c =
    let f = c.args.field.now in
    let n : min (length f) 8 ≡ length f = omega arith in
    ap (λ (v : ℕ). eqb v 0) (c.le_at.ensures ∙ ap (λ (w : ℕ). le_at f 0 w) n) ∙ ap (λ (v : ℕ). eqb (le_at f 0 (length f)) v) (sym (none 0 (length f)))
    ∙ word_last f [] c.type_inv.field no_bytes (length f) 0 0 (length f) (λ k l. absurd (omega arith)) (omega arith) (omega arith)

pub returns-then-u64_at-ne0 : goal.returns-then-u64_at-ne0
returns-then-u64_at-ne0 c =
    let f = c.args.field.now in
    let l = c.loop-i in
    word_differs f [] (length f) l.i 8 (omega arith) (λ z. c.if-u64_at-ne0.true (c.u64_at.ensures ∙ z ∙ none l.i 8))

pub loop-i-preserved : goal.loop-i-preserved
loop-i-preserved c =
    let l = c.loop-i in
    let b = c in
    (omega arith, word_agrees b.args.field.now [] b.type_inv.field no_bytes l.i l.invariant.1 (sym c.u64_at.ensures ∙ c.if-u64_at-ne0.false ∙ sym (none l.i 8)))

pub returns : goal.returns
returns c =
    let f = c.args.field.now in
    let l = c.loop-i in
    ap (λ (v : ℕ). eqb v 0) c.u64_at-2.ensures ∙ ap (λ (v : ℕ). eqb (le_at f (length f - 8) 8) v) (sym (none (length f - 8) 8))
    ∙ word_last f [] c.type_inv.field no_bytes (length f) l.i (length f - 8) 8 l.invariant.1 (omega arith) (omega arith)
