use Rattle.std.proofs.Common.{sym, ◌∙◌, eq-eqb, ne_eqb}
use Rattle.tables.specs.Records.{width}
use Rattle.tables.proofs.records.type_width.Goals as goal

pub returns-then-byte_at-ne1 : goal.returns-then-byte_at-ne1
unfolding width
returns-then-byte_at-ne1 c = c.min.ensures ∙ sym (rw (ne_eqb _ _ (λ e. c.if-byte_at-ne1.true (c.byte_at.ensures ∙ e))))

pub returns-then-byte_at-eq1 : goal.returns-then-byte_at-eq1
unfolding width
returns-then-byte_at-eq1 c = rw (eq-eqb _ _ (sym c.byte_at.ensures ∙ c.if-byte_at-ne1.false), eq-eqb _ _ (sym c.byte_at-2.ensures ∙ c.if-byte_at-eq1.true), ← c.byte_at-size.ensures) c.min-then-byte_at-eq1.ensures

pub returns-else-byte_at-eq1 : goal.returns-else-byte_at-eq1
unfolding width
returns-else-byte_at-eq1 c = rw (eq-eqb _ _ (sym c.byte_at.ensures ∙ c.if-byte_at-ne1.false), ne_eqb _ _ (λ e. c.if-byte_at-eq1.false (c.byte_at-2.ensures ∙ e)), ← c.byte_at-size.ensures) c.min-else-byte_at-eq1.ensures
