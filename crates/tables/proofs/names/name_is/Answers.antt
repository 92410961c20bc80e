use Rattle.std.proofs.Common.{◌≡◌, ℕ, ◌+◌, ◌-◌, ap, ◌∙◌, arith}
use Rattle.tables.specs.Names.{is_named}
use Rattle.tables.proofs.Rows.{named_past}
use Rattle.tables.proofs.Fields.{part_named}
use Rattle.tables.proofs.names.name_is.Goals as goal

pub returns-then-s-at : goal.returns-then-s-at
returns-then-s-at c =
    let a = c.args in
    c.field_is.ensures ∙ named_past a.s.now a.at a.w a.name.now c.if-s-at.true

pub returns : goal.returns
returns c =
    let a = c.args in
    let n : a.at + a.w - a.at ≡ a.w = omega arith in
    c.same_bytes.ensures ∙ part_named a.s.now a.at (a.at + a.w) (omega arith) a.name.now ∙ ap (λ (k : ℕ). is_named a.s.now a.at k a.name.now) n
