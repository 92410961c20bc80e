use mathlib.Core.Path.{◌≡◌, sym, ap, ◌∙◌}
use mir.Facts.{to_z-of_z}
use mir.Syntax.{w32}
use mir.Val.{SFits}
use borrow.Author.Rules.{rules}
use Rattle.std.specs.Prelude.{Option, None, Ok}
use Rattle.laws.proofs.Tests.{clash}
use Rattle.decoder.specs.declared.Instr.{Instr}
use Rattle.decoder.specs.Decode.{Decoded, instr_in}
use Rattle.targets.specs.Targets.{found, jump_table}
use Rattle.disasm.proofs.Laws.{no_table, not_switch, no_instr}
use Rattle.disasm.proofs.table_at.Goals as goal
use Rattle.disasm.proofs.table_at.Goals.{in-Switch, in_default}

pub returns-then-not-matches : goal.returns-then-not-matches
returns-then-not-matches c =
    elim c.match-matches.branch [
      | in-Switch w ↦ clash w.matches-is c.if-not-matches.true
      | in_default w ↦ no_table _ _ _ (not_switch _ w.in_default.not-Switch)
    ]

pub returns-in_default-decode_at : goal.returns-in_default-decode_at
returns-in_default-decode_at c =
    let a = c.args in
    let f : SFits w32 a.f.frame.reg_file_start = search rules in
    let none : c.in_default-decode_at.field-0 ≡ None = search rules in
    let e = sym (simp (to_z-of_z f) at c.decode_at.ensures) ∙ c.in_default-decode_at.is ∙ ap (λ (o : Option Instr). Ok o) none in
    no_instr (found a.f.pool) a.flow ∙ sym (ap (λ (d : Decoded). jump_table (found a.f.pool) a.flow (instr_in d)) e)

pub returns-in_default-decode_at-2 : goal.returns-in_default-decode_at-2
returns-in_default-decode_at-2 c =
    let a = c.args in
    let f : SFits w32 a.f.frame.reg_file_start = search rules in
    let e = sym (simp (to_z-of_z f) at c.decode_at.ensures) ∙ c.in_default-decode_at.is in
    no_instr (found a.f.pool) a.flow ∙ sym (ap (λ (d : Decoded). jump_table (found a.f.pool) a.flow (instr_in d)) e)
