use Prim.Native.Nat.{ℕ}
use mathlib.Core.Path.{ap, ◌∙◌}
use mathlib.Core.Logic.{⊎_elim}
use Rattle.std.specs.Prelude.{Option, Result, Ok}
use Rattle.targets.specs.declared.Entries.{Entries}
use Rattle.flow.specs.declared.Kind.TheVariants.{On, Ends, Jumps, Branches, JumpsBack, Switch}
use Rattle.targets.specs.Targets.{found, jump_table}
use Rattle.targets.specs.mirror.Search.{pool_searched}
use Rattle.steps.specs.declared.Kept.{Kept}
use Rattle.steps.specs.mirror.Keeping.{kept_table}
use Rattle.steps.proofs.Laws.{kept_by_lem}
use Rattle.steps.proofs.kept_of.Goals as goal
use Rattle.targets.specs.declared.BadSwitch.{BadSwitch}

pub returns-in-On : goal.returns-in-On
returns-in-On c = λ b. ap (λ (k : Kept). Ok k) c.kept_on.ensures ∙ kept_by_lem _ _ _ _ _ On c.in-On.is

pub returns-in-Ends : goal.returns-in-Ends
returns-in-Ends c = λ b. ap (λ (k : Kept). Ok k) c.kept_end.ensures ∙ kept_by_lem _ _ _ _ _ Ends c.in-Ends.is

pub returns-in-Jumps : goal.returns-in-Jumps
returns-in-Jumps c = λ b.
    let a = c.args in
    let lem = kept_by_lem (pool_searched a.slots.now a.payload.now a.ts a.pool) (found a.pool) a.flow a.instr a.size in
    ap (λ (k : Kept). Ok k) (c.kept_jump.ensures b) ∙ ⊎_elim (lem Jumps) (lem JumpsBack) c.in-Jumps.is

pub returns-in-Branches : goal.returns-in-Branches
returns-in-Branches c = λ b. ap (λ (k : Kept). Ok k) (c.kept_jump-in-Branches.ensures b) ∙ kept_by_lem _ _ _ _ _ Branches c.in-Branches.is

pub returns-in-Switch : goal.returns-in-Switch
returns-in-Switch c = λ b.
    let a = c.args in
    c.kept_table.ensures ∙ ap (λ (t : Result (Option Entries) BadSwitch). kept_table t c.prefix_of.result a.size) c.jump_table_unchecked.ensures
    ∙ ap (λ (p : ℕ). kept_table (jump_table (found a.pool) a.flow a.instr) p a.size) c.prefix_of.ensures ∙ kept_by_lem _ _ _ _ _ Switch c.in-Switch.is
