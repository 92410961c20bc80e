use mathlib.Core.Path.{ap, ◌∙◌}
use Rattle.std.specs.Prelude.{Ok}
use Rattle.flow.specs.declared.Kind.TheVariants.{On, Ends}
use Rattle.steps.specs.declared.Kept.{Kept}
use Rattle.steps.proofs.Laws.{kept_by_lem}
use Rattle.walk.proofs.keep_at.Goals as goal

pub returns-in-On : goal.returns-in-On
returns-in-On c = λ i e. ap (λ (k : Kept). Ok k) c.kept_on.ensures ∙ kept_by_lem _ _ _ _ _ On c.in-On.is

pub returns-in-Ends : goal.returns-in-Ends
returns-in-Ends c = λ i e. ap (λ (k : Kept). Ok k) c.kept_end.ensures ∙ kept_by_lem _ _ _ _ _ Ends c.in-Ends.is
