use Prim.Native.Nat.{ℕ}
use mathlib.Core.Path.{ap, ◌∙◌}
use Rattle.std.specs.Prelude.{Option}
use Rattle.search.specs.mirror.Kept.{word_of}
use Rattle.steps.specs.Steps.{to_target}
use Rattle.steps.proofs.kept_jump.Goals as goal

pub returns : goal.returns
returns c = λ b. ap (λ (w : ℕ). record { head = c.args.head; word = w }) (c.word_of.ensures ∙ ap (λ (t : Option ℕ). word_of (to_target t)) (c.jump_target_in-target.ensures b))
