use mathlib.Core.Path.{refl, sym, ap, ◌∙◌}
use mathlib.Core.List.{List}
use Prim.Native.Nat.{ℕ}
use Rattle.function.specs.Files.{Files}
use Rattle.std.specs.Prelude.{Result}
use Rattle.std.proofs.lemmas.Result.{err_from_is_err_and}
use Rattle.refusal.specs.Refusal.{Refusal}
use Rattle.search.specs.declared.Walked.{Walked}
use Rattle.walk.proofs.Numbers.{walked_numbers_one}
use Rattle.program.proofs.Laws.{walk_within, walk_blind, walk_beyond, walk_refused}
use Rattle.walk.specs.Walk.{given_of}
use Rattle.program.proofs.walk_limited.Goals as goal

pub returns-then-within_limit : goal.returns-then-within_limit
returns-then-within_limit c =
    let a = c.args in
    let f : Files = record { opcodes = a.opcodes.now; types = a.types.now; runtime = a.runtime.now; intrinsic = a.intrinsic.now; layout = a.layout.now; objects = a.objects.now; slots = a.slots.now; payload = a.payload.now } in
    let g = given_of a.handlers.now in
    walked_numbers_one _ _ c.walk_with.ensures.0.0 ∙ sym (ap (λ (x : Result Walked Refusal × List ℕ). x.0) (walk_within f g a.marks.now (sym c.within_limit.ensures ∙ c.if-within_limit.true))) ∙ walk_blind f g a.marks.now _ refl

pub returns : goal.returns
returns c =
    let a = c.args in
    let f : Files = record { opcodes = a.opcodes.now; types = a.types.now; runtime = a.runtime.now; intrinsic = a.intrinsic.now; layout = a.layout.now; objects = a.objects.now; slots = a.slots.now; payload = a.payload.now } in
    let g = given_of a.handlers.now in
    walk_beyond f g _ (sym c.within_limit.ensures ∙ c.if-within_limit.false) (sym c.check_table.ensures ∙ c.in_ok-check_table.was)

pub returns-in_err-check_table : goal.returns-in_err-check_table
returns-in_err-check_table c =
    let a = c.args in
    let f : Files = record { opcodes = a.opcodes.now; types = a.types.now; runtime = a.runtime.now; intrinsic = a.intrinsic.now; layout = a.layout.now; objects = a.objects.now; slots = a.slots.now; payload = a.payload.now } in
    let g = given_of a.handlers.now in
    let p = err_from_is_err_and c.from_residual.result c.from_residual.ensures.1 in
    rw (p.1, p.2) (walk_refused f g _ (sym c.within_limit.ensures ∙ c.if-within_limit.false) _ (sym c.check_table.ensures ∙ c.in_err-check_table.was))
