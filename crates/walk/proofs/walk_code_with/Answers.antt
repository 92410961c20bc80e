use mathlib.Core.Path.{refl, sym, ap, ◌∙◌}
use Rattle.std.proofs.lemmas.Result.{err_from_is_err_and}
use Rattle.function.specs.declared.Function.{Function}
use Rattle.function.specs.Files.{lent_files, check_lent}
use Rattle.walk.specs.Numbers.{walked_numbers}
use Rattle.walk.specs.Walk.{given_of, walk_lent_with, lent_with}
use Rattle.walk.proofs.Answers.{walked_as, promise_unless}
use Rattle.walk.proofs.Searched.{lent_short, lent_walked}
use Rattle.walk.proofs.walk_code_with.Goals as goal

pub walk_source-requires : goal.walk_source-requires
walk_source-requires c =
    let a = c.args in
    let s = lent_files a.opcodes.now a.types.now a.layout.now a.objects.now a.slots.now a.payload.now in
    let e = c.function_of-f.ensures in
    (lent_short s (given_of a.handlers.now) a.object a.code.now (sym c.check_lent.ensures ∙ c.in_ok-check_lent.was), ap (λ (x : Function). x.prefixes) e)

pub returns-in_err-check_lent : goal.returns-in_err-check_lent
unfolding walk_lent_with
returns-in_err-check_lent c =
    let p = err_from_is_err_and c.from_residual.result c.from_residual.ensures.1 in
    rw (p.1, p.2) (rw (← c.check_lent.ensures, c.in_err-check_lent.was) (refl, refl), tt)

pub returns : goal.returns
unfolding walk_lent_with
returns c =
    let a = c.args in
    let s = lent_files a.opcodes.now a.types.now a.layout.now a.objects.now a.slots.now a.payload.now in
    let g = given_of a.handlers.now in
    let ok = sym c.check_lent.ensures ∙ c.in_ok-check_lent.was in
    let e = lent_walked s g a.object a.code.now a.marks.now ok c.function_of-f.result _ _ c.function_of-f.ensures c.layout_of-shape.ensures c.lent_pool-pool.ensures in
    let w = walked_as e c.walk_source.ensures in
    ((ap walked_numbers w.0, w.1), promise_unless (lent_with s g a.object a.code.now) (check_lent s a.object a.code.now) a.marks.now w)
