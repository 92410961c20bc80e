use mathlib.Core.Path.{refl, sym, ap, ◌∙◌}
use Rattle.std.proofs.lemmas.Result.{err_from_is_err_and}
use Rattle.refusal.specs.Check.{first_refusal}
use Rattle.store.specs.declared.Object.{Object}
use Rattle.function.specs.Files.{files_of, check_files}
use Rattle.function.specs.Code.{header_check, header_at}
use Rattle.walk.specs.Numbers.{walked_numbers}
use Rattle.walk.specs.Walk.{held_check, given_of, walk_with, object_with}
use Rattle.walk.specs.mirror.Search.{walk_searched}
use Rattle.walk.proofs.Answers.{walked_as, promise_unless}
use Rattle.walk.proofs.Searched.{walked_searched}
use Rattle.walk.proofs.walk_with.Goals as goal

pub returns-in_err-check_files : goal.returns-in_err-check_files
unfolding walk_with
returns-in_err-check_files c =
    let p = err_from_is_err_and c.from_residual.result c.from_residual.ensures.1 in
    rw (p.1, p.2) (rw (← c.check_files.ensures, c.in_err-check_files.was) (refl, refl), tt)

pub returns : goal.returns
unfolding walk_with
returns c =
    let a = c.args in
    let f = files_of a.opcodes.now a.types.now a.runtime.now a.intrinsic.now a.layout.now a.objects.now a.slots.now a.payload.now in
    let g = given_of a.handlers.now in
    let ok = sym c.check_files.ensures ∙ c.in_ok-check_files.was in
    let e = ap (λ (x : Object). walk_searched f g x a.marks.now) c.object_of-o.ensures ∙ walked_searched f g a.marks.now a.object ok in
    let w = walked_as e c.walk_object.ensures in
    let h = header_at f a.object in
    ((ap walked_numbers w.0, w.1), promise_unless (object_with f g a.object) (first_refusal (check_files f a.object) (first_refusal (header_check h) (held_check h))) a.marks.now w)
