use mathlib.Core.Path.{refl, sym, ap, ◌∙◌}
use lib.ListN.{take, drop}
use Rattle.std.proofs.lemmas.Result.{err_from_is_err_and}
use Rattle.std.specs.Prelude.{Bool}
use Rattle.refusal.specs.declared.Fault.TheVariants as fault
use Rattle.refusal.specs.Check.{refuse_unless}
use Rattle.refusal.proofs.Laws.{good_is}
use Rattle.function.specs.declared.Function.{Function}
use Rattle.function.specs.Files.{files_of}
use Rattle.walk.specs.Walk.{given_of}
use Rattle.walk.specs.mirror.Search.{walk_searched}
use Rattle.walk.proofs.Answers.{walked_as}
use Rattle.walk.proofs.Searched.{object_short, object_unheld, object_walked}
use Rattle.walk.proofs.walk_object.Goals as goal

pub walk_source-requires : goal.walk_source-requires
walk_source-requires c =
    let a = c.args in
    let f = files_of a.opcodes.now a.types.now a.runtime.now a.intrinsic.now a.layout.now a.objects.now a.slots.now a.payload.now in
    let e = c.function_of-f.ensures in
    (object_short f (given_of a.handlers.now) a.object _ _ c.in_ok-h.h c.layout_of-shape.ensures (sym c.header_at_unchecked.ensures ∙ c.in_ok-h.was) c.lent-held.ensures, ap (λ (x : Function). x.prefixes) e)

pub returns-in_err-h : goal.returns-in_err-h
unfolding walk_searched
returns-in_err-h c =
    let p = err_from_is_err_and c.from_residual.result c.from_residual.ensures.1 in
    rw (p.1, p.2) (rw (← c.layout_of-shape.ensures, ← c.header_at_unchecked.ensures, c.in_err-h.was) (refl, refl))

pub returns-in_err-refuse_unless : goal.returns-in_err-refuse_unless
returns-in_err-refuse_unless c =
    let a = c.args in
    let f = files_of a.opcodes.now a.types.now a.runtime.now a.intrinsic.now a.layout.now a.objects.now a.slots.now a.payload.now in
    let p = err_from_is_err_and c.from_residual-in_err-refuse_unless.result c.from_residual-in_err-refuse_unless.ensures.1 in
    rw (p.1, p.2)
    (object_unheld f (given_of a.handlers.now) a.object (take c.in_ok-h.h.code_len (drop c.in_ok-h.h.code_at a.payload.now)) _ c.in_ok-h.h c.layout_of-shape.ensures (sym c.header_at_unchecked.ensures ∙ c.in_ok-h.was) refl a.marks.now
    (sym (ap (λ (b : Bool). refuse_unless b fault.CodeNotHeld) c.is_held.ensures) ∙ sym c.refuse_unless.ensures ∙ c.in_err-refuse_unless.was))

pub returns : goal.returns
returns c =
    let a = c.args in
    let f = files_of a.opcodes.now a.types.now a.runtime.now a.intrinsic.now a.layout.now a.objects.now a.slots.now a.payload.now in
    let held = sym c.is_held.ensures ∙ good_is _ fault.CodeNotHeld (sym c.refuse_unless.ensures ∙ c.in_ok-refuse_unless.was) in
    let e = object_walked f (given_of a.handlers.now) a.object _ _ c.in_ok-h.h c.layout_of-shape.ensures (sym c.header_at_unchecked.ensures ∙ c.in_ok-h.was) c.lent-held.ensures held a.marks.now c.function_of-f.result _ _ c.function_of-f.ensures c.pool_of-pool.ensures in
    walked_as e c.walk_source.ensures
