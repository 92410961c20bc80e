use mathlib.Core.Path.{refl, sym, ◌∙◌}
use Rattle.std.proofs.lemmas.Result.{err_from_is_err_and}
use Rattle.text.proofs.Numbers.{written_by}
use Rattle.function.specs.Files.{Files}
use Rattle.program.specs.Printed.{limited}
use Rattle.program.proofs.Laws.{within}
use Rattle.program.proofs.list_limited.Goals as goal

pub returns-then-within_limit : goal.returns-then-within_limit
returns-then-within_limit c =
    let a = c.args in
    let f : Files = record { opcodes = a.opcodes.now; types = a.types.now; runtime = a.runtime.now; intrinsic = a.intrinsic.now; layout = a.layout.now; objects = a.objects.now; slots = a.slots.now; payload = a.payload.now } in
    rw (within f a.out.now (sym c.within_limit.ensures ∙ c.if-within_limit.true)) (written_by c.list.ensures)

pub returns-in_err-check_table : goal.returns-in_err-check_table
unfolding limited
returns-in_err-check_table c =
    let p = err_from_is_err_and c.from_residual.result c.from_residual.ensures.1 in
    rw (p.1, p.2) (rw (sym c.within_limit.ensures ∙ c.if-within_limit.false, sym c.check_table.ensures ∙ c.in_err-check_table.was) (refl, refl))

pub returns : goal.returns
unfolding limited
returns c = rw (sym c.within_limit.ensures ∙ c.if-within_limit.false, sym c.check_table.ensures ∙ c.in_ok-check_table.was) (refl, refl)
