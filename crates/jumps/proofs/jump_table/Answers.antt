use mathlib.Core.Path.{sym, ap, ◌∙◌}
use Rattle.flow.specs.Opcodes.{opcodes_of}
use Rattle.layout.specs.declared.Layout.{Layout}
use Rattle.function.specs.Files.{lent_files}
use Rattle.jumps.specs.Numbers.{table_numbers}
use Rattle.decoder.specs.Decode.{Decoded}
use Rattle.std.specs.Prelude.{Option, Ok}
use Rattle.std.proofs.lemmas.Result.{err_from_is_err_and}
use Rattle.targets.specs.declared.PoolSlots.{PoolSlots}
use Rattle.targets.specs.Targets.{found}
use Rattle.function.specs.mirror.Pool.{lent_found}
use Rattle.function.specs.Pool.{lent_pool}
use Rattle.jumps.specs.Jumps.{table_of, table_call}
use Rattle.function.proofs.Searched.{lent_pool_lem}
use Rattle.jumps.proofs.jump_table.Goals as goal

pub returns-in_err-check_lent : goal.returns-in_err-check_lent
unfolding table_call
returns-in_err-check_lent c =
    let p = err_from_is_err_and c.from_residual.result c.from_residual.ensures.1 in
    rw (p.1, p.2, ← c.check_lent.ensures, c.in_err-check_lent.was)

pub returns-in_err-decoded : goal.returns-in_err-decoded
unfolding table_call table_of
returns-in_err-decoded c =
    let p = err_from_is_err_and c.from_residual-in_err-decoded.result c.from_residual-in_err-decoded.ensures.1 in
    let ok = sym c.check_lent.ensures ∙ c.in_ok-check_lent.was in
    rw (p.1, p.2, ok, ← c.decode_unchecked.ensures, c.in_err-decoded.was)

pub returns : goal.returns
unfolding table_call
returns c = let a = c.args in
    let f = lent_files a.opcodes.now a.types.now a.layout.now a.objects.now a.slots.now a.payload.now in
    let ok = sym c.check_lent.ensures ∙ c.in_ok-check_lent.was in
    let p = c.lent_pool-pool.ensures ∙ ap (λ (x : Layout). lent_found f.objects f.slots x a.object) c.layout_of-shape.ensures in
    let d = c.in_ok-decoded.decoded in
    rw ok
    (ap (table_numbers a.at)
    (c.table_of.ensures
    ∙ ap (λ (x : Option PoolSlots). table_of (opcodes_of f.opcodes) (found x) (Ok d) a.at) (lent_pool_lem f a.object a.code.now ok p)
    ∙ ap (λ (x : Decoded). table_of (opcodes_of f.opcodes) (found (lent_pool f a.object)) x a.at) (sym c.in_ok-decoded.was ∙ c.decode_unchecked.ensures)))
