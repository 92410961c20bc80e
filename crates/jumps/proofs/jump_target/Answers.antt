use Prim.Native.Nat.{ℕ}
use mathlib.Core.Path.{sym, ap, ◌∙◌}
use Rattle.flow.specs.Opcodes.{opcodes_of}
use Rattle.layout.specs.declared.Layout.{Layout}
use Rattle.function.specs.Files.{lent_files}
use Rattle.jumps.specs.Numbers.{target_numbers}
use Rattle.std.specs.Prelude.{Option, Ok}
use Rattle.std.proofs.lemmas.Result.{err_from_is_err_and}
use Rattle.serializer.specs.declared.Elem.{Elem}
use Rattle.targets.specs.mirror.Search.{pool_searched}
use Rattle.function.specs.mirror.Pool.{lent_found}
use Rattle.function.specs.Pool.{lent_elem}
use Rattle.jumps.specs.Jumps.{target_of, target_call}
use Rattle.function.proofs.Searched.{lent_elems}
use Rattle.jumps.proofs.jump_target.Goals as goal

pub returns-in_err-check_lent : goal.returns-in_err-check_lent
unfolding target_call
returns-in_err-check_lent c =
    let p = err_from_is_err_and c.from_residual.result c.from_residual.ensures.1 in
    rw (p.1, p.2, ← c.check_lent.ensures, c.in_err-check_lent.was)

pub returns-in_err-decoded : goal.returns-in_err-decoded
unfolding target_call target_of
returns-in_err-decoded c =
    let p = err_from_is_err_and c.from_residual-in_err-decoded.result c.from_residual-in_err-decoded.ensures.1 in
    let ok = sym c.check_lent.ensures ∙ c.in_ok-check_lent.was in
    rw (p.1, p.2, ok, ← c.decode_unchecked.ensures, c.in_err-decoded.was)

pub returns : goal.returns
unfolding target_call
returns c = let a = c.args in
    let f = lent_files a.opcodes.now a.types.now a.layout.now a.objects.now a.slots.now a.payload.now in
    let ok = sym c.check_lent.ensures ∙ c.in_ok-check_lent.was in
    let p = c.lent_pool-pool.ensures ∙ ap (λ (x : Layout). lent_found f.objects f.slots x a.object) c.layout_of-shape.ensures in
    let el = lent_elems f a.object a.code.now ok p in
    let pool = c.lent_pool-pool.result in
    let d = c.in_ok-decoded.decoded in
    rw ok
    (ap (target_numbers a.at)
    (c.target_of.ensures
    ∙ ap (λ (x : Layout). target_of (opcodes_of f.opcodes) (pool_searched f.slots f.payload x.tagged_size pool) (Ok d)) c.layout_of-shape.ensures
    ∙ ap (λ (x : ℕ → Option Elem). target_of (opcodes_of f.opcodes) x (Ok d)) el
    ∙ ap (target_of (opcodes_of f.opcodes) (lent_elem f a.object)) (sym c.in_ok-decoded.was ∙ c.decode_unchecked.ensures)))
