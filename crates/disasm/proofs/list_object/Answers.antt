use Prim.Native.Nat.{ℕ}
use mathlib.Core.Path.{refl, sym, ap, ◌∙◌}
use mathlib.Core.List.{List}
use Rattle.function.specs.Files.{files_of}
use Rattle.std.specs.Prelude.{Result}
use Rattle.std.proofs.lemmas.Result.{err_from_is_err_and}
use Rattle.refusal.specs.Refusal.{Refusal}
use Rattle.disasm.proofs.Searched.{object_listed}
use Rattle.disasm.proofs.list_object.Goals as goal

pub returns-in_err-h : goal.returns-in_err-h
returns-in_err-h c =
    let p = err_from_is_err_and c.from_residual.result c.from_residual.ensures.1 in
    rw (p.1, p.2, ← c.layout_of-shape.ensures, ← c.header_at_unchecked.ensures, c.in_err-h.was) (refl, refl)

pub returns : goal.returns
returns c =
    let a = c.args in
    let f = files_of a.opcodes.now a.types.now a.runtime.now a.intrinsic.now a.layout.now a.objects.now a.slots.now a.payload.now in
    let e = object_listed f a.object a.out.now c.layout_of-shape.result c.pool_of-pool.result c.in_ok-h.h c.layout_of-shape.ensures c.pool_of-pool.ensures (sym c.header_at_unchecked.ensures ∙ c.in_ok-h.was) in
    let q = c.list_header.ensures in
    (q.0 ∙ ap (λ (x : Result ℕ Refusal × List ℕ). x.0) e, q.1 ∙ ap (λ (x : Result ℕ Refusal × List ℕ). x.1) e)
