use Prim.Native.Nat.{ℕ}
use mathlib.Core.Path.{refl, sym, ap, ◌∙◌}
use mathlib.Core.List.{List}
use Rattle.std.specs.Prelude.{Result}
use Rattle.std.proofs.lemmas.Result.{err_from_is_err_and}
use Rattle.refusal.specs.Refusal.{Refusal}
use Rattle.text.proofs.Numbers.{written_as}
use Rattle.store.specs.declared.Object.{Object}
use Rattle.function.specs.Files.{files_of}
use Rattle.disasm.specs.Listing.{list_call}
use Rattle.disasm.specs.mirror.Listing.{list_searched}
use Rattle.disasm.proofs.Searched.{listed_searched}
use Rattle.disasm.proofs.list.Goals as goal

pub returns-in_err-check_files : goal.returns-in_err-check_files
unfolding list_call
returns-in_err-check_files c =
    let p = err_from_is_err_and c.from_residual.result c.from_residual.ensures.1 in
    rw (p.1, p.2, ← c.check_files.ensures, c.in_err-check_files.was) (refl, refl)

pub returns : goal.returns
unfolding list_call
returns c =
    let a = c.args in
    let f = files_of a.opcodes.now a.types.now a.runtime.now a.intrinsic.now a.layout.now a.objects.now a.slots.now a.payload.now in
    let ok = sym c.check_files.ensures ∙ c.in_ok-check_files.was in
    let e = ap (λ (x : Object). list_searched f x a.out.now) c.object_of-object.ensures ∙ listed_searched f a.object a.out.now ok in
    let q = c.list_object.ensures in
    rw ok (written_as (q.0 ∙ ap (λ (x : Result ℕ Refusal × List ℕ). x.0) e, q.1 ∙ ap (λ (x : Result ℕ Refusal × List ℕ). x.1) e))
