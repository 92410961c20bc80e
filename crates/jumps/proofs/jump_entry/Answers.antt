use Prim.Native.Nat.{ℕ}
use mathlib.Core.Path.{◌≡◌, sym, ap, ◌∙◌}
use Rattle.flow.specs.Opcodes.{opcodes_of}
use Rattle.layout.specs.declared.Layout.{Layout}
use mathlib.Core.List.{List}
use Rattle.layout.specs.Layout.{layout_of}
use Rattle.function.specs.Files.{Files, lent_files, check_lent}
use Rattle.jumps.specs.Numbers.{entry_numbers}
use Rattle.std.specs.Prelude.{Option, Ok}
use Rattle.std.proofs.lemmas.Result.{err_from_is_err_and}
use Rattle.targets.specs.declared.PoolSlots.{PoolSlots}
use Rattle.targets.specs.declared.Entries.{Entries}
use Rattle.serializer.specs.declared.Elem.{Elem}
use Rattle.decoder.specs.declared.Instr.{Instr}
use Rattle.decoder.specs.Decode.{Decoded, instr_in}
use Rattle.targets.specs.Targets.{found, here}
use Rattle.targets.specs.mirror.Search.{pool_searched}
use Rattle.function.specs.mirror.Pool.{lent_found}
use Rattle.function.specs.Pool.{lent_pool, lent_elem}
use Rattle.jumps.specs.Jumps.{Asked, table_of, table_call, entry_of, entry_call}
use Rattle.function.specs.Code.{decoded_at}
use Rattle.function.proofs.Searched.{lent_pool_lem, lent_elems}
use Rattle.jumps.proofs.jump_entry.Goals as goal

pub returns-in_err-check_lent : goal.returns-in_err-check_lent
unfolding entry_call table_call
returns-in_err-check_lent c =
    let p = err_from_is_err_and c.from_residual.result c.from_residual.ensures.1 in
    rw (p.1, p.2, ← c.check_lent.ensures, c.in_err-check_lent.was)

pub returns-in_err-decoded : goal.returns-in_err-decoded
unfolding entry_call table_call table_of
returns-in_err-decoded c =
    let p = err_from_is_err_and c.from_residual-in_err-decoded.result c.from_residual-in_err-decoded.ensures.1 in
    let ok = sym c.check_lent.ensures ∙ c.in_ok-check_lent.was in
    rw (p.1, p.2, ok, ← c.decode_unchecked.ensures, c.in_err-decoded.was)

-- the table of what is decoded, from what calls gave: l, p, y and t
module _ (f : Files) (w : Option ℕ) (code : List ℕ) (at : ℕ) (ok : check_lent f w code ≡ Ok tt) where
  table_is : {l : Layout} {p : Option PoolSlots} {y : Decoded} {d : Option Instr} {t : Asked Entries} → l ≡ layout_of f.layout → p ≡ lent_found f.objects f.slots l w
      → y ≡ decoded_at f code at → y ≡ Ok d → t ≡ table_of (opcodes_of f.opcodes) (found p) (Ok d) at
      → t ≡ table_of (opcodes_of f.opcodes) (found (lent_pool f w)) (decoded_at f code at) at
  table_is {d = d} el ep ey is et =
      et ∙ ap (λ (x : Option PoolSlots). table_of (opcodes_of f.opcodes) (found x) (Ok d) at) (lent_pool_lem f w code ok (ep ∙ ap (λ (x : Layout). lent_found f.objects f.slots x w) el))
      ∙ ap (λ (x : Decoded). table_of (opcodes_of f.opcodes) (found (lent_pool f w)) x at) (sym is ∙ ey)

pub returns-in_err-table : goal.returns-in_err-table
unfolding entry_call table_call
returns-in_err-table c =
    let p = err_from_is_err_and c.from_residual-in_err-table.result c.from_residual-in_err-table.ensures.1 in
    let ok = sym c.check_lent.ensures ∙ c.in_ok-check_lent.was in
    let a = c.args in
    let f = lent_files a.opcodes.now a.types.now a.layout.now a.objects.now a.slots.now a.payload.now in
    let t = table_is f a.object a.code.now a.at ok c.layout_of-shape.ensures c.lent_pool-pool.ensures c.decode_unchecked.ensures c.in_ok-decoded.was c.table_of.ensures in
    rw (p.1, p.2, ok, ← t, c.in_err-table.was)

pub returns-in_default : goal.returns-in_default
unfolding entry_call table_call table_of
returns-in_default c =
    let ok = sym c.check_lent.ensures ∙ c.in_ok-check_lent.was in
    rw (ok, ← c.decode_unchecked.ensures, c.in_ok-decoded.was, c.in_default.is)

pub returns : goal.returns
unfolding entry_call table_call
returns c =
    let a = c.args in
    let f = lent_files a.opcodes.now a.types.now a.layout.now a.objects.now a.slots.now a.payload.now in
    let w = a.object in
    let ok = sym c.check_lent.ensures ∙ c.in_ok-check_lent.was in
    let p = c.lent_pool-pool.ensures ∙ ap (λ (x : Layout). lent_found f.objects f.slots x w) c.layout_of-shape.ensures in
    let decoded = sym c.in_ok-decoded.was ∙ c.decode_unchecked.ensures in
    let t = table_is f a.object a.code.now a.at ok c.layout_of-shape.ensures c.lent_pool-pool.ensures c.decode_unchecked.ensures c.in_ok-decoded.was c.table_of.ensures in
    let table = Ok c.in_ok-table.table in
    let from = c.here-from.ensures ∙ ap (λ (x : Option Instr). here (instr_in (Ok x))) (sym c.in-Some.is) ∙ ap (λ (x : Decoded). here (instr_in x)) decoded in
    rw ok
    (ap (entry_numbers a.at)
    (c.entry_of.ensures
    ∙ ap (λ (x : Layout). entry_of (pool_searched f.slots f.payload x.tagged_size c.lent_pool-pool.result) c.here-from.result table a.k) c.layout_of-shape.ensures
    ∙ ap (λ (x : ℕ → Option Elem). entry_of x c.here-from.result table a.k) (lent_elems f w a.code.now ok p)
    ∙ ap (λ (x : ℕ). entry_of (lent_elem f w) x table a.k) from
    ∙ ap (λ (x : Asked Entries). entry_of (lent_elem f w) (here (instr_in (decoded_at f a.code.now a.at))) x a.k) (sym c.in_ok-table.was ∙ t)))
