-- Where the checks found nothing, the listing by searches is the listing of the definition. Assumes nothing.
use Prim.Native.Nat.{ℕ}
use mathlib.Core.Path.{◌≡◌, ap, ◌∙◌}
use mathlib.Core.List.{List}
use Rattle.std.specs.Prelude.{Option, Result, Ok}
use Rattle.refusal.specs.Refusal.{Refusal}
use Rattle.targets.specs.declared.PoolSlots.{PoolSlots}
use Rattle.store.specs.declared.Object.{Object}
use Rattle.store.specs.Records.{object_of}
use Rattle.serializer.specs.declared.Elem.{Elem}
use Rattle.layout.specs.declared.Layout.{Layout}
use Rattle.layout.specs.Layout.{layout_of}
use Rattle.header.specs.declared.Header.{Header}
use Rattle.header.specs.mirror.Header.{header_searched}
use Rattle.targets.specs.mirror.Search.{pool_searched}
use Rattle.function.specs.Files.{Files, check_files}
use Rattle.function.specs.Pool.{pool_of}
use Rattle.function.specs.Code.{header_at}
use Rattle.function.specs.mirror.Pool.{pool_found}
use Rattle.function.proofs.Searched.{header_found_lem, pool_found_lem, elems_found}
use Rattle.disasm.specs.Listing.{list_header, list_object}
use Rattle.disasm.specs.mirror.Listing.{list_with, list_searched}

pub listed_searched : (f : Files) (k : ℕ) (out : List ℕ) → check_files f k ≡ Ok tt → list_searched f (object_of f.objects k) out ≡ list_object f (object_of f.objects k) out
listed_searched f k out ok =
    let o = object_of f.objects k in
    let l = layout_of f.layout in
    let p = pool_found f.objects f.slots l o in
    ap (λ (x : Result Header Refusal). list_header f x p (pool_searched f.slots f.payload l.tagged_size p) out) (header_found_lem f k ok)
    ∙ ap (λ (x : Option PoolSlots). list_header f (header_at f k) x (pool_searched f.slots f.payload l.tagged_size x) out) (pool_found_lem f k ok)
    ∙ ap (λ (x : ℕ → Option Elem). list_header f (header_at f k) (pool_of f o) x out) (elems_found f k ok)

-- the listing of a header that was found
pub object_listed : (f : Files) (o : Object) (out : List ℕ) (l : Layout) (p : Option PoolSlots) (h : Header) → l ≡ layout_of f.layout → p ≡ pool_found f.objects f.slots l o
    → header_searched f.slots f.payload o l ≡ Ok h
    → list_with f.opcodes f.types f.runtime f.intrinsic f.slots f.payload l p h out ≡ list_searched f o out
object_listed f o out l p h e1 e2 e3 =
    let pool = rw e1 at e2 in
    let header = rw e1 at e3 in
    rw (e1, ← pool, header)
