-- The listing by the searches that the code makes: `listed_searched` of proofs/Searched.antt says that on checked files it is `list_object`.
use Rattle.std.specs.Prelude.{ℕ, List, take, drop}
use Rattle.std.specs.Prelude.{Option, Result}
use Rattle.refusal.specs.Refusal.{Refusal}
use Rattle.targets.specs.declared.PoolSlots.{PoolSlots}
use Rattle.store.specs.declared.Object.{Object}
use Rattle.layout.specs.declared.Layout.{Layout}
use Rattle.layout.specs.Layout.{layout_of}
use Rattle.header.specs.declared.Header.{Header}
use Rattle.header.specs.mirror.Header.{header_searched}
use Rattle.targets.specs.mirror.Search.{pool_searched}
use Rattle.function.specs.Files.{Files}
use Rattle.function.specs.mirror.Pool.{pool_found}
use Rattle.function.specs.mirror.Function.{function_of, listed_by}
use Rattle.lines.specs.mirror.View.{view_of}
use Rattle.disasm.specs.Listing.{list_view, list_header}

-- the code of a header
abbrev pub code_of : List ℕ → Header → List ℕ
code_of payload h = take h.code_len (drop h.code_at payload)

-- the listing of a header, a layout and a pool
abbrev pub list_with : List ℕ → List ℕ → List ℕ → List ℕ → List ℕ → List ℕ → Layout → Option PoolSlots → Header → List ℕ → Result ℕ Refusal × List ℕ
list_with opcodes types runtime intrinsic slots payload l p h o =
    let code = code_of payload h in
    let f = function_of opcodes l p h.parameter_count in
    list_view (view_of code opcodes types runtime intrinsic slots payload f) h (listed_by code opcodes types f) o

-- the listing of an object whose files are good
abbrev pub list_searched : Files → Object → List ℕ → Result ℕ Refusal × List ℕ
list_searched f o out =
    let l = layout_of f.layout in
    let p = pool_found f.objects f.slots l o in
    list_header f (header_searched f.slots f.payload o l) p (pool_searched f.slots f.payload l.tagged_size p) out
