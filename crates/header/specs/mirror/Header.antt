-- Law `header_searched_lem` (proofs/Searched.antt): on checked slots this is header_of. The header by the search that the code makes.
use Rattle.std.specs.Prelude.{ℕ, List}
use Rattle.store.specs.declared.Object.{Object}
use Rattle.std.specs.Prelude.{Option, Result}
use Rattle.refusal.specs.Refusal.{Refusal}
use Rattle.header.specs.declared.Header.{Header}
use Rattle.serializer.specs.mirror.Search.{raw_searched}
use Rattle.layout.specs.declared.Layout.{Layout}
use Rattle.header.specs.Header.{header_by, rt_for}

abbrev pub raw_for : List ℕ → Object → Layout → ℕ → ℕ → Option ℕ
raw_for s o l = raw_searched s o.first o.count l.tagged_size

abbrev pub header_searched : List ℕ → List ℕ → Object → Layout → Result Header Refusal
header_searched s payload o l = header_by payload (raw_for s o l) (rt_for s o l) l
