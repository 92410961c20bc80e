-- What the functions promise one another, and the calls by the searches that the code makes: `walked_searched` and `lent_walked` of
-- proofs/Searched.antt say that they are those of ../Walk.antt.
use Rattle.std.specs.Prelude.{ℕ, ◌≡◌, List, get_or}
use Rattle.std.specs.Prelude.{Option, Result, Ok, Err}
use Rattle.refusal.specs.Refusal.{Refusal}
use Rattle.refusal.specs.Check.{Check}
use Rattle.header.specs.declared.Header.{Header}
use Rattle.targets.specs.declared.PoolSlots.{PoolSlots}
use Rattle.search.specs.declared.Walked.{Walked}
use Rattle.refusal.specs.declared.Fault.TheVariants as fault
use Rattle.refusal.specs.Check.{refused, first_refusal, guarded_on}
use Rattle.store.specs.declared.Object.{Object}
use Rattle.tables.specs.Records.{prefixes_of}
use Rattle.layout.specs.declared.Layout.{Layout}
use Rattle.layout.specs.Layout.{layout_of}
use Rattle.header.specs.mirror.Header.{header_searched}
use Rattle.flow.specs.Opcodes.{opcodes_of}
use Rattle.targets.specs.Targets.{found}
use Rattle.targets.specs.mirror.Search.{pool_searched}
use Rattle.function.specs.declared.Function.{Function}
use Rattle.function.specs.Files.{Files}
use Rattle.function.specs.Code.{code_of, header_check, listing_check}
use Rattle.function.specs.mirror.Pool.{pool_found}
use Rattle.targets.specs.declared.BadSwitch.{BadSwitch}
use Rattle.steps.specs.declared.Kept.{Kept}
use Rattle.steps.specs.Steps.{Source, listing}
use Rattle.steps.specs.mirror.Keeping.{Keeps}
use Rattle.walk.specs.Walk.{Given, walk_source, held_check}

-- the source that the lent parts make, with the pool's elements by search
abbrev pub source_of : List ℕ → List ℕ → List ℕ → List ℕ → List ℕ → List ℕ → Function → Source
source_of code ops types slots payload handlers f =
    record { code = code; opcodes = opcodes_of ops; types = types; rfs = f.frame.reg_file_start; pooled = found f.pool; elem = pool_searched slots payload f.ts f.pool; handlers = handlers }

-- the prefix opcodes that were found once
abbrev pub Prefixed : List ℕ → Function → Type 0
Prefixed ops f = f.prefixes ≡ prefixes_of ops

-- room of zeros
abbrev pub Clear : List ℕ → Type 0
Clear l = (t : ℕ) → get_or l t 0 ≡ 0

-- number 16 where the table of an instruction at a place is refused
abbrev pub kept_check : Result Kept BadSwitch → ℕ → Check
kept_check (Ok k) at = Ok tt
kept_check (Err e) at = refused fault.BadSwitch at

-- one pass over a code: the checks, and the numbers that keep it
pub record Started (s : Source) (heads words : List ℕ) (r : Check) : Type 0 where
  pub checked : r ≡ listing_check s.opcodes s.pooled (listing s)
  pub keeps : (listing s).check ≡ Ok tt → Keeps s heads words

-- an answer r and marks M are those of a call
abbrev pub WalkedBy : Result Walked Refusal × List ℕ → Result Walked Refusal → List ℕ → Type 0
WalkedBy a r M = (r ≡ a.0) × (M ≡ a.1)

-- ---- the calls, by the searches that the code makes
-- code with a layout and a pool
abbrev pub source_by : List ℕ → List ℕ → List ℕ → List ℕ → List ℕ → Given → Layout → Option PoolSlots → Source
source_by code ops types slots payload g l p =
    record { code = code; opcodes = opcodes_of ops; types = types; rfs = l.frame.reg_file_start; pooled = found p; elem = pool_searched slots payload l.tagged_size p; handlers = g.handlers }

abbrev pub header_found : Files → Object → Result Header Refusal
header_found f o = header_searched f.slots f.payload o (layout_of f.layout)

-- the walks of an object whose files are good
unfoldable pub walk_searched : Files → Given → Object → List ℕ → Result Walked Refusal × List ℕ
walk_searched f g o marks =
    guarded_on (first_refusal (header_check (header_found f o)) (held_check (header_found f o))) Err marks
    (walk_source (source_by (code_of f (header_found f o)) f.opcodes f.types f.slots f.payload g (layout_of f.layout) (pool_found f.objects f.slots (layout_of f.layout) o)) marks)
