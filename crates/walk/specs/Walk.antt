-- The walk check: all of document 01's rows, the answer, and the marks behind it. Walks, what is found and what is marked are in crate graph,
-- the steps of an instruction in crate steps.
use Rattle.std.specs.Prelude.{ℕ, ◌≡◌, List, [], ◌++◌, ◌||◌, eqb, leb, ltb, length, drop}
use Rattle.std.specs.Prelude.{Option, Result, Ok, Err}
use Rattle.refusal.specs.Refusal.{Refusal}
use Rattle.refusal.specs.Check.{Check}
use Rattle.header.specs.declared.Header.{Header}
use Rattle.targets.specs.declared.PoolSlots.{PoolSlots}
use Rattle.search.specs.declared.Walked.{Walked}
use Rattle.refusal.specs.declared.Fault.TheVariants as fault
use Rattle.search.specs.declared.Walked.TheVariants as walked
use Rattle.refusal.specs.Check.{first_refusal, refuse_unless, guarded_on}
use Rattle.store.specs.Records.{object_of}
use Rattle.layout.specs.Layout.{layout_of}
use Rattle.targets.specs.Targets.{pool_elem, found}
use Rattle.function.specs.Files.{Files, check_files, check_lent}
use Rattle.function.specs.Pool.{pool_of, lent_pool}
use Rattle.function.specs.Code.{header_at, header_check, code_of, listing_check}
use Rattle.graph.specs.Graph.{Finding, Answer, finding, mark_list}
use Rattle.graph.specs.Graph.Finding.{closed, leaves}
use Rattle.flow.specs.Opcodes.{opcodes_of}
use Rattle.handlers.specs.Handlers.{check_handlers}
use Rattle.steps.specs.Steps.{Source, listing, walk_graph}
use Rattle.walk.specs.Numbers.{walked_numbers}

-- a finding as an answer
abbrev pub answer : Finding → Result Walked Refusal
answer closed = Ok walked.Closed
answer (leaves n o) = Ok (walked.Leaves n o)

-- 11 to 16; 18: "mark buffer shorter than the code"; 02, Wish 5: 24 and 25, "both after 18"
abbrev pub walk_check : Source → ℕ → Check
walk_check s room =
    first_refusal (listing_check s.opcodes s.pooled (listing s))
    (first_refusal (refuse_unless (leb (length s.code) room) fault.ShortMarks) (check_handlers s.handlers (length s.code)))

-- the answer, and the marks behind it: "further marks are unchanged"
abbrev pub walk_found : Source → List ℕ → Result Walked Refusal × List ℕ
walk_found s marks = let g = walk_graph s in (answer (finding g), mark_list g (finding g) (length s.code) ++ drop (length s.code) marks)

-- the walks of a code whose files are good
unfoldable pub walk_source : Source → List ℕ → Result Walked Refusal × List ℕ
walk_source s marks = guarded_on (walk_check s (length marks)) Err marks (walk_found s marks)

-- an answer r and marks M are those of a call, the answer in 01's numbers
abbrev pub WalkedAs : Result Walked Refusal × List ℕ → Result Walked Refusal → List ℕ → Type 0
WalkedAs a r M = (walked_numbers r ≡ walked_numbers a.0) × (M ≡ a.1)

-- Demand 3, of an answer and of the marks M behind it. "closed" means that no walk of any length leaves; else some walk leaves from there in
-- exactly that many steps, no walk leaves in fewer, none with as many from a lower offset. The mark of an offset of the code is 1 just where some
-- walk, after "leaves in n steps" one of fewer than n, ends there, and else 0.
abbrev pub Promise : Source → Result Walked Refusal → List ℕ → Type 0
Promise s (Ok walked.Closed) M = Answer (walk_graph s) (length s.code) M closed
Promise s (Ok (walked.Leaves n o)) M = Answer (walk_graph s) (length s.code) M (leaves n o)
Promise s (Err r) M = Unit {0}

-- ---- what is lent beside the files
pub record Given : Type 0 where
  pub handlers : List ℕ

abbrev pub given_of : List ℕ → Given
given_of handlers = record { handlers = handlers }

-- nothing
abbrev pub plain : Given
plain = given_of []

-- ---- the walks of an object
-- code, with the files, what is given and a pool
abbrev pub source_with : Files → Given → List ℕ → Option PoolSlots → Source
source_with f g code p =
    let l = layout_of f.layout in
    record { code = code; opcodes = opcodes_of f.opcodes; types = f.types; rfs = l.frame.reg_file_start; pooled = found p; elem = pool_elem f.slots f.payload l.tagged_size p; handlers = g.handlers }

abbrev pub object_with : Files → Given → ℕ → Source
object_with f g k = source_with f g (code_of f (header_at f k)) (pool_of f (object_of f.objects k))

abbrev pub object_source : Files → ℕ → Source
object_source f k = object_with f plain k

-- 02, Wish 4: 19 "exactly where it takes its code from an object whose length is positive and no run holds that code". The code is empty there, so that
-- none of 11 to 16 is met before it.
abbrev pub held_check : Result Header Refusal → Check
held_check (Ok h) = refuse_unless (eqb h.length 0 || ltb 0 h.code_len) fault.CodeNotHeld
held_check (Err r) = Ok tt

-- the call: rows 1 to 9, then 11 to 16, 19, 18, 24 and 25
unfoldable pub walk_with : Files → Given → ℕ → List ℕ → Result Walked Refusal × List ℕ
walk_with f g k marks =
    guarded_on (first_refusal (check_files f k) (first_refusal (header_check (header_at f k)) (held_check (header_at f k)))) Err marks
    (walk_source (object_with f g k) marks)

-- with nothing given: no rows 24 and 25
abbrev pub walk_call : Files → ℕ → List ℕ → Result Walked Refusal × List ℕ
walk_call f k marks = walk_with f plain k marks

-- ---- the walks of lent code
-- with the pool of the object that is lent for it, if one is
abbrev pub lent_with : Files → Given → Option ℕ → List ℕ → Source
lent_with f g o code = source_with f g code (lent_pool f o)

abbrev pub lent_source : Files → Option ℕ → List ℕ → Source
lent_source f o code = lent_with f plain o code

-- the call: rows 1 to 8 and 10, then 11 to 16, 18, 24 and 25
unfoldable pub walk_lent_with : Files → Given → Option ℕ → List ℕ → List ℕ → Result Walked Refusal × List ℕ
walk_lent_with f g o code marks = guarded_on (check_lent f o code) Err marks (walk_source (lent_with f g o code) marks)

abbrev pub walk_lent : Files → Option ℕ → List ℕ → List ℕ → Result Walked Refusal × List ℕ
walk_lent f o code marks = walk_lent_with f plain o code marks
