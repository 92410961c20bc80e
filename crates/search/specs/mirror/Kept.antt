-- Law `kept_found` (proofs/Kept.antt): what is found of a kept graph is what is found of any graph that does alike. No contract of a call cites it.
-- A graph that lies in lent numbers. Of the n bytes of a code each has a head: 0 where no instruction starts, else size + 256 * form + 4096 * count,
-- where the form is a sum of 1 (it goes on to its end), 2 (it goes to a target), 4 (it goes to the entries of a table) and 8 (distances count from
-- behind a prefix), and the count is the number of a table's entries. The word at the instruction's offset is the target's place, or the number of
-- the table's first element. "No target" is a place where nothing starts. A third table has one more than the offset of the handler that an instruction
-- may go to, 0 where there is none; it may be empty.
use Rattle.std.specs.Prelude.{ℕ, zero, suc, ◌+◌, ◌-◌, ◌/◌, ◌%◌, ◌≤◌, ◌<◌, min, ◌≡◌, Bool, true, cond, List, [], ◌∷◌, ◌++◌, eqb, get_or, length}
use Rattle.std.specs.Prelude.{Option, None, Some}
use Rattle.targets.specs.declared.PoolSlots.{PoolSlots}
use Rattle.serializer.specs.declared.Elem.{Elem}
use Rattle.graph.specs.Lists.{any}
use Rattle.graph.specs.Graph.{Graph, Step, Finding, is_to, finding, mark_list}
use Rattle.graph.specs.Graph.Step.{to_offset, no_target}
use Rattle.graph.specs.Graph.Finding.{closed, leaves}
use Rattle.targets.specs.Targets.{smi_of, target_from}
use Rattle.targets.specs.mirror.Search.{pool_searched}
use Rattle.search.specs.declared.Walked.{Walked}
use Rattle.search.specs.declared.Walked.TheVariants as walked

-- ---- a head
abbrev pub size_of : ℕ → ℕ
size_of h = h % 256

abbrev pub continues : ℕ → Bool
continues h = eqb (h / 256 % 2) 1

abbrev pub goes_to : ℕ → Bool
goes_to h = eqb (h / 512 % 2) 1

abbrev pub goes_by_table : ℕ → Bool
goes_by_table h = eqb (h / 1024 % 2) 1

-- how many entries its table has
abbrev pub count_of : ℕ → ℕ
count_of h = h / 4096

-- where the distances of an instruction at o count from
abbrev pub here_of : ℕ → ℕ → ℕ
here_of o h = o + h / 2048 % 2

-- ---- the steps of an instruction: jumps, and then the step to its end
-- a step for an entry shown
abbrev pub shown : Option ℕ → List Step
shown (Some t) = to_offset t ∷ []
shown None = []

-- the entries whose elements are the k from number n on
unfoldable pub entries_from : (ℕ → Option Elem) → ℕ → ℕ → ℕ → List Step
entries_from el at n zero = []
entries_from el at n (suc k) = shown (target_from at (smi_of (el n))) ++ entries_from el at (suc n) k

-- to the target, and to the entries of the table
unfoldable pub target_steps : List ℕ → ℕ → ℕ → List Step
target_steps words o h = cond (goes_to h) (to_offset (get_or words o 0) ∷ []) []

unfoldable pub table_steps : (ℕ → Option Elem) → List ℕ → ℕ → ℕ → List Step
table_steps el words o h = cond (goes_by_table h) (entries_from el (here_of o h) (get_or words o 0) (count_of h)) []

abbrev pub jumps : (ℕ → Option Elem) → List ℕ → ℕ → ℕ → List Step
jumps el words o h = target_steps words o h ++ table_steps el words o h

unfoldable pub on_steps : ℕ → ℕ → List Step
on_steps o h = cond (continues h) (to_offset (o + size_of h) ∷ []) []

-- the steps of an instruction at o with head h
abbrev pub kept_steps : (ℕ → Option Elem) → List ℕ → ℕ → ℕ → List Step
kept_steps el words o h = jumps el words o h ++ on_steps o h

-- to its handler
unfoldable pub catch_steps : List ℕ → ℕ → List Step
catch_steps catches o = cond (eqb (get_or catches o 0) 0) [] (to_offset (get_or catches o 0 - 1) ∷ [])

-- the word that keeps a step: the place, or one where nothing starts
abbrev pub word_of : Step → ℕ
word_of (to_offset t) = min t 4294967295
word_of no_target = 4294967295

-- ---- the graph
-- the offsets from i on that have a head
unfoldable pub places : ℕ → List ℕ → List ℕ
places i [] = []
places i (h ∷ hs) = cond (eqb h 0) (places (suc i) hs) (i ∷ places (suc i) hs)

unfoldable pub kept_graph : (ℕ → Option Elem) → List ℕ → List ℕ → List ℕ → Graph
kept_graph el heads words catches = record { starts = places 0 heads; steps = λ o. catch_steps catches o ++ kept_steps el words o (get_or heads o 0) }

-- with the pool's elements as the code searches them
abbrev pub graph_by : List ℕ → List ℕ → ℕ → Option PoolSlots → List ℕ → List ℕ → List ℕ → Graph
graph_by slots payload ts pool heads words catches = kept_graph (pool_searched slots payload ts pool) heads words catches

-- ---- what the functions promise one another
-- whether a step goes where no instruction starts
abbrev pub off_heads : List ℕ → Step → Bool
off_heads heads (to_offset t) = eqb (get_or heads t 0) 0
off_heads heads no_target = true

-- one of the steps goes to t
abbrev pub Goes : List Step → ℕ → Type 0
Goes l t = any (is_to t) l ≡ true

-- all of them go to places below n
abbrev pub Below : List Step → ℕ → Type 0
Below l n = (t : ℕ) → Goes l t → t < n

abbrev pub finding_as : Walked → Finding
finding_as walked.Closed = closed
finding_as (walked.Leaves n o) = leaves n o

-- ---- the search
-- room that fits a code of at most 65,536 bytes
pub record Fits (heads marks queue : List ℕ) : Type 0 where
  pub small : length heads ≤ 65536
  pub as_many : length marks ≡ length heads
  pub room : length heads ≤ length queue

-- the answer r and the marks M of n bytes are those computed
abbrev pub IsFound : Graph → ℕ → Walked → List ℕ → Type 0
IsFound g n r M = (finding_as r ≡ finding g) × (M ≡ mark_list g (finding g) n)
