-- Laws `kept_same` (proofs/Same.antt): what is kept of an instruction does the same as its steps; `keeps_found` (proofs/Keeps.antt): what is found
-- of the numbers that keep a code is found of its walks. No contract of a call cites it.
-- The head and the word, or the refusal, that an instruction of so many bytes is kept as, by its kind: heads and words are those of
-- search/specs/mirror/Kept.antt.
use Rattle.std.specs.Prelude.{ℕ, ◌+◌, ◌-◌, ◌*◌, ◌<◌, ◌≡◌, Bool, cond, not, List, eqb, ltb, get_or, length}
use Rattle.decoder.specs.declared.Instr.{Instr}
use Rattle.decoder.specs.Decode.{Decoded, Done, instr_in}
use Rattle.decoder.specs.Listed.{decodes}
use Rattle.flow.specs.declared.Flow.{Flow}
use Rattle.flow.specs.declared.Kind.{Kind}
use Rattle.flow.specs.declared.Kind.TheVariants.{On, Ends, Jumps, Branches, JumpsBack, Switch}
use Rattle.std.specs.Prelude.{Option, Some, None, Result, Ok, Err}
use Rattle.targets.specs.declared.Entries.{Entries}
use Rattle.serializer.specs.declared.Elem.{Elem}
use Rattle.targets.specs.Targets.{jump_target, jump_table}
use Rattle.graph.specs.Graph.{is_start}
use Rattle.handlers.specs.mirror.Catches.{catch_word}
use Rattle.search.specs.mirror.Kept.{word_of}
use Rattle.steps.specs.declared.Kept.{Kept}
use Rattle.steps.specs.Steps.{Source, to_target, walk_graph}
use Rattle.targets.specs.declared.BadSwitch.{BadSwitch}

-- how many bytes of prefix an instruction of this scale has
abbrev pub prefix_of : ℕ → ℕ
prefix_of scale = cond (ltb 1 scale) 1 0

abbrev pub kept_end : ℕ → Kept
kept_end size = record { head = size; word = 0 }

abbrev pub kept_on : ℕ → Kept
kept_on size = record { head = size + 256; word = 0 }

abbrev pub kept_to : ℕ → Option ℕ → Kept
kept_to head t = record { head = head; word = word_of (to_target t) }

-- without a table a switch goes on; number 16 may refuse the table
abbrev pub kept_table : Result (Option Entries) BadSwitch → ℕ → ℕ → Result Kept BadSwitch
kept_table (Ok None) prefix size = Ok (kept_on size)
kept_table (Ok (Some e)) prefix size = Ok (record { head = size + 1280 + 2048 * prefix + 4096 * e.count; word = e.start })
kept_table (Err e) prefix size = Err e

abbrev pub kept_by : Kind → Option ℕ → Result (Option Entries) BadSwitch → ℕ → ℕ → Result Kept BadSwitch
kept_by On t entries prefix size = Ok (kept_on size)
kept_by Ends t entries prefix size = Ok (kept_end size)
kept_by Jumps t entries prefix size = Ok (kept_to (size + 512) t)
kept_by Branches t entries prefix size = Ok (kept_to (size + 768) t)
kept_by JumpsBack t entries prefix size = Ok (kept_to (size + 512) t)
kept_by Switch t entries prefix size = kept_table entries prefix size

unfoldable pub kept_of : (ℕ → Option Elem) → Bool → Flow → Instr → ℕ → Result Kept BadSwitch
kept_of el pooled flow i size = kept_by flow.kind (jump_target el flow i) (jump_table pooled flow i) (prefix_of i.scale) size

-- what is stored of an instruction of so many bytes: of one whose table is refused, what is kept of one that goes on
abbrev pub stored : ℕ → Result Kept BadSwitch → Kept
stored size (Ok k) = k
stored size (Err e) = kept_on size

-- ---- a code
abbrev pub decoded_at : Source → ℕ → Decoded
decoded_at s o = decodes s.code s.opcodes s.types s.rfs o

-- of the instruction decoded at o
unfoldable pub kept_at : Source → ℕ → Kept
kept_at s o = let i = instr_in (decoded_at s o) in stored (i.end - o) (kept_of s.elem s.pooled (s.opcodes.flow i.opcode) i (i.end - o))

-- heads and words hold what is kept of the instruction at o
pub record Holds (s : Source) (heads words : List ℕ) (o : ℕ) : Type 0 where
  pub done : Done (decoded_at s o)
  pub head : get_or heads o 0 ≡ (kept_at s o).head
  pub word : get_or words o 0 ≡ (kept_at s o).word

-- of each instruction, and of nothing else
pub record Keeps (s : Source) (heads words : List ℕ) : Type 0 where
  pub starts : (t : ℕ) → is_start (walk_graph s) t ≡ not (eqb (get_or heads t 0) 0)
  pub holds : (t : ℕ) → (get_or heads t 0 ≡ 0 → ⊥) → Holds s heads words t

-- a table of words has that of each instruction
abbrev pub Catches : Source → List ℕ → Type 0
Catches s catches = (o : ℕ) → o < length s.code → Done (decoded_at s o)
    → get_or catches o 0 ≡ catch_word s.handlers (s.opcodes.returns (instr_in (decoded_at s o)).opcode) o
