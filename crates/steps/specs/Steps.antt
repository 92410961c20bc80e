-- The steps of an instruction. 01, "Walks": "From an instruction ending before e, by plain name: .."; and 02's Wish 5, the step to a handler.
use Rattle.std.specs.Prelude.{ℕ, zero, suc, ◌+◌, Bool, cond, List, [], ◌∷◌, ◌++◌, map, eqb, ℤ}
use Rattle.graph.specs.Graph.{Graph, Step}
use Rattle.graph.specs.Graph.Step.{to_offset, no_target}
use Rattle.decoder.specs.declared.Instr.{Instr}
use Rattle.decoder.specs.Listed.{Listing, listed}
use Rattle.flow.specs.Opcodes.{Opcodes}
use Rattle.flow.specs.declared.Flow.{Flow}
use Rattle.flow.specs.declared.Kind.{Kind}
use Rattle.flow.specs.declared.Kind.TheVariants.{On, Ends, Jumps, Branches, JumpsBack, Switch}
use Rattle.handlers.specs.Handlers.{handler_at}
use Rattle.std.specs.Prelude.{Option, Some, None, Result, Ok, Err}
use Rattle.targets.specs.declared.Case.{Case}
use Rattle.serializer.specs.declared.Elem.{Elem}
use Rattle.targets.specs.Targets.{here, jump_target, jump_table, entry_at}
use Rattle.targets.specs.declared.Entries.{Entries}
use Rattle.targets.specs.declared.BadSwitch.{BadSwitch}

-- what walks come from: "the lent code, records and payload, never .. the marks"; and the
-- handler records, where some are lent
pub record Source : Type 0 where
  pub code : List ℕ
  pub opcodes : Opcodes
  pub types : List ℕ
  pub rfs : ℤ
  pub pooled : Bool
  pub elem : ℕ → Option Elem
  pub handlers : List ℕ

-- the step to a target; without one, "a step with no target"
abbrev pub to_target : Option ℕ → Step
to_target (Some t) = to_offset t
to_target None = no_target

-- a step for an entry shown
abbrev pub entry_steps : Option Case → List Step
entry_steps (Some c) = to_offset c.target ∷ []
entry_steps None = []

-- entries k to k + n - 1
unfoldable pub entries_steps : (ℕ → Option Elem) → ℕ → Entries → ℕ → ℕ → List Step
entries_steps el at e k zero = []
entries_steps el at e k (suc n) = entry_steps (entry_at el at e k) ++ entries_steps el at e (k + 1) n

abbrev pub table_steps : (ℕ → Option Elem) → ℕ → Result (Option Entries) BadSwitch → List Step
table_steps el at (Ok None) = []
table_steps el at (Ok (Some e)) = entries_steps el at e 0 e.count
table_steps el at (Err e) = []

-- "Return, SuspendGenerator, Throw, ReThrow, Abort end it. Jump, JumpConstant, JumpLoop, JumpLoopConstant go to the target. Other names in
-- `jump_target`'s list go to the target or e. A switch goes to any entry shown or e. All others go to e."
-- The jumps: to the target, or to the entries
abbrev pub jumps_by : Kind → Option ℕ → List Step → List Step
jumps_by Ends t entries = []
jumps_by Jumps t entries = to_target t ∷ []
jumps_by JumpsBack t entries = to_target t ∷ []
jumps_by Branches t entries = to_target t ∷ []
jumps_by Switch t entries = entries
jumps_by On t entries = []

-- the step to e, where there is one
abbrev pub on_by : Kind → ℕ → List Step
on_by Ends e = []
on_by Jumps e = []
on_by JumpsBack e = []
on_by Branches e = to_offset e ∷ []
on_by Switch e = to_offset e ∷ []
on_by On e = to_offset e ∷ []

abbrev pub jump_steps : (ℕ → Option Elem) → Bool → Flow → Instr → List Step
jump_steps el pooled flow i = jumps_by flow.kind (jump_target el flow i) (table_steps el (here i) (jump_table pooled flow i))

abbrev pub on_steps : Flow → Instr → List Step
on_steps flow i = on_by flow.kind i.end

unfoldable pub instr_steps : (ℕ → Option Elem) → Bool → Flow → Instr → List Step
instr_steps el pooled flow i = jump_steps el pooled flow i ++ on_steps flow i

-- 02, Wish 5: "a walk may also go to the handler"; "An instruction that ends a walk still has this step, except Return and SuspendGenerator." The
-- instruction's offset is its prefix's, where it has one.
abbrev pub to_handler : Option ℕ → List Step
to_handler None = []
to_handler (Some t) = to_offset t ∷ []

abbrev pub handler_steps : Source → Instr → List Step
handler_steps s i = cond (s.opcodes.returns i.opcode) [] (to_handler (handler_at s.handlers i.offset))

-- the steps from the listed instruction at o
unfoldable pub steps_at : Source → List Instr → ℕ → List Step
steps_at s [] o = []
steps_at s (i ∷ is) o = cond (eqb i.offset o) (handler_steps s i ++ instr_steps s.elem s.pooled (s.opcodes.flow i.opcode) i) (steps_at s is o)

-- "Listed instructions are decoded from byte 0 of non-empty code, each where the last ended, to its end."
abbrev pub listing : Source → Listing
listing s = listed s.code s.opcodes s.types s.rfs

abbrev pub offset : Instr → ℕ
offset i = i.offset

-- the graph whose walks are 01's walks
unfoldable pub walk_graph : Source → Graph
walk_graph s = record { starts = map offset (listing s).instrs; steps = steps_at s (listing s).instrs }
