-- By conversion V8's names have the flows of V8's jumps and switches. Assumes nothing.
use Prim.Native.String.{String}
use mathlib.Core.Path.{◌≡◌, refl}
use mathlib.Core.Bool.{true, false}
use mathlib.Core.List.{[], ◌∷◌, map}
use lib.ListN.{replicate}
use Rattle.laws.specs.Ascii.{ascii}
use Rattle.laws.specs.Scan.{first_from}
use Rattle.tables.specs.Names.{is_named}
use Rattle.flow.specs.declared.Flow.{Flow}
use Rattle.convert.specs.Names.{flow_names, flows, flow_number, flow_by}
use Rattle.convert.specs.Convert.{named_flow}
use Rattle.targets.specs.V8.Jump.{jump_loop, jump_immediate, jump_constant}
use Rattle.targets.specs.V8.Switch.{switch_on_generator_state, switch_on_smi_no_feedback}
use Rattle.targets.specs.Form.{jump_flow, switch_flow}
use Rattle.converted.specs.V8Names.{conditional_immediates, conditional_constants}

-- the flow of a name, which stands in front of a record
abbrev flow_named : String → Flow
flow_named name = named_flow (ascii name) 0

pub names_conditional : (map flow_named conditional_immediates ≡ replicate 10 (jump_flow jump_immediate true)) × (map flow_named conditional_constants ≡ replicate 10 (jump_flow jump_constant true))
unfolding flow_names flows flow_number flow_by first_from is_named
names_conditional = (refl, refl)

pub names_always : map flow_named ("JumpLoop" ∷ "Jump" ∷ "JumpConstant" ∷ "SwitchOnGeneratorState" ∷ "SwitchOnSmiNoFeedback" ∷ [])
    ≡ jump_flow jump_loop false ∷ jump_flow jump_immediate false ∷ jump_flow jump_constant false ∷ switch_flow switch_on_generator_state ∷ switch_flow switch_on_smi_no_feedback ∷ []
unfolding flow_names flows flow_number flow_by first_from is_named
names_always = refl
