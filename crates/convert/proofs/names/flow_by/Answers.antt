use mathlib.Core.Path.{refl, sym, ◌∙◌}
use native.Mathlib.Omega.{arith}
use mathlib.Core.Bool.{true}
use Prim.Native.Nat.{◌≤◌}
use Rattle.flow.specs.declared.Kind.TheVariants.{Branches}
use Rattle.flow.specs.Flow.{plain}
use Rattle.convert.specs.Names.{flows, flow_by}
use Rattle.convert.proofs.Flows.{flow_run, flow_past}
use Rattle.convert.proofs.names.flow_by.Goals as goal

pub returns-in-22-to-34 : goal.returns-in-22-to-34
unfolding flow_by flows
returns-in-22-to-34 c = c.plain-in-22-to-34.ensures ∙ sym (flow_run (plain Branches true) 22 13 refl c.args.k (omega arith) (omega arith))

pub returns-in_default : goal.returns-in_default
unfolding flow_by flows
returns-in_default c =
    let h : 37 ≤ c.args.k = omega arith in
    c.plain-in_default.ensures ∙ sym (flow_past c.args.k h)
