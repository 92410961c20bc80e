use Rattle.std.proofs.Common.{sym, ◌∙◌}
use Rattle.convert.specs.Names.{flow_number}
use Rattle.convert.proofs.Flows.{flow_none}
use Rattle.convert.proofs.names.named_flow.Goals as goal

pub returns-in-None : goal.returns-in-None
returns-in-None c = c.plain.ensures ∙ sym (flow_none (flow_number c.args.opcodes.now c.args.at) (sym c.flow_number.ensures ∙ c.in-None.is))
