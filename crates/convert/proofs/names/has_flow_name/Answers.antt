-- Row k of the names is name k, filled up.
use mathlib.Core.Path.{◌∙◌}
use native.Mathlib.Omega.{arith}
use Rattle.tables.specs.Records.{opcode_name_size}
use Rattle.tables.proofs.Rows.{row_named, row_room}
use Rattle.convert.specs.Names.{flow_names}
use Rattle.convert.proofs.names.has_flow_name.Goals as goal

pub slice_bounds-name_is-end : goal.slice_bounds-name_is-end
unfolding flow_names
slice_bounds-name_is-end c =
    let s = c in
    let h = row_room opcode_name_size flow_names s.args.names.now s.args.k s.requires.1 s.requires.0 in
    omega arith

pub returns : goal.returns
unfolding flow_names
returns c =
    let s = c in
    c.name_is.ensures ∙ row_named s.args.opcodes.now s.args.at opcode_name_size flow_names s.args.names.now s.args.k s.requires.1 s.requires.0
