-- Row k of the names is name k, filled up.
use Rattle.std.proofs.Common.{◌∙◌, arith}
use Rattle.tables.specs.Records.{type_names, type_name_size}
use Rattle.tables.proofs.Rows.{row_named, row_room}
use Rattle.tables.proofs.records.has_type_name.Goals as goal

pub slice_bounds-name_is-end : goal.slice_bounds-name_is-end
unfolding type_names
slice_bounds-name_is-end c = let s = c in
    let h = row_room type_name_size type_names s.args.names.now s.args.k s.requires.1 s.requires.0 in omega arith

pub returns : goal.returns
unfolding type_names
returns c =
    let s = c in
    c.name_is.ensures ∙ row_named s.args.s.now s.args.at type_name_size type_names s.args.names.now s.args.k s.requires.1 s.requires.0
