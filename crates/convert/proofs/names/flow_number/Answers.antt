-- The rules of the names and of the index, each tested at once, which antt computes.
use mathlib.Core.Path.{refl}
use Rattle.tables.specs.mirror.Rows.{filled, rows}
use Rattle.tables.proofs.Rows.{same_as, same_is}
use Rattle.convert.specs.Names.{flow_names}
use Rattle.convert.specs.mirror.Index.{place_of}
use Rattle.convert.proofs.Index.{index_right, indexed}
use Rattle.convert.proofs.names.flow_number.Goals as goal

pub number_by-requires : goal.number_by-requires
unfolding same_as filled rows flow_names index_right place_of
number_by-requires c = (same_is _ _ refl, indexed _ refl)
