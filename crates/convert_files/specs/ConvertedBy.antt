-- What `jscd_convert` prints.
use Rattle.std.specs.Prelude.{ℕ, List}
use Rattle.std.specs.Prelude.{Result}
use Rattle.refusal.specs.Refusal.{Refusal}
use Rattle.tables.specs.declared.Form.{Form}
use Rattle.tables.specs.declared.Form.TheVariants.{Old, New}
use Rattle.convert.specs.Convert.{to_new_call, to_old_call}

-- the opcodes in the form asked for, into a buffer
abbrev pub converted_by : Form → List ℕ → List ℕ → List ℕ → Result ℕ Refusal × List ℕ
converted_by New ops tys out = to_new_call ops tys out
converted_by Old ops tys out = to_old_call ops tys out
