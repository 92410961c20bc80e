-- A record and a file in either form, as the loop that puts records asks for it: `new_file` and `old_file` are its records one behind the other, by
-- their text.
use Rattle.std.specs.Prelude.{ℕ, List}
use Rattle.tables.specs.declared.Form.{Form}
use Rattle.tables.specs.declared.Form.TheVariants.{Old, New}
use Rattle.convert.specs.Convert.{new_record, new_file, old_record, old_file}

abbrev pub other : Form → Form
other Old = New
other New = Old

abbrev pub record_as : Form → List ℕ → ℕ → List ℕ
record_as New ops k = new_record ops k
record_as Old ops k = old_record ops k

abbrev pub file_as : Form → List ℕ → List ℕ
file_as New ops = new_file ops
file_as Old ops = old_file ops
