-- What is read of an opcode file of 01's form, as `opcodes_of` of crate flow has it of the new form: the flow by name. `same_table` of proofs/Same.antt
-- says that a converted file reads the same.
use Rattle.std.specs.Prelude.{ℕ, ◌+◌, ◌*◌, ◌/◌, Bool, cond, ◌||◌, List, ltb, length, get_or}
use Rattle.laws.specs.Ascii.{ascii}
use Rattle.tables.specs.Names.{name_at, is_named}
use Rattle.tables.specs.Records.{old_size, opcode_name_size}
use Rattle.flow.specs.Opcodes.{Opcodes}
use Rattle.convert.specs.Convert.{named_flow}

abbrev pub old_byte : List ℕ → ℕ → ℕ → ℕ
old_byte s op k = get_or s (op * old_size + k) 0

abbrev pub has_name : List ℕ → ℕ → List ℕ → Bool
has_name s op name = is_named s (op * old_size) opcode_name_size name

abbrev pub old_opcodes : List ℕ → Opcodes
old_opcodes s = record {
  many = length s / old_size;
  mark = λ op. old_byte s op 40;
  operands = λ op. old_byte s op 41;
  code = λ op k. cond (ltb k 8) (old_byte s op (42 + k)) 0;
  name = λ op. name_at s (op * old_size) opcode_name_size;
  flow = λ op. named_flow s (op * old_size);
  returns = λ op. has_name s op (ascii "Return") || has_name s op (ascii "SuspendGenerator");
}
