-- What is read of an opcode file, as functions. Above crate tables believed definitions see opcodes by these alone: only `opcodes_of` knows how
-- their records lie.
use Rattle.std.specs.Prelude.{ℕ, List, Bool, Option}
use Rattle.tables.specs.Records.{opcode_count, prefix_mark, operand_count, type_code, first_marked}
use Rattle.tables.specs.declared.Prefixes.{Prefixes}
use Rattle.tables.specs.Texts.{op_name}
use Rattle.flow.specs.declared.Flow.{Flow}
use Rattle.flow.specs.Flow.{flow_of, is_return}

pub record Opcodes : Type 0 where
  -- how many there are: an opcode is a number below it
  pub many : ℕ
  -- an opcode's prefix mark: 0 none, 1 Wide, 2 ExtraWide
  pub mark : ℕ → ℕ
  -- how many operands an opcode has
  pub operands : ℕ → ℕ
  -- the type code of an opcode's operand k
  pub code : ℕ → ℕ → ℕ
  -- an opcode's plain name
  pub name : ℕ → List ℕ
  -- what an opcode does with the flow of control
  pub flow : ℕ → Flow
  -- whether an opcode returns to the caller, so that no handler of its function is ever asked
  pub returns : ℕ → Bool

abbrev pub opcodes_of : List ℕ → Opcodes
opcodes_of s = record {
  many = opcode_count s;
  mark = prefix_mark s;
  operands = operand_count s;
  code = type_code s;
  name = op_name s;
  flow = flow_of s;
  returns = is_return s;
}

-- the prefix opcode of a mark; of `opcodes_of s` it is tables' `prefix_op s`
abbrev pub prefix_with : Opcodes → ℕ → Option ℕ
prefix_with o mark = first_marked o.many o.mark mark

-- the two prefix opcodes; of `opcodes_of s` it is tables' `prefixes_of s`
abbrev pub prefixes_with : Opcodes → Prefixes
prefixes_with o = record { wide = prefix_with o 1; extra_wide = prefix_with o 2 }
