-- What an instruction does with the flow of control, as its opcode's record says.
use Rattle.std.specs.Prelude.{ℕ, List, [], ◌∷◌, Bool, false, ◌||◌, eqb, get_or}
use Rattle.laws.specs.Ascii.{ascii}
use Rattle.tables.specs.Names.{is_named}
use Rattle.tables.specs.Records.{opcode_name_size, opcode_start, op_byte}
use Rattle.flow.specs.declared.Kind.{Kind}
use Rattle.flow.specs.declared.Kind.TheVariants.{On, Ends, Jumps, Branches, JumpsBack, Switch}
use Rattle.flow.specs.declared.Flow.{Flow}

-- 02, Wish 6: "Byte 50 is the flow: 0 straight on, 1 ends, 2 jumps, 3 jumps or goes on, 4 jumps back, 5 switch." Any other is refused, 26.
unfoldable pub flow_kind : ℕ → Kind
flow_kind b = get_or (On ∷ Ends ∷ Jumps ∷ Branches ∷ JumpsBack ∷ Switch ∷ []) b On

-- "Byte 51 is 1 if the distance comes from the pool, else 0. Byte 52, 0 to 7, numbers the first decoded operand used. Byte 53 is 1 if a switch has
-- a case base, else 0."
unfoldable pub flow_of : List ℕ → ℕ → Flow
flow_of ops op = record {
  kind = flow_kind (op_byte ops op 50);
  pool = eqb (op_byte ops op 51) 1;
  first = op_byte ops op 52;
  base = eqb (op_byte ops op 53) 1;
}

-- a flow whose first operand is used, and that has no case base
abbrev pub plain : Kind → Bool → Flow
plain kind pool = record { kind = kind; pool = pool; first = 0; base = false }

-- V8: Bytecodes::Returns, RETURN_BYTECODE_LIST. 02, Wish 5: "except Return and SuspendGenerator", by name
unfoldable pub is_return : List ℕ → ℕ → Bool
is_return ops op = is_named ops (opcode_start op) opcode_name_size (ascii "Return") || is_named ops (opcode_start op) opcode_name_size (ascii "SuspendGenerator")
