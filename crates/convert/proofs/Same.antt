-- 02, Wish 6: "The Rust is matched on converted records": what is read of a converted file is what 01's file says. Assumes nothing.
use Prim.Native.Nat.{ℕ, ◌+◌, ◌*◌, ◌/◌, ◌%◌, ◌<◌, ◌≤◌}
use mathlib.Core.Path.{◌≡◌, refl, sym, ap, ◌∙◌}
use mathlib.Core.Bool.{Bool, true, false, cond, ◌||◌}
use mathlib.Core.List.{List, []}
use mathlib.Core.Logic.{⊎_elim}
use native.Mathlib.Omega.{arith}
use borrow.Author.Tests.{ltb-true}
use lib.Dec.{ltb, eqb}
use lib.ListN.{length, get_or, take, drop_of_length-le, get_or-eq_default}
use Rattle.laws.specs.Ascii.{ascii}
use Rattle.laws.specs.Scan.{first_from}
use Rattle.laws.proofs.Tests.{under?}
use Rattle.tables.specs.Names.{is_named, name_at}
use Rattle.tables.specs.Records.{type_code}
use Rattle.flow.specs.declared.Kind.{Kind}
use Rattle.flow.specs.declared.Kind.TheVariants.{On, Ends, Jumps, Branches, JumpsBack, Switch}
use Rattle.flow.specs.Flow.{flow_kind, flow_of, plain, is_return}
use Rattle.flow.specs.Opcodes.{opcodes_of}
use Rattle.convert.specs.Names.{flow_names, flows, flow_number, flow_by}
use Rattle.convert.specs.Convert.{kind_byte, bit, named_flow, fields, new_file}
use Rattle.convert.specs.Old.{old_byte, old_opcodes}
use Rattle.convert.proofs.Convert.{new_length, flow_byte, new_fields}
use Rattle.convert.proofs.Fields.{same_byte, same_named, same_name, same_flow}

kind_back : (k : Kind) → flow_kind (kind_byte k) ≡ k
unfolding flow_kind
kind_back On = refl
kind_back Ends = refl
kind_back Jumps = refl
kind_back Branches = refl
kind_back JumpsBack = refl
kind_back Switch = refl

bit_back : (b : Bool) → eqb (bit b) 1 ≡ b
bit_back true = refl
bit_back false = refl

-- a record that is not there has no name, and goes straight on
unnamed : flow_number [] 0 ≡ 37
unfolding flow_number first_from is_named flow_names
unnamed = refl

no_flow : flow_by 37 ≡ plain On false
unfolding flow_by flows
no_flow = refl

module _ (ops : List ℕ) where
  -- the flow in a new record is that of its name
  in_flow : (op : ℕ) → op < length ops / 64 → flow_of (new_file ops) op ≡ named_flow ops (op * 64)
  unfolding flow_of
  in_flow op h =
      let f = named_flow ops (op * 64) in
      let a : get_or (new_file ops) (op * 72 + 50) 0 ≡ kind_byte f.kind = flow_byte ops op 0 h (omega arith) in
      let b : get_or (new_file ops) (op * 72 + 51) 0 ≡ bit f.pool = flow_byte ops op 1 h (omega arith) in
      let c : get_or (new_file ops) (op * 72 + 52) 0 ≡ f.first = flow_byte ops op 2 h (omega arith) in
      let d : get_or (new_file ops) (op * 72 + 53) 0 ≡ bit f.base = flow_byte ops op 3 h (omega arith) in
      rw (a, b, c, d, kind_back f.kind, bit_back f.pool, bit_back f.base)

  module _ (whole : length ops % 64 ≡ 0) where
    -- the same fields, behind the end too, where there are none
    same_fields : (op : ℕ) → fields (new_file ops) (op * 72) ≡ fields ops (op * 64)
    same_fields op = ⊎_elim (new_fields ops op) past (under? op (length ops / 64))
      where
        past : length ops / 64 ≤ op → fields (new_file ops) (op * 72) ≡ fields ops (op * 64)
        past l =
            let a : length (new_file ops) ≤ op * 72 = omega (arith, new_length ops) in
            let b : length ops ≤ op * 64 = omega arith in
            ap (take 50) (drop_of_length-le (new_file ops) a ∙ sym (drop_of_length-le ops b))

    -- the flow of every opcode is that of its name
    pub new_flow : (op : ℕ) → flow_of (new_file ops) op ≡ named_flow ops (op * 64)
    unfolding flow_of flow_kind
    new_flow op = ⊎_elim (in_flow op) past (under? op (length ops / 64))
      where
        past : length ops / 64 ≤ op → flow_of (new_file ops) op ≡ named_flow ops (op * 64)
        past l =
            let long : length (new_file ops) ≤ op * 72 = omega (arith, new_length ops) in
            let byte : (k : ℕ) → get_or (new_file ops) (op * 72 + k) 0 ≡ 0 = λ k. get_or-eq_default (new_file ops) 0 (omega arith) in
            let none : fields ops (op * 64) ≡ fields [] 0 = let b : length ops ≤ op * 64 = omega arith in ap (take 50) (drop_of_length-le ops b) in
            rw (byte 50, byte 51, byte 52, byte 53) (sym (same_flow ops [] (op * 64) 0 none ∙ ap flow_by unnamed ∙ no_flow))

    marks : (op : ℕ) → get_or (new_file ops) (op * 72 + 40) 0 ≡ old_byte ops op 40
    marks op = same_byte (new_file ops) ops (op * 72) (op * 64) (same_fields op) 40 (omega arith)

    counts : (op : ℕ) → get_or (new_file ops) (op * 72 + 41) 0 ≡ old_byte ops op 41
    counts op = same_byte (new_file ops) ops (op * 72) (op * 64) (same_fields op) 41 (omega arith)

    codes : (op k : ℕ) → type_code (new_file ops) op k ≡ cond (ltb k 8) (old_byte ops op (42 + k)) 0
    unfolding type_code
    codes op k = go (ltb k 8) refl
      where
        go : (t : Bool) → ltb k 8 ≡ t → cond t (get_or (new_file ops) (op * 72 + (42 + k)) 0) 0 ≡ cond t (old_byte ops op (42 + k)) 0
        go true e = let l = ltb-true k 8 e in same_byte (new_file ops) ops (op * 72) (op * 64) (same_fields op) (42 + k) (omega arith)
        go false e = refl

    names : (op : ℕ) → name_at (new_file ops) (op * 72) 40 ≡ name_at ops (op * 64) 40
    names op = same_name (new_file ops) ops (op * 72) (op * 64) (same_fields op)

    returning : (op : ℕ) → is_return (new_file ops) op ≡ (is_named ops (op * 64) 40 (ascii "Return") || is_named ops (op * 64) 40 (ascii "SuspendGenerator"))
    unfolding is_return
    returning op =
        let same = same_named (new_file ops) ops (op * 72) (op * 64) (same_fields op) in
        rw (same (ascii "Return"), same (ascii "SuspendGenerator"))

    -- a converted file reads as 01's file
    pub same_table : opcodes_of (new_file ops) ≡ old_opcodes ops
    same_table =
        let many : length (new_file ops) / 72 ≡ length ops / 64 = omega (arith, new_length ops) in
        λ i. record {
          many = many i;
          mark = λ op. marks op i;
          operands = λ op. counts op i;
          code = λ op k. codes op k i;
          name = λ op. names op i;
          flow = λ op. new_flow op i;
          returns = λ op. returning op i;
        }
