-- For instructions in V8's form our targets and entries are V8's. Assumes nothing.
use Rattle.std.proofs.Common.{◌≡◌, ℕ, zero, suc, ◌+◌, ◌^◌, ◌<◌, ◌≤◌, min, Bool, true, false, cond, ◌||◌, eqb, List, [], ◌∷◌, ◌++◌, length, map, get_or, ℤ, pos, negsuc, ◌+ℤ◌, neg_ℤ, nat_abs, sym, refl, ap, ◌∙◌, le_of_suc-le-suc, not-suc-le-zero, mod-eq_of_lt, arith, w32, SFits, lt-ltb, le-leb}
use lib.IntN.{+ℤ_assoc, +ℤ_comm, +ℤ_idr}
use Rattle.words.specs.Signed.{modulo, wrap32}
use Rattle.words.proofs.Le.{Bytes}
use Rattle.words.proofs.Signs.{wrap_add_wrap}
use Rattle.operand.specs.declared.Operand.{Operand}
use Rattle.operand.specs.declared.Operand.TheVariants.{Imm, Idx}
use Rattle.decoder.specs.declared.Instr.{Instr}
use Rattle.decoder.specs.Decode.{instr_in, instr_of, places_of, record_of}
use Rattle.flow.specs.Opcodes.{Opcodes}
use Rattle.decoder.specs.Listed.{decodes}
use Rattle.decoder.specs.V8.{OperandType, Bytecodes, type_info, is_unsigned, is_prefix_scaling, to_int, size, prefix_size, operand_scale, current_bytecode, current_types, next_offset, get_operand}
use Rattle.decoder.specs.V8.OperandType.{k_idx, k_u_imm, k_imm, k_reg}
use Rattle.decoder.specs.Form.{code_of, V8Form, shown_operand, shown_from}
use Rattle.decoder.proofs.V8.{wrap_fits, operand_int, v8_decoding}
use Rattle.std.specs.Prelude.{Option, Some, None, Ok}
use Rattle.serializer.specs.declared.Elem.{Elem}
use Rattle.targets.specs.declared.Entries.{Entries}
use Rattle.targets.specs.Targets.{operand_of, here, index_of, number_of, smi_of, distance_by, target_from, jump_target, sized_by, table_by, jump_table, entry_at}
use Rattle.targets.specs.V8.{Jump, Switch, ConstantPool, TargetOffset, get_absolute_offset, get_jump_target_offset, offsets_from, get_jump_table_target_offsets}
use Rattle.targets.specs.V8.Jump.{jump_loop, jump_immediate, jump_constant}
use Rattle.targets.specs.V8.Switch.{switch_on_generator_state, switch_on_smi_no_feedback}
use Rattle.targets.specs.Form.{SamePool, jump_flow, switch_flow, jump_types, switch_types, Int, Offset, Distance, v8_table, Held, v8_entries, shown_of, shown_entries}

-- ---- what V8's int holds is kept
to_int_same : (n : ℕ) → n < 2 ^ 31 → to_int (pos n) ≡ pos n
to_int_same n h = let l : n < 2 ^ 32 = omega arith in rw (mod-eq_of_lt l, lt-ltb n 2147483648 h)

wrap_same : (z : ℤ) → Int z → wrap32 z ≡ z
wrap_same z h = wrap_fits z (fits z h)
  where
    fits : (z : ℤ) → Int z → SFits w32 z
    fits (pos n) h = record { sfits = h }
    fits (negsuc n) h = record { sfits = h }

target_same : (z : ℤ) → Offset z → modulo (2 ^ 64) z ≡ nat_abs z
unfolding modulo
target_same (pos n) h = mod-eq_of_lt (omega arith)
target_same (negsuc n) h = absurd h

-- a distance from the opcode, as V8 counts it
sum_same : (offset prefix : ℕ) (r : ℤ) → pos (offset + prefix) +ℤ r ≡ pos offset +ℤ r +ℤ pos prefix
sum_same offset prefix r =
    +ℤ_assoc (pos offset) (pos prefix) r ∙ ap (λ (z : ℤ). pos offset +ℤ z) (+ℤ_comm (pos prefix) r) ∙ sym (+ℤ_assoc (pos offset) r (pos prefix))

away_same : (offset prefix : ℕ) (r : ℤ) → Offset (pos offset +ℤ r +ℤ pos prefix) → modulo (2 ^ 64) (pos (offset + prefix) +ℤ r) ≡ nat_abs (pos offset +ℤ r +ℤ pos prefix)
away_same offset prefix r h = rw (sum_same offset prefix r) (target_same (pos offset +ℤ r +ℤ pos prefix) h)

-- what operands say
index_of_lem : {op : Option Operand} {v : ℕ} → op ≡ Some (Idx v) → index_of op ≡ Some v
unfolding index_of
index_of_lem f = rw f

number_of_lem : {op : Option Operand} {v : ℕ} → op ≡ Some (Idx v) → number_of op ≡ Some (pos v)
unfolding number_of
number_of_lem f = rw f

base_of_lem : {op : Option Operand} {c : ℤ} → op ≡ Some (Imm c) → number_of op ≡ Some c
unfolding number_of
base_of_lem f = rw f

-- ---- one instruction, whose distances count from offset + prefix and whose operands hold the numbers z
module _ (el : ℕ → Option Elem) (pool : ConstantPool) (same : SamePool el pool) (offset prefix : ℕ) (z : ℕ → OperandType → ℤ) (i : Instr) (from : here i ≡ offset + prefix) where
  abbrev Jumps : Jump → Bool → Type 0
  Jumps j c = jump_target el (jump_flow j c) i ≡ Some (nat_abs (get_jump_target_offset offset prefix z pool j))

  -- a distance from here
  from_here : (r : ℤ) → Offset (get_absolute_offset offset prefix z pool r) → target_from (here i) (Some r) ≡ Some (nat_abs (get_absolute_offset offset prefix z pool r))
  from_here r s = rw from (ap Some (away_same offset prefix r s))

  near : (v : ℕ) → z 0 k_u_imm ≡ pos v → Int (z 0 k_u_imm) → to_int (z 0 k_u_imm) ≡ pos v
  near v u h = rw u (to_int_same v (rw u at h))

  module _ (v : ℕ) (f : operand_of i 0 ≡ Some (Idx v)) where
    immediate : (c : Bool) → z 0 k_u_imm ≡ pos v → Int (z 0 k_u_imm) → Offset (get_jump_target_offset offset prefix z pool jump_immediate) → Jumps jump_immediate c
    unfolding jump_target distance_by
    immediate true u h s = rw (number_of_lem f, near v u h) (from_here (pos v) (rw (near v u h) at s))
    immediate false u h s = rw (number_of_lem f, near v u h) (from_here (pos v) (rw (near v u h) at s))

    loop : (c : Bool) → z 0 k_u_imm ≡ pos v → Int (z 0 k_u_imm) → Offset (get_jump_target_offset offset prefix z pool jump_loop) → Jumps jump_loop c
    unfolding jump_target distance_by
    loop c u h s = rw (number_of_lem f, near v u h) (from_here (neg_ℤ (pos v)) (rw (near v u h) at s))

    constant : (c : Bool) → z 0 k_idx ≡ pos v → pool.is_smi (nat_abs (z 0 k_idx)) ≡ true → Offset (get_jump_target_offset offset prefix z pool jump_constant) → Jumps jump_constant c
    unfolding jump_target distance_by
    constant c u h s = go c
      where
        smi : smi_of (el v) ≡ Some (pool.as_smi (nat_abs (z 0 k_idx)))
        smi =
            same v ∙ ap (λ (x : ℤ). cond (pool.is_smi (nat_abs x)) (Some (pool.as_smi (nat_abs x))) None) (sym u)
            ∙ ap (λ (x : Bool). cond x (Some (pool.as_smi (nat_abs (z 0 k_idx)))) None) h

        go : (c : Bool) → Jumps jump_constant c
        go true = rw (index_of_lem f) (ap (target_from (here i)) smi ∙ from_here (pool.as_smi (nat_abs (z 0 k_idx))) s)
        go false = rw (index_of_lem f) (ap (target_from (here i)) smi ∙ from_here (pool.as_smi (nat_abs (z 0 k_idx))) s)

  -- entries of a table with case values from base on
  module _ (e : Entries) (base : ℤ) (b : e.base ≡ wrap32 base) where
    shown_entry : (k : ℕ) → pool.is_smi (e.start + k) ≡ true → Int (base +ℤ pos k) → Offset (get_absolute_offset offset prefix z pool (pool.as_smi (e.start + k)))
        → entry_at el (here i) e k ≡ Some (record { case = base +ℤ pos k; target = nat_abs (get_absolute_offset offset prefix z pool (pool.as_smi (e.start + k))) })
    unfolding entry_at
    shown_entry k t c s = rw (same (e.start + k), t, from, b, wrap_add_wrap base (pos k), wrap_same (base +ℤ pos k) c, away_same offset prefix (pool.as_smi (e.start + k)) s)

    skipped_entry : (k : ℕ) → pool.is_smi (e.start + k) ≡ false → entry_at el (here i) e k ≡ None
    unfolding entry_at
    skipped_entry k t = rw (same (e.start + k), t)

    entries_same : (k n place : ℕ) (index : ℤ) → place ≡ e.start + k → index ≡ base +ℤ pos k → Held (offsets_from offset prefix z pool index place n)
        → shown_entries el (here i) e k n ≡ v8_entries (offsets_from offset prefix z pool index place n)
    entries_same k zero place index p q h = refl
    entries_same k (suc n) place index p q h =
        go (pool.is_smi place) refl h (entries_same (k + 1) n (place + 1) (index +ℤ pos 1) (omega arith) (rw q (+ℤ_assoc base (pos k) (pos 1))))
      where
        rest : List TargetOffset
        rest = offsets_from offset prefix z pool (index +ℤ pos 1) (place + 1) n

        one : TargetOffset
        one = record { case_value = index; target_offset = get_absolute_offset offset prefix z pool (pool.as_smi place) }

        go : (t : Bool) → pool.is_smi place ≡ t → Held (cond t (one ∷ rest) rest) → (Held rest → shown_entries el (here i) e (k + 1) n ≡ v8_entries rest)
            → shown_of (entry_at el (here i) e k) (shown_entries el (here i) e (k + 1) n) ≡ v8_entries (cond t (one ∷ rest) rest)
        go true t h more =
            let s : entry_at el (here i) e k ≡ Some (record { case = index; target = nat_abs (get_absolute_offset offset prefix z pool (pool.as_smi place)) }) =
            rw (p, q) (shown_entry k (rw p at t) (rw q at h.0) (rw p at h.1)) in
            rw (s, more h.2)
        go false t h more = rw (skipped_entry k (rw p at t)) (more h)

-- the table of a switch, at any scale
module _ (i : Instr) (start n : ℕ) (few : n ≤ 4096) where
  smi_table : (c : ℤ) → wrap32 c ≡ c → operand_of i 0 ≡ Some (Idx start) → operand_of i 1 ≡ Some (Idx n) → operand_of i 2 ≡ Some (Imm c)
      → jump_table true (switch_flow switch_on_smi_no_feedback) i ≡ Ok (Some (record { start = start; count = n; base = c }))
  unfolding jump_table table_by sized_by index_of operand_of
  smi_table c w f g k = rw (index_of_lem f, number_of_lem g, base_of_lem k, le-leb n 4096 few, w)

  generator_table : operand_of i 1 ≡ Some (Idx start) → operand_of i 2 ≡ Some (Idx n)
      → jump_table true (switch_flow switch_on_generator_state) i ≡ Ok (Some (record { start = start; count = n; base = pos 0 }))
  unfolding jump_table table_by sized_by wrap32 modulo index_of operand_of
  generator_table f g = rw (index_of_lem f, number_of_lem g, le-leb n 4096 few)

-- ---- the instruction that is decoded
module _ (offset opcode scale end : ℕ) where
  places_at : (n k : ℕ) (os : List Operand) → k < n → (get_or (places_of n os) k (record_of None)).operand ≡ get_or (map Some os) k None
  places_at zero k os h = absurd (not-suc-le-zero h)
  places_at (suc n) zero [] h = refl
  places_at (suc n) zero (o ∷ os) h = refl
  places_at (suc n) (suc k) [] h = places_at n k [] (le_of_suc-le-suc h)
  places_at (suc n) (suc k) (o ∷ os) h = places_at n k os (le_of_suc-le-suc h)

  operand_at : (k : ℕ) (os : List Operand) → k < 8 → k < length os → operand_of (instr_of offset opcode scale end os) k ≡ get_or (map Some os) k None
  unfolding operand_of
  operand_at k os h l = let m : k < min (length os) 8 = omega arith in rw (lt-ltb k (min (length os) 8) m) (places_at 8 k os h)

-- V8's instruction takes a byte or more
size_one : (ts : List OperandType) (scale : ℕ) → 1 ≤ size ts scale
size_one [] scale = omega arith
size_one (t ∷ ts) scale = omega (arith, size_one ts scale)

-- V8's instruction at an offset of a code, and V8's pool
module _ (b : Bytecodes) (code : List ℕ) (ops : Opcodes) (types : List ℕ) (rfs : ℤ) (offset : ℕ) (bytes : Bytes code)
    (fits : next_offset b code offset ≤ length code)
    (form : V8Form b ops types (get_or code offset 0) (current_bytecode b code offset)) (held : length code ≤ 2 ^ 31)
    (el : ℕ → Option Elem) (pool : ConstantPool) (same : SamePool el pool) where
  abbrev instr : Instr
  instr = instr_in (decodes code ops types rfs offset)

  abbrev prefix : ℕ
  prefix = prefix_size b code offset

  abbrev z : ℕ → OperandType → ℤ
  z = get_operand b code offset

  abbrev told : List OperandType → Instr
  told ts = instr_of offset (current_bytecode b code offset) (operand_scale b code offset) (next_offset b code offset) (shown_from z rfs false 0 ts)

  instr_is : (ts : List OperandType) → current_types b code offset ≡ ts → instr ≡ told ts
  instr_is ts e = ap instr_in (v8_decoding b code ops types rfs offset bytes fits form) ∙ ap told e

  -- distances count from behind the prefix
  here_is : (ts : List OperandType) → here (told ts) ≡ offset + prefix
  here_is ts =
      let l : offset + prefix < 2 ^ 64 = omega (arith, size_one (current_types b code offset) (operand_scale b code offset)) in
      go (is_prefix_scaling b x) (eqb x b.k_wide || eqb x b.k_debug_break_wide) l
    where
      x : ℕ
      x = get_or code offset 0

      go : (p w : Bool) → offset + cond p 1 0 < 2 ^ 64
          → here (instr_of offset (current_bytecode b code offset) (cond p (cond w 2 4) 1) (next_offset b code offset) (shown_from z rfs false 0 ts)) ≡ offset + cond p 1 0
      go true true l = mod-eq_of_lt l
      go true false l = mod-eq_of_lt l
      go false w l = mod-eq_of_lt l

  at : (ts : List OperandType) (k : ℕ) → k < 8 → k < length (shown_from z rfs false 0 ts) → operand_of (told ts) k ≡ get_or (map Some (shown_from z rfs false 0 ts)) k None
  at ts k h l = operand_at offset (current_bytecode b code offset) (operand_scale b code offset) (next_offset b code offset) k (shown_from z rfs false 0 ts) h l

  -- a jump goes where V8's does
  pub v8_jump : (j : Jump) (conditional : Bool) (ts : List OperandType) → current_types b code offset ≡ jump_types j ++ ts → Distance z pool j
      → Offset (get_jump_target_offset offset prefix z pool j) → jump_target el (jump_flow j conditional) instr ≡ Some (nat_abs (get_jump_target_offset offset prefix z pool j))
  unfolding shown_operand code_of type_info is_unsigned
  v8_jump jump_immediate c ts e h s =
      let us = k_u_imm ∷ ts in
      ap (jump_target el (jump_flow jump_immediate c)) (instr_is us e)
      ∙ immediate el pool same offset prefix z (told us) (here_is us) (nat_abs (z 0 k_u_imm)) (at us 0 (omega arith) (omega arith)) c refl h s
  v8_jump jump_loop c ts e h s =
      let us = k_u_imm ∷ ts in
      ap (jump_target el (jump_flow jump_loop c)) (instr_is us e)
      ∙ loop el pool same offset prefix z (told us) (here_is us) (nat_abs (z 0 k_u_imm)) (at us 0 (omega arith) (omega arith)) c refl h s
  v8_jump jump_constant c ts e h s =
      let us = k_idx ∷ ts in
      ap (jump_target el (jump_flow jump_constant c)) (instr_is us e)
      ∙ constant el pool same offset prefix z (told us) (here_is us) (nat_abs (z 0 k_idx)) (at us 0 (omega arith) (omega arith)) c refl h s

  -- a switch, under a prefix or not, has V8's table, and shows V8's entries
  pub v8_switch : (s : Switch) (ts : List OperandType) → current_types b code offset ≡ switch_types s ++ ts → (v8_table z s).count ≤ 4096
      → Held (get_jump_table_target_offsets offset prefix z pool s)
      → (jump_table true (switch_flow s) instr ≡ Ok (Some (v8_table z s)))
      × (shown_entries el (here instr) (v8_table z s) 0 (v8_table z s).count ≡ v8_entries (get_jump_table_target_offsets offset prefix z pool s))
  unfolding shown_operand code_of type_info is_unsigned wrap32 modulo
  v8_switch switch_on_generator_state ts e few h =
      let us = k_reg ∷ k_idx ∷ k_u_imm ∷ ts in
      let t = v8_table z switch_on_generator_state in (
        ap (jump_table true (switch_flow switch_on_generator_state)) (instr_is us e)
            ∙ generator_table (told us) t.start t.count few (at us 1 (omega arith) (omega arith)) (at us 2 (omega arith) (omega arith)),
        ap (λ (i : Instr). shown_entries el (here i) t 0 t.count) (instr_is us e)
            ∙ entries_same el pool same offset prefix z (told us) (here_is us) t (pos 0) refl 0 t.count t.start (pos 0) (omega arith) refl h,
      )
  v8_switch switch_on_smi_no_feedback ts e few h =
      let us = k_idx ∷ k_u_imm ∷ k_imm ∷ ts in
      let t = v8_table z switch_on_smi_no_feedback in
      let w = operand_int b code offset bytes 2 k_imm refl in (
        ap (jump_table true (switch_flow switch_on_smi_no_feedback)) (instr_is us e)
            ∙ smi_table (told us) t.start t.count few t.base w (at us 0 (omega arith) (omega arith)) (at us 1 (omega arith) (omega arith)) (at us 2 (omega arith) (omega arith)),
        ap (λ (i : Instr). shown_entries el (here i) t 0 t.count) (instr_is us e)
            ∙ entries_same el pool same offset prefix z (told us) (here_is us) t t.base (sym w) 0 t.count t.start t.base (omega arith) (sym (+ℤ_idr t.base)) h,
      )
