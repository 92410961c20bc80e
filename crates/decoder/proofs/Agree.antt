-- The step-by-step definition of an instruction is V8's and 01's: `decoded`. Assumes nothing.
use Prim.Native.Nat.{ℕ, zero, suc, ◌+◌, ◌%◌, ◌^◌, ◌<◌, ◌≤◌, min}
use mathlib.Core.Path.{◌≡◌, refl, sym, ap, ◌∙◌}
use mathlib.Core.Bool.{Bool, true, false, cond, ◌&&◌}
use mathlib.Core.List.{List, [], ◌∷◌, ◌++◌, map, append_assoc, append-nil}
use native.Mathlib.Omega.{arith}
use native.Mathlib.Nat.{add_assoc, not-suc-le-zero, le_of_suc-le-suc}
use borrow.Author.Tests.{lt-ltb, le-ltb, ltb-true, ltb-false, leb-true, leb-false, eqb-true}
use lib.Dec.{leb, ltb, eqb}
use lib.ListN.{length, get_or, set, length-append}
use lib.IntN.{ℤ}
use Rattle.words.specs.Le.{le_at}
use Rattle.laws.specs.Scan.{first_from}
use Rattle.laws.proofs.Tests.{and_left}
use Rattle.laws.proofs.Scan.{first_shift}
use Rattle.refusal.specs.Refusal.{Refusal}
use Rattle.refusal.specs.Check.{refusal_at}
use Rattle.tables.specs.Records.{width}
use Rattle.flow.specs.Opcodes.{Opcodes}
use Rattle.operand.specs.Operand.{is_list, interpret}
use Rattle.operand.specs.mirror.Step.{read, is_counted, value_at, operand_at}
use Rattle.operand.specs.declared.Operand.{Operand}
use Rattle.std.specs.Prelude.{Some, None, Result, Ok, Err}
use Rattle.tables.specs.declared.Prefixes.{Prefixes}
use Rattle.decoder.specs.mirror.Steps.{Operands, start_ops, after_step, step_on, run_ops, operands_at, of_ops, of_head, steps_at}
use Rattle.prefix.specs.Head.{Begins, head_at}
use Rattle.decoder.proofs.Laws.{not_list}
use Rattle.decoder.specs.declared.OperandRecord.{OperandRecord}
use Rattle.decoder.specs.Decode.{Decoded, record_of, codes_from, operand_types, Part, own, count, parts_from, part_width, offset_of, operand_at_part, operands_from, is_short, short_fault, places_of, instr_of, refused_at, read_parts, decode_head, decode_at}
use Rattle.refusal.specs.declared.Fault.TheVariants as fault

-- ---- lists of operands and their places
more_places : (n : ℕ) (os : List Operand) (o : Operand) → length os < n → set (places_of n os) (length os) (record_of (Some o)) ≡ places_of n (os ++ (o ∷ []))
more_places zero os o h = absurd (not-suc-le-zero h)
more_places (suc n) [] o h = refl
more_places (suc n) (x ∷ os) o h = ap (λ (l : List OperandRecord). record_of (Some x) ∷ l) (more_places n os o (le_of_suc-le-suc h))

-- ---- what reading one type after the other gives
pub data Got : Type 0 where
  bad : Refusal → Got
  good : ℕ → List Operand → Got

abbrev pub add : Operand → Got → Got
add o (bad r) = bad r
add o (good e os) = good e (o ∷ os)

module _ (code types : List ℕ) (scale : ℕ) (rfs : ℤ) where
  -- the number of w bytes at a place
  abbrev pub value : ℕ → ℕ → ℕ
  value at w = le_at code at w

  -- a width is at most 8
  value_is : (at t : ℕ) → value_at code at (width types t scale) ≡ value at (width types t scale)
  unfolding value_at width
  value_is at t = let e : min (width types t scale) 8 ≡ width types t scale = omega arith in rw e

  unfoldable pub got : Bool → ℕ → List ℕ → Got
  got after at [] = good at []
  got after at (t ∷ ts) =
      let w = width types t scale in
      let cw = width types 8 scale in
      cond (eqb t 8 && after) (got false at ts)
      (cond (leb (at + w) (length code))
      (cond (is_list t)
      (cond (leb (at + w + cw) (length code))
      (add (interpret t (value at w) w (value (at + w) cw % 2 ^ 32) rfs) (got true (at + w + cw) ts))
      (bad (refusal_at fault.EndsInCount (at + w))))
      (add (interpret t (value at w) w 0 rfs) (got false (at + w) ts)))
      (bad (refusal_at fault.EndsInOperand at)))

  -- ---- the code's steps give that
  run_list : List ℕ → Operands → Result Operands Refusal
  run_list [] s = Ok s
  run_list (t ∷ ts) s = step_on (operand_at code types t s.before scale s.at rfs) t s (run_list ts)

  run_list_lem : (opcodes : Opcodes) (opcode n k : ℕ) (s : Operands) → run_ops code opcodes types opcode scale rfs n k s ≡ run_list (codes_from opcodes opcode k n) s
  unfolding run_ops run_list
  run_list_lem opcodes opcode zero k s = refl
  run_list_lem opcodes opcode (suc n) k s =
      let t = opcodes.code opcode k in
      ap (step_on (operand_at code types t s.before scale s.at rfs) t s) (λ i x. run_list_lem opcodes opcode n (k + 1) x i)

  -- operands that are read as far as place at
  abbrev state : ℕ → ℕ → List Operand → Operands
  state at before os = record { at = at; count = length os; before = before; slots = places_of 8 os }

  module _ (start opcode : ℕ) where
    abbrev pub of_got : List Operand → Got → Decoded
    of_got os (bad r) = Err r
    of_got os (good e more) = Ok (Some (instr_of start opcode scale e (os ++ more)))

    of_add : (os : List Operand) (o : Operand) (g : Got) → of_got (os ++ (o ∷ [])) g ≡ of_got os (add o g)
    of_add os o (bad r) = refl
    of_add os o (good e more) = rw (append_assoc os (o ∷ []) more)

    -- one more operand
    read_state : (at before t next : ℕ) (os : List Operand) (o : Operand) → length os < 8 → after_step (Some (record { operand = o; next = next })) t (state at before os) ≡ state next t (os ++ (o ∷ []))
    read_state at before t next os o h =
        let n : length os + 1 ≡ length (os ++ (o ∷ [])) = sym (length-append os (o ∷ [])) in
        rw (more_places 8 os o h, n)

    steps_got : (ts : List ℕ) (at before : ℕ) (os : List Operand) → length os + length ts ≤ 8
        → of_ops start opcode scale (run_list ts (state at before os)) ≡ of_got os (got (is_list before) at ts)
    unfolding run_list got operand_at is_counted
    steps_got [] at before os h = rw (append-nil os)
    steps_got (t ∷ ts) at before os h =
        go (is_counted t before) (leb (at + w) (length code)) (is_list t) (leb (at + w + cw) (length code)) refl refl
        (λ a b l k. steps_got ts a b l k)
      where
        w : ℕ
        w = width types t scale

        cw : ℕ
        cw = width types 8 scale

        -- the state after an operand, and what is read from there on
        on : (o : Operand) (next : ℕ) (b : Bool) → is_list t ≡ b
            → ((a d : ℕ) (l : List Operand) → length l + length ts ≤ 8 → of_ops start opcode scale (run_list ts (state a d l)) ≡ of_got l (got (is_list d) a ts))
            → of_ops start opcode scale (step_on (read o next) t (state at before os) (run_list ts)) ≡ of_got os (add o (got b next ts))
        on o next b f rest =
            ap (λ (x : Operands). of_ops start opcode scale (run_list ts x)) (read_state at before t next os o (omega arith))
            ∙ rest next t (os ++ (o ∷ [])) (omega (arith, length-append os (o ∷ [])))
            ∙ of_add os o (got (is_list t) next ts) ∙ ap (λ (x : Bool). of_got os (add o (got x next ts))) f

        go : (p q r u : Bool) → is_counted t before ≡ p → is_list t ≡ r
            → ((a b : ℕ) (l : List Operand) → length l + length ts ≤ 8 → of_ops start opcode scale (run_list ts (state a b l)) ≡ of_got l (got (is_list b) a ts))
            → of_ops start opcode scale (step_on (cond p (Ok None) (cond q (cond r (cond u (read (interpret t (value_at code at w) w (value_at code (at + w) cw % 2 ^ 32) rfs) (at + w + cw)) (Err (refusal_at fault.EndsInCount (at + w)))) (read (interpret t (value_at code at w) w 0 rfs) (at + w))) (Err (refusal_at fault.EndsInOperand at)))) t (state at before os) (run_list ts))
            ≡ of_got os (cond p (got false at ts) (cond q (cond r (cond u (add (interpret t (value at w) w (value (at + w) cw % 2 ^ 32) rfs) (got true (at + w + cw) ts)) (bad (refusal_at fault.EndsInCount (at + w)))) (add (interpret t (value at w) w 0 rfs) (got false (at + w) ts))) (bad (refusal_at fault.EndsInOperand at))))
        go true q r u e f rest =
            rest at t os (omega arith) ∙ ap (λ (x : Bool). of_got os (got x at ts)) (not_list t (eqb-true t 8 (and_left (eqb t 8) (is_list before) e)))
        go false false r u e f rest = refl
        go false true false u e f rest = rw (value_is at t) (on (interpret t (value at w) w 0 rfs) (at + w) false f rest)
        go false true true false e f rest = refl
        go false true true true e f rest =
            rw (value_is at t, value_is (at + w) 8) (on (interpret t (value at w) w (value (at + w) cw % 2 ^ 32) rfs) (at + w + cw) true f rest)

    -- ---- and that is what V8's offsets give: parts from place at on, behind operands os, of which part k is the first that is short
    abbrev pub up_to : List Operand → ℕ → List Part → ℕ → Decoded
    up_to os at ps k =
        let ws = map (part_width types scale) ps in
        cond (ltb k (length ps)) (refused_at (short_fault (get_or ps k count)) (at + offset_of ws k))
        (Ok (Some (instr_of start opcode scale (at + offset_of ws (length ps)) (os ++ operands_from code ws at rfs 0 ps))))

    abbrev pub first_short : ℕ → List Part → ℕ
    first_short at ps = first_from (is_short code (map (part_width types scale) ps) at) 0 (length ps)

    unfoldable pub read_with : List Operand → ℕ → List Part → Decoded
    read_with os at ps = up_to os at ps (first_short at ps)

    module _ (at w : ℕ) (ws : List ℕ) where
      operands_shift : (k : ℕ) (ps : List Part) → operands_from code (w ∷ ws) at rfs (suc k) ps ≡ operands_from code ws (at + w) rfs k ps
      operands_shift k [] = refl
      operands_shift k (own t ∷ ps) =
          rw (operands_shift (suc k) ps, sym (add_assoc at w (offset_of ws k)), sym (add_assoc at w (offset_of ws (suc k))))
      operands_shift k (count ∷ ps) = operands_shift (suc k) ps

      short_shift : (k : ℕ) → is_short code (w ∷ ws) at (suc k) ≡ is_short code ws (at + w) k
      short_shift k = rw (sym (add_assoc at w (offset_of ws (suc k))))

    abbrev head_ops : ℕ → List ℕ → Part → List Operand
    head_ops at ws (own t) = operand_at_part code ws at rfs 0 t ∷ []
    head_ops at ws count = []

    head_first : (at : ℕ) (ws : List ℕ) (p : Part) (ps : List Part) → operands_from code ws at rfs 0 (p ∷ ps) ≡ head_ops at ws p ++ operands_from code ws at rfs 1 ps
    head_first at ws (own t) ps = refl
    head_first at ws count ps = refl

    ltb-suc : (a b : ℕ) → ltb (suc a) (suc b) ≡ ltb a b
    ltb-suc a b = go (ltb a b) refl
      where
        go : (t : Bool) → ltb a b ≡ t → ltb (suc a) (suc b) ≡ t
        go true e = lt-ltb (suc a) (suc b) (omega (arith, ltb-true a b e))
        go false e = le-ltb (suc a) (suc b) (omega (arith, ltb-false a b e))

    module _ (os : List Operand) (at : ℕ) (p : Part) (ps : List Part) where
      abbrev w : ℕ
      w = part_width types scale p

      abbrev ws : List ℕ
      ws = map (part_width types scale) ps

      first_part : (b : Bool) → ltb (length code) (at + w) ≡ b → first_short at (p ∷ ps) ≡ cond b 0 (suc (first_short (at + w) ps))
      unfolding first_from
      first_part b h =
          let e : at + (w + 0) ≡ at + w = omega arith in
          let f : is_short code (w ∷ ws) at 0 ≡ b = rw e h in
          rw f (ap (λ (k : ℕ). cond b 0 k) (first_shift (is_short code (w ∷ ws) at) (is_short code ws (at + w)) (short_shift at w ws) 0 (length ps)))

      up_shift : (k : ℕ) → up_to os at (p ∷ ps) (suc k) ≡ up_to (os ++ head_ops at (w ∷ ws) p) (at + w) ps k
      up_shift k =
          rw (
            ltb-suc k (length ps),
            sym (add_assoc at w (offset_of ws k)),
            sym (add_assoc at w (offset_of ws (length ps))),
            head_first at (w ∷ ws) p ps,
            operands_shift at w ws 0 ps,
            append_assoc os (head_ops at (w ∷ ws) p) (operands_from code ws (at + w) rfs 0 ps),
          )

      part_short : length code < at + w → read_with os at (p ∷ ps) ≡ refused_at (short_fault p) at
      unfolding read_with
      part_short h =
          let z : at + 0 ≡ at = omega arith in
          ap (up_to os at (p ∷ ps)) (first_part true (lt-ltb _ _ h)) ∙ rw (lt-ltb 0 (length (p ∷ ps)) (omega arith), z)

      part_on : at + w ≤ length code → read_with os at (p ∷ ps) ≡ read_with (os ++ head_ops at (w ∷ ws) p) (at + w) ps
      unfolding read_with
      part_on h = ap (up_to os at (p ∷ ps)) (first_part false (le-ltb _ _ h)) ∙ up_shift (first_short (at + w) ps)

    module _ (t at : ℕ) where
      plain-head : (ws : List ℕ) → is_list t ≡ false
          → operand_at_part code (width types t scale ∷ ws) at rfs 0 t ≡ interpret t (value at (width types t scale)) (width types t scale) 0 rfs
      plain-head ws f = let z : at + 0 ≡ at = omega arith in rw (f, z)

      list_head : (ws : List ℕ) → is_list t ≡ true
          → operand_at_part code (width types t scale ∷ width types 8 scale ∷ ws) at rfs 0 t
          ≡ interpret t (value at (width types t scale)) (width types t scale) (value (at + width types t scale) (width types 8 scale) % 2 ^ 32) rfs
      list_head ws f =
          let z : at + 0 ≡ at = omega arith in
          let y : at + (width types t scale + 0) ≡ at + width types t scale = omega arith in
          rw (f, y, z)

    pub parts_got : (ts : List ℕ) (after : Bool) (at : ℕ) (os : List Operand) → of_got os (got after at ts) ≡ read_with os at (parts_from after ts)
    unfolding got parts_from read_with first_from
    parts_got [] after at os = let z : at + 0 ≡ at = omega arith in rw z
    parts_got (t ∷ ts) after at os =
        go (eqb t 8 && after) (leb (at + tw) (length code)) (is_list t) (leb (at + tw + cw) (length code)) refl refl refl (λ b a l. parts_got ts b a l)
      where
        tw : ℕ
        tw = width types t scale

        cw : ℕ
        cw = width types 8 scale

        go : (p q r u : Bool) → leb (at + tw) (length code) ≡ q → is_list t ≡ r → leb (at + tw + cw) (length code) ≡ u
            → ((b : Bool) (a : ℕ) (l : List Operand) → of_got l (got b a ts) ≡ read_with l a (parts_from b ts))
            → of_got os (cond p (got false at ts) (cond q (cond r (cond u (add (interpret t (value at tw) tw (value (at + tw) cw % 2 ^ 32) rfs) (got true (at + tw + cw) ts)) (bad (refusal_at fault.EndsInCount (at + tw)))) (add (interpret t (value at tw) tw 0 rfs) (got false (at + tw) ts))) (bad (refusal_at fault.EndsInOperand at))))
            ≡ read_with os at (cond p (parts_from false ts) (own t ∷ cond r (count ∷ parts_from true ts) (parts_from false ts)))
        go true q r u e f g rest = rest false at os
        go false false r u e f g rest = sym (part_short os at (own t) (cond r (count ∷ parts_from true ts) (parts_from false ts)) (leb-false (at + tw) (length code) e))
        go false true false u e f g rest =
            let o = interpret t (value at tw) tw 0 rfs in
            sym (of_add os o (got false (at + tw) ts)) ∙ rest false (at + tw) (os ++ (o ∷ []))
            ∙ sym (part_on os at (own t) (parts_from false ts) (leb-true (at + tw) (length code) e)
            ∙ ap (λ (x : Operand). read_with (os ++ (x ∷ [])) (at + tw) (parts_from false ts)) (plain-head t at (map (part_width types scale) (parts_from false ts)) f))
        go false true true false e f g rest =
            sym (part_on os at (own t) (count ∷ parts_from true ts) (leb-true (at + tw) (length code) e)
            ∙ part_short (os ++ head_ops at (tw ∷ cw ∷ map (part_width types scale) (parts_from true ts)) (own t)) (at + tw) count (parts_from true ts) (leb-false (at + tw + cw) (length code) g))
        go false true true true e f g rest =
            let o = interpret t (value at tw) tw (value (at + tw) cw % 2 ^ 32) rfs in
            let ws' = map (part_width types scale) (parts_from true ts) in
            let os' = os ++ head_ops at (tw ∷ cw ∷ ws') (own t) in
            sym (of_add os o (got true (at + tw + cw) ts)) ∙ rest true (at + tw + cw) (os ++ (o ∷ []))
            ∙ sym (part_on os at (own t) (count ∷ parts_from true ts) (leb-true (at + tw) (length code) e)
            ∙ part_on os' (at + tw) count (parts_from true ts) (leb-true (at + tw + cw) (length code) g)
            ∙ ap (λ (l : List Operand). read_with l (at + tw + cw) (parts_from true ts)) (append-nil os')
            ∙ ap (λ (x : Operand). read_with (os ++ (x ∷ [])) (at + tw + cw) (parts_from true ts)) (list_head t at ws' f))

pub codes_length : (ops : Opcodes) (op k n : ℕ) → length (codes_from ops op k n) ≡ n
codes_length ops op k zero = refl
codes_length ops op k (suc n) = ap suc (codes_length ops op (k + 1) n)

-- behind the opcode: the parts of its operands
pub opened : (code : List ℕ) (ops : Opcodes) (types : List ℕ) (start : ℕ) (rfs : ℤ) (opcode scale at : ℕ)
    → of_ops start opcode scale (operands_at code ops types opcode scale rfs at) ≡ read_parts code types scale opcode rfs start at (parts_from false (operand_types ops opcode))
unfolding read_parts read_with is_list
opened code ops types start rfs opcode scale at =
    let n = min (ops.operands opcode) 8 in
    let room : 0 + length (operand_types ops opcode) ≤ 8 = omega (arith, codes_length ops opcode 0 n) in
    ap (of_ops start opcode scale) (run_list_lem code types scale rfs ops opcode n 0 (start_ops at))
    ∙ steps_got code types scale rfs start opcode (operand_types ops opcode) at 0 [] room
    ∙ parts_got code types scale rfs start opcode (operand_types ops opcode) false at []

-- the code's steps are V8's and 01's decoding
pub decoded : (code : List ℕ) (ops : Opcodes) (types : List ℕ) (start : ℕ) (rfs : ℤ) (prefixes : Prefixes)
    → steps_at code ops types start rfs prefixes ≡ decode_at code ops types start rfs prefixes
unfolding decode_at
decoded code ops types start rfs prefixes = go (head_at code ops.many start prefixes)
  where
    go : (h : Begins) → of_head h code ops types start rfs ≡ decode_head h code ops types start rfs
    go (Ok (Some h)) = opened code ops types start rfs h.opcode h.scale h.at
    go (Ok None) = refl
    go (Err r) = refl
