-- The step to a handler, as it is kept: the word of an instruction does the same as its step. Assumes nothing.
use Prim.Native.Nat.{ℕ, suc, ◌+◌, ◌-◌, ◌≤◌, min}
use mathlib.Core.Path.{◌≡◌, refl, sym, ap, subst, ◌∙◌}
use mathlib.Core.Bool.{Bool, true, false, cond}
use mathlib.Core.List.{List, [], ◌∷◌, map}
use Rattle.std.specs.Prelude.{Option, None, Some, Ok, Err}
use native.Mathlib.Omega.{arith}
use lib.Dec.{eqb, leb, ltb}
use lib.ListN.{length, get_or}
use lib.IntN.{ℤ}
use Rattle.laws.specs.Scan.{first_from}
use Rattle.laws.proofs.Tests.{by_test}
use Rattle.refusal.specs.Refusal.{Refusal}
use Rattle.refusal.specs.Check.{refusal_at}
use Rattle.graph.specs.Graph.{Step}
use Rattle.graph.specs.Graph.Step.{to_offset}
use Rattle.prefix.specs.Head.{Begins, op_at, behind, head_at}
use Rattle.decoder.specs.declared.Instr.{Instr}
use Rattle.tables.specs.Records.{is_op}
use Rattle.tables.specs.declared.Prefixes.{Prefixes}
use Rattle.decoder.specs.Decode.{Decoded, Done, instr_in, Part, parts_from, operand_types, part_width, offset_of, operands_from, is_short, short_fault, instr_of, read_parts, decode_head, decode_at}
use Rattle.flow.specs.Opcodes.{Opcodes}
use Rattle.handlers.specs.Handlers.{handler_among, handler_at}
use Rattle.handlers.specs.mirror.Catches.{handler_word, catch_word, opcode_at}
use Rattle.search.specs.mirror.Kept.{catch_steps}
use Rattle.search.proofs.Laws.{catch_yes, catch_no}
use Rattle.search.proofs.Kept.{Same, same_steps, same_low}
use Rattle.refusal.specs.declared.Fault.{Fault}
use Rattle.refusal.specs.declared.Fault.TheVariants as fault
use Rattle.steps.specs.Steps.{Source, to_handler, handler_steps}

-- ---- the opcode of what was decoded
-- the opcode at the head
abbrev Has : ℕ → Begins → Type 0
Has op (Ok (Some h)) = h.opcode ≡ op
Has op (Ok None) = Unit {0}
Has op (Err r) = Unit {0}

module _ (code : List ℕ) (ops : Opcodes) (types : List ℕ) (rfs : ℤ) (prefixes : Prefixes) (o : ℕ) where
  head_has : Has (opcode_at code prefixes o) (head_at code ops.many o prefixes)
  unfolding head_at
  head_has =
      by_test (Has (opcode_at code prefixes o)) (ltb (length code) o) (λ _. tt)
      (λ _. by_test (Has (opcode_at code prefixes o)) (eqb o (length code)) (λ _. tt)
      (λ _. by_prefix (is_op prefixes.wide (get_or code o 0)) (is_op prefixes.extra_wide (get_or code o 0))))
    where
      at_place : (start scale at : ℕ) → Has (get_or code at 0) (op_at code ops.many start scale at)
      at_place start scale at = by_test (Has (get_or code at 0)) (leb ops.many (get_or code at 0)) (λ _. tt) (λ _. refl)

      past_prefix : (f : Fault) (scale : ℕ) → Has (get_or code (o + 1) 0) (behind code ops.many o f scale)
      past_prefix f scale = by_test (Has (get_or code (o + 1) 0)) (eqb (o + 1) (length code)) (λ _. tt) (λ _. at_place o scale (o + 1))

      by_prefix : (w e : Bool) → Has (cond w (get_or code (o + 1) 0) (cond e (get_or code (o + 1) 0) (get_or code o 0))) (cond w (behind code ops.many o fault.EndsAfterWide 2) (cond e (behind code ops.many o fault.EndsAfterExtraWide 4) (op_at code ops.many o 1 o)))
      by_prefix true e = past_prefix fault.EndsAfterWide 2
      by_prefix false true = past_prefix fault.EndsAfterExtraWide 4
      by_prefix false false = at_place o 1 o

  -- what is read behind an opcode has that opcode, where it is read whole
  abbrev Keeps_op : ℕ → Decoded → Type 0
  Keeps_op op d = Done d → (instr_in d).opcode ≡ op

  read_op : (scale opcode at : ℕ) (ps : List Part) → Keeps_op opcode (read_parts code types scale opcode rfs o at ps)
  unfolding read_parts
  read_op scale opcode at ps =
      let ws = map (part_width types scale) ps in
      let k = first_from (is_short code ws at) 0 (length ps) in
      go (ltb k (length ps)) (refusal_at (short_fault (get_or ps k Part.count)) (at + offset_of ws k)) (instr_of o opcode scale (at + offset_of ws (length ps)) (operands_from code ws at rfs 0 ps)) refl
    where
      go : (b : Bool) (r : Refusal) (i : Instr) → i.opcode ≡ opcode → Keeps_op opcode (cond b (Err r) (Ok (Some i)))
      go true r i e done = let x : ◌≡◌ {A = ℕ} 0 1 = cc in absurd (omega (arith, x))
      go false r i e done = e

  pub opcode_is : Keeps_op (opcode_at code prefixes o) (decode_at code ops types o rfs prefixes)
  unfolding decode_at
  opcode_is = go (head_at code ops.many o prefixes) head_has
    where
      go : (h : Begins) → Has (opcode_at code prefixes o) h → Keeps_op (opcode_at code prefixes o) (decode_head h code ops types o rfs)
      go (Ok None) has e = let x : ◌≡◌ {A = ℕ} 0 1 = cc in absurd (omega (arith, x))
      go (Err r) has e = let x : ◌≡◌ {A = ℕ} 0 1 = cc in absurd (omega (arith, x))
      go (Ok (Some h)) has e = read_op h.scale h.opcode h.at (parts_from false (operand_types ops h.opcode)) e ∙ has

-- ---- a word and the step
pub catch_same : (s : Source) (heads catches : List ℕ) → length heads ≤ 65536 → (i : Instr) (o : ℕ) → i.offset ≡ o
    → get_or catches o 0 ≡ catch_word s.handlers (s.opcodes.returns i.opcode) o → Same heads (handler_steps s i) (catch_steps catches o)
unfolding catch_word
catch_same s heads catches small i o at is = go (s.opcodes.returns i.opcode) (handler_at s.handlers i.offset) (is ∙ ap (λ (x : ℕ). cond (s.opcodes.returns i.opcode) 0 (handler_word (handler_at s.handlers x))) (sym at))
  where
    nothing : get_or catches o 0 ≡ 0 → Same heads [] (catch_steps catches o)
    nothing z = same_steps (sym (catch_no catches o refl z))

    go : (r : Bool) (h : Option ℕ) → get_or catches o 0 ≡ cond r 0 (handler_word h) → Same heads (cond r [] (to_handler h)) (catch_steps catches o)
    go true h z = nothing z
    go false None z = nothing z
    go false (Some t) z =
        let place : suc (min t 65536) ≡ get_or catches o 0 = sym z in
        let back : min t 65536 ≡ suc (min t 65536) - 1 = omega arith in
        subst (Same heads (to_offset t ∷ [])) (ap (λ (x : ℕ). to_offset x ∷ []) back ∙ sym (catch_yes catches o place (λ e. omega (arith, e)))) (same_low heads 65536 small t)

-- ---- no records
pub no_handler : (s : Source) → s.handlers ≡ [] → (i : Instr) → handler_steps s i ≡ []
unfolding handler_among
no_handler s e i = rw e (by_test (λ (l : List Step). l ≡ []) (s.opcodes.returns i.opcode) (λ _. refl) (λ _. refl))
