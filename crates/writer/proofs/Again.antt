-- What was decoded is never refused, and is written as the bytes it was read from. Assumes nothing.
use Prim.Native.Nat.{ℕ, zero, suc, ◌+◌, ◌-◌, ◌≤◌, min}
use mathlib.Core.Path.{◌≡◌, refl, sym, ap, ◌∙◌}
use mathlib.Core.Bool.{Bool, true, false, ◌&&◌}
use mathlib.Core.List.{List, [], ◌∷◌}
use mathlib.Core.Logic.{◌⊎◌, inl, inr, ⊎_elim}
use native.Mathlib.Omega.{arith}
use native.Mathlib.Nat.{not-suc-le-zero, le_of_suc-le-suc}
use borrow.Author.Tests.{eqb-true}
use lib.Dec.{eqb}
use lib.ListN.{length, take, drop}
use lib.IntN.{ℤ}
use Rattle.laws.proofs.Tests.{and_left, and_right, clash, either}
use Rattle.words.proofs.Le.{Bytes}
use Rattle.std.specs.Prelude.{Some, Ok}
use Rattle.text.specs.Written.{put_text}
use Rattle.layout.specs.Layout.{signed_value}
use Rattle.tables.specs.Records.{width}
use Rattle.tables.specs.Check.{check_table}
use Rattle.flow.specs.Opcodes.{Opcodes, opcodes_of, prefix_with}
use Rattle.operand.specs.Operand.{kinds, kind_of, is_list}
use Rattle.operand.specs.declared.Operand.{Operand}
use Rattle.decoder.specs.declared.Instr.{Instr}
use Rattle.decoder.proofs.Laws.{done_is}
use Rattle.decoder.specs.Decode.{instr_in, codes_from, operand_types, places_of, operands_in, instr_of}
use Rattle.decoder.specs.Listed.{decodes}
use Rattle.writer.specs.Bytes.{instr_bytes}
use Rattle.writer.specs.Write.{reads_back, operands_ok, is_some, scale_ok, given, all_hold, check_write, written_bytes, write_call}
use Rattle.writer.specs.Narrow.{Narrow, AllNarrow}
use Rattle.writer.specs.Whole.{NarrowAt, NarrowTable}
use Rattle.writer.proofs.Types.{ok_skip, ok_one}
use Rattle.writer.proofs.Round.{Back, read_back}
use Rattle.writer.proofs.Laws.{accepted, accepts}

-- ---- narrow tables
module _ (types : List ℕ) (scale : ℕ) (small : NarrowAt types scale) where
  narrow_at : (t : ℕ) → width types t scale ≤ 4 → Narrow (kind_of t) (width types t scale)
  unfolding kind_of kinds
  narrow_at zero h = h
  narrow_at (suc zero) h = h
  narrow_at (suc (suc zero)) h = h
  narrow_at (suc (suc (suc zero))) h = h
  narrow_at (suc (suc (suc (suc zero)))) h = h
  narrow_at (suc (suc (suc (suc (suc zero))))) h = h
  narrow_at (suc (suc (suc (suc (suc (suc zero)))))) h = h
  narrow_at (suc (suc (suc (suc (suc (suc (suc zero))))))) h = h
  narrow_at (suc (suc (suc (suc (suc (suc (suc (suc zero)))))))) h = h
  narrow_at (suc (suc (suc (suc (suc (suc (suc (suc (suc zero))))))))) h = h
  narrow_at (suc (suc (suc (suc (suc (suc (suc (suc (suc (suc zero)))))))))) h = h
  narrow_at (suc (suc (suc (suc (suc (suc (suc (suc (suc (suc (suc zero))))))))))) h = h
  narrow_at (suc (suc (suc (suc (suc (suc (suc (suc (suc (suc (suc (suc zero)))))))))))) h = h
  narrow_at (suc (suc (suc (suc (suc (suc (suc (suc (suc (suc (suc (suc (suc zero))))))))))))) h = small.1
  narrow_at (suc (suc (suc (suc (suc (suc (suc (suc (suc (suc (suc (suc (suc (suc zero)))))))))))))) h = small.2
  narrow_at (suc (suc (suc (suc (suc (suc (suc (suc (suc (suc (suc (suc (suc (suc (suc zero))))))))))))))) h = h
  narrow_at (suc (suc (suc (suc (suc (suc (suc (suc (suc (suc (suc (suc (suc (suc (suc (suc zero)))))))))))))))) h = h
  narrow_at (suc (suc (suc (suc (suc (suc (suc (suc (suc (suc (suc (suc (suc (suc (suc (suc (suc k))))))))))))))))) h = omega arith

  -- of a narrow table all types are narrow
  pub narrow_table : (ts : List ℕ) → AllNarrow types scale ts
  narrow_table [] = tt
  narrow_table (t ∷ ts) = (narrow_at t (small.0 t), λ h. small.0 8, narrow_table ts)

narrow_scale : (ops : Opcodes) (types : List ℕ) (scale : ℕ) → NarrowTable types → scale_ok ops scale ≡ true → NarrowAt types scale
unfolding scale_ok
narrow_scale ops types scale small h = go (either (eqb scale 1)) (either (eqb scale 2))
  where
    go : (eqb scale 1 ≡ true) ⊎ (eqb scale 1 ≡ false) → (eqb scale 2 ≡ true) ⊎ (eqb scale 2 ≡ false) → NarrowAt types scale
    go (inl e) b = rw (eqb-true scale 1 e) small.0
    go (inr e) (inl f) = rw (eqb-true scale 2 f) small.1
    go (inr e) (inr f) = let z = rw (e, f) at h in rw (eqb-true scale 4 (and_left (eqb scale 4) (is_some (prefix_with ops 2)) z)) small.2

-- ---- an instruction has at most eight operands, and its places hold them
given_are : (n : ℕ) (os : List Operand) → length os ≤ n → operands_in (take (length os) (places_of n os)) ≡ os
given_are n [] h = refl
given_are zero (o ∷ os) h = absurd (not-suc-le-zero h)
given_are (suc n) (o ∷ os) h = ap (λ (l : List Operand). o ∷ l) (given_are n os (le_of_suc-le-suc h))

given_hold : (n : ℕ) (os : List Operand) → length os ≤ n → all_hold (take (length os) (places_of n os)) ≡ true
given_hold n [] h = refl
given_hold zero (o ∷ os) h = absurd (not-suc-le-zero h)
given_hold (suc n) (o ∷ os) h = given_hold n os (le_of_suc-le-suc h)

module _ (ops : Opcodes) (types : List ℕ) (rfs : ℤ) where
  few_operands : (scale opcode n k : ℕ) (after : Bool) (os : List Operand) → operands_ok types scale rfs after (codes_from ops opcode k n) os ≡ true → length os ≤ n
  unfolding operands_ok
  few_operands scale opcode n k after [] h = omega arith
  few_operands scale opcode zero k after (o ∷ os) h = clash h refl
  few_operands scale opcode (suc n) k after (o ∷ os) h =
      let t = ops.code opcode k in
      let ts = codes_from ops opcode (k + 1) n in
      ⊎_elim (λ (p : (eqb t 8 && after) ≡ true). let m = few_operands scale opcode n (k + 1) false (o ∷ os) (sym (ok_skip types scale rfs t ts after (o ∷ os) p) ∙ h) in omega arith)
      (λ (p : (eqb t 8 && after) ≡ false).
      let both = sym (ok_one types scale rfs t ts after o os p) ∙ h in
      let m = few_operands scale opcode n (k + 1) (is_list t) os (and_right (reads_back types scale rfs t o) (operands_ok types scale rfs (is_list t) ts os) both) in
      omega arith)
      (either (eqb t 8 && after))

  -- ---- what was decoded
  module _ (code : List ℕ) (bytes : Bytes code) (at : ℕ) (i : Instr) (done : decodes code ops types rfs at ≡ Ok (Some i)) where
    back : Back ops types rfs code bytes at
    back = read_back ops types rfs code bytes at (done_is done)

    few : length back.operands ≤ 8
    few =
        let b = back in
        let n = min (ops.operands b.opcode) 8 in
        let m = few_operands b.scale b.opcode n 0 false b.operands b.operands_fine in
        omega arith

    is_back : i ≡ instr_of at back.opcode back.scale back.e back.operands
    is_back = ap instr_in (sym done ∙ back.is)

    given_back : given (instr_of at back.opcode back.scale back.e back.operands) ≡ back.operands
    given_back = given_are 8 back.operands few

    pub own_place : i.offset ≡ at
    own_place = ap (λ (x : Instr). x.offset) is_back

    -- it is accepted, and where the widths of its types are narrow it has the bytes it was read from
    pub written_again : (check_write ops types rfs i ≡ Ok tt) × (AllNarrow types i.scale (operand_types ops i.opcode) → written_bytes ops types rfs i ≡ take (i.end - at) (drop at code))
    written_again =
        rw is_back (
          accepts ops types rfs (instr_of at back.opcode back.scale back.e back.operands)
              (record { scale_fine = back.scale_fine; opcode_fine = back.opcode_fine; few = few; hold = given_hold 8 back.operands few; operands_fine = rw given_back back.operands_fine }),
          λ narrow. ap (instr_bytes ops types rfs back.scale back.opcode) given_back ∙ back.bytes_are narrow,
        )

    -- by a narrow table they are
    pub again_types : NarrowTable types → AllNarrow types i.scale (operand_types ops i.opcode)
    again_types small = narrow_table types i.scale (narrow_scale ops types i.scale small (accepted ops types rfs i written_again.0).scale_fine) (operand_types ops i.opcode)

    pub again_narrow : NarrowTable types → written_bytes ops types rfs i ≡ take (i.end - at) (drop at code)
    again_narrow small = written_again.1 (again_types small)

-- and so is its call, by a checked and narrow table: no refusal but 17
pub call_again : (ops types layout code : List ℕ) → Bytes code → (at : ℕ) (i : Instr) → decodes code (opcodes_of ops) types (signed_value layout 13) at ≡ Ok (Some i)
    → check_table ops types [] [] layout ≡ Ok tt → NarrowTable types → (out : List ℕ) → write_call ops types layout i out ≡ put_text (take (i.end - at) (drop at code)) out
unfolding write_call
call_again ops types layout code bytes at i done table small out =
    let rfs = signed_value layout 13 in
    rw (table, (written_again (opcodes_of ops) types rfs code bytes at i done).0, again_narrow (opcodes_of ops) types rfs code bytes at i done small)
