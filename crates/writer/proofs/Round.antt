-- An instruction written and decoded, decoded and written. 02, Wish 2: "Decoding what was written gives back scale, opcode and operands. Writing
-- what was decoded gives back the bytes". Assumes nothing.
use Prim.Native.Nat.{ℕ, ◌+◌, ◌-◌, ◌≤◌}
use mathlib.Core.Path.{◌≡◌, refl, sym, ap, ◌∙◌}
use mathlib.Core.Bool.{true, false}
use mathlib.Core.List.{List, [], ◌++◌, append_assoc}
use native.Mathlib.Omega.{arith}
use lib.ListN.{length, take, drop, length-append}
use lib.IntN.{ℤ}
use Rattle.words.proofs.Le.{Bytes}
use Rattle.refusal.specs.Refusal.{Refusal}
use Rattle.flow.specs.Opcodes.{Opcodes, prefixes_with}
use Rattle.operand.specs.declared.Operand.{Operand}
use Rattle.std.specs.Prelude.{Some, None, Ok, Err}
use Rattle.prefix.specs.Head.{Begins}
use Rattle.decoder.proofs.Laws.{done_is}
use Rattle.decoder.specs.Decode.{Done, operand_types, instr_of, read_parts, decode_head, decode_at}
use Rattle.decoder.specs.Listed.{decodes}
use Rattle.decoder.proofs.Agree.{Got, got, of_got, read_with, parts_got}
use Rattle.decoder.proofs.Agree.Got.{bad, good}
use Rattle.decoder.proofs.Listed.{past}
use Rattle.writer.specs.Bytes.{bytes_by, head_bytes, instr_bytes}
use Rattle.writer.specs.Write.{operands_ok, scale_ok, opcode_fits}
use Rattle.writer.specs.Narrow.{AllNarrow}
use Rattle.writer.proofs.Spans.{front, spans_both}
use Rattle.writer.proofs.Types.{written_reads, read_accepted, read_writes}
use Rattle.writer.proofs.Heads.{begun, head_of, written_head, Headed, HeadSays, head_says}

-- what has no instruction is not done
not_done : {A : Type 0} (r : Refusal) → Done (Err r) → A
not_done r d = let z : ◌≡◌ {A = ℕ} 0 1 = cc in absurd (omega arith)

none_done : {A : Type 0} → Done (Ok None) → A
none_done d = let z : ◌≡◌ {A = ℕ} 0 1 = cc in absurd (omega arith)

module _ (ops : Opcodes) (types : List ℕ) (rfs : ℤ) where
  -- what is read behind a head
  parts_as : (code : List ℕ) (start opcode scale at : ℕ)
      → decode_head (begun opcode scale at) code ops types start rfs ≡ of_got code types scale rfs start opcode [] (got code types scale rfs false at (operand_types ops opcode))
  unfolding read_parts read_with
  parts_as code start opcode scale at = sym (parts_got code types scale rfs start opcode (operand_types ops opcode) false at [])

  -- what was accepted and written, anywhere in a code, is decoded there as it was given
  pub write_reads : (scale opcode : ℕ) (os : List Operand) (code s u : List ℕ) → scale_ok ops scale ≡ true → opcode_fits ops scale opcode ≡ true
      → operands_ok types scale rfs false (operand_types ops opcode) os ≡ true → code ≡ s ++ (instr_bytes ops types rfs scale opcode os ++ u)
      → decodes code ops types rfs (length s) ≡ Ok (Some (instr_of (length s) opcode scale (length s + length (instr_bytes ops types rfs scale opcode os)) os))
  unfolding instr_bytes decode_at
  write_reads scale opcode os code s u so fits ok is =
      let ts = operand_types ops opcode in
      let H = head_bytes ops scale opcode in
      let B = bytes_by types scale rfs false ts os in
      let n : length (s ++ H) ≡ length s + length H = length-append s H in
      let head = written_head ops scale opcode code s (B ++ u) so fits (is ∙ ap (λ (l : List ℕ). s ++ l) (append_assoc H B u)) in
      let m : length (s ++ H) + length B ≡ length s + length (H ++ B) = omega (arith, length-append s H, length-append H B) in
      let g : got code types scale rfs false (length s + length H) ts ≡ good (length s + length (H ++ B)) os =
      ap (λ (k : ℕ). got code types scale rfs false k ts) (sym n) ∙ written_reads types scale rfs ts false os code (s ++ H) u (is ∙ front s H B u) ok ∙ ap (λ (k : ℕ). good k os) m in
      ap (λ (h : Begins). decode_head h code ops types (length s) rfs) head ∙ parts_as code (length s) opcode scale (length s + length H) ∙ ap (of_got code types scale rfs (length s) opcode []) g

  -- ---- what was decoded
  module _ (code : List ℕ) (bytes : Bytes code) (at : ℕ) where
    -- it is accepted, and where the widths are narrow it is written as the bytes it was read from
    pub record Back : Type 0 where
      pub scale : ℕ
      pub opcode : ℕ
      pub e : ℕ
      pub operands : List Operand
      pub is : decodes code ops types rfs at ≡ Ok (Some (instr_of at opcode scale e operands))
      pub scale_fine : scale_ok ops scale ≡ true
      pub opcode_fine : opcode_fits ops scale opcode ≡ true
      pub operands_fine : operands_ok types scale rfs false (operand_types ops opcode) operands ≡ true
      pub bytes_are : AllNarrow types scale (operand_types ops opcode) → instr_bytes ops types rfs scale opcode operands ≡ take (e - at) (drop at code)

    parts_back : at ≤ length code → (scale opcode place : ℕ) → Headed ops code at scale opcode place → head_of ops code at ≡ begun opcode scale place
        → (g : Got) → got code types scale rfs false place (operand_types ops opcode) ≡ g → Done (of_got code types scale rfs at opcode [] g) → Back
    unfolding decode_at instr_bytes
    parts_back low scale opcode place h is (bad r) e d = not_done r d
    parts_back low scale opcode place h is (good n os) e d = record {
      scale = scale;
      opcode = opcode;
      e = n;
      operands = os;
      is = ap (λ (x : Begins). decode_head x code ops types at rfs) is ∙ parts_as code at opcode scale place ∙ ap (of_got code types scale rfs at opcode []) e;
      scale_fine = h.scale_fine;
      opcode_fine = h.opcode_fine;
      operands_fine = read_accepted types scale rfs code bytes (operand_types ops opcode) false place n os e;
      bytes_are = λ narrow. (spans_both code at place n (head_bytes ops scale opcode) (bytes_by types scale rfs false (operand_types ops opcode) os) low h.bytes_are
          (read_writes types scale rfs code bytes (operand_types ops opcode) false place n os narrow e)).is;
    }

    pub read_back : Done (decodes code ops types rfs at) → Back
    unfolding decode_at
    read_back done = go (head_of ops code at) refl (head_says ops code at) done
      where
        low : at ≤ length code
        low = let p = past code ops types rfs (prefixes_with ops) at done in omega (arith, p.0, p.1)

        go : (h : Begins) → head_of ops code at ≡ h → HeadSays ops code at h → Done (decode_head h code ops types at rfs) → Back
        go (Ok None) is says d = none_done d
        go (Err r) is says d = not_done r d
        go (Ok (Some h)) is says d =
            parts_back low h.scale h.opcode h.at says is (got code types h.scale rfs false h.at (operand_types ops h.opcode)) refl
            (done_is (sym (parts_as code at h.opcode h.scale h.at) ∙ d))
