-- Laws of the call: what it checks, and that what it wrote reads back. Assumes nothing.
use Prim.Native.Nat.{ℕ, ◌≤◌}
use mathlib.Core.Path.{◌≡◌, refl}
use mathlib.Core.Bool.{Bool, true, false, cond, ◌&&◌}
use mathlib.Core.List.{List, [], ◌++◌}
use borrow.Author.Tests.{le-leb, leb-true}
use lib.Dec.{leb}
use lib.ListN.{length, take, drop, length-append}
use lib.Seq.{take-append_seam}
use lib.IntN.{ℤ}
use Rattle.laws.proofs.Tests.{and_left, and_right}
use Rattle.refusal.specs.Refusal.{Refusal}
use Rattle.std.specs.Prelude.{Result, Ok, Err, Some}
use Rattle.refusal.specs.Check.{Check}
use Rattle.refusal.specs.declared.Fault.TheVariants as fault
use Rattle.refusal.specs.Check.{refusal_at, first_refusal, refuse_unless, guarded_on}
use Rattle.refusal.proofs.Laws.{or_left, or_right, good_is}
use Rattle.text.specs.Written.{put_text}
use Rattle.text.specs.mirror.Written.{WrittenBy}
use Rattle.layout.specs.Layout.{signed_value}
use Rattle.tables.specs.Check.{check_table}
use Rattle.flow.specs.Opcodes.{Opcodes, opcodes_of}
use Rattle.decoder.specs.declared.Instr.{Instr}
use Rattle.decoder.specs.Decode.{operand_types, instr_of}
use Rattle.decoder.specs.Listed.{decodes}
use Rattle.writer.specs.Write.{operands_ok, scale_ok, opcode_fits, given, all_hold, check_write, written_bytes, write_call, ReadsBack}
use Rattle.writer.proofs.Round.{write_reads}

module _ (ops : Opcodes) (types : List ℕ) (rfs : ℤ) (i : Instr) where
  -- what the checks of an instruction say
  pub record Accepted : Type 0 where
    pub scale_fine : scale_ok ops i.scale ≡ true
    pub opcode_fine : opcode_fits ops i.scale i.opcode ≡ true
    pub few : i.count ≤ 8
    pub hold : all_hold (take i.count i.operands) ≡ true
    pub operands_fine : operands_ok types i.scale rfs false (operand_types ops i.opcode) (given i) ≡ true

  pub accepted : check_write ops types rfs i ≡ Ok tt → Accepted
  accepted h =
      let a = refuse_unless (scale_ok ops i.scale) fault.WrongScale in
      let b = refuse_unless (opcode_fits ops i.scale i.opcode) fault.WrongOpcode in
      let ok = operands_ok types i.scale rfs false (operand_types ops i.opcode) (given i) in
      let hold = all_hold (take i.count i.operands) in
      let all = leb i.count 8 && hold && ok in
      let c = refuse_unless all fault.WrongOperands in
      let rest = or_right a (first_refusal b c) h in
      let t = good_is all fault.WrongOperands (or_right b c rest) in
      let places = and_left (leb i.count 8 && hold) ok t in
      record {
        scale_fine = good_is (scale_ok ops i.scale) fault.WrongScale (or_left a (first_refusal b c) h);
        opcode_fine = good_is (opcode_fits ops i.scale i.opcode) fault.WrongOpcode (or_left b c rest);
        few = leb-true i.count 8 (and_left (leb i.count 8) hold places);
        hold = and_right (leb i.count 8) hold places;
        operands_fine = and_right (leb i.count 8 && hold) ok t;
      }

  pub accepts : Accepted → check_write ops types rfs i ≡ Ok tt
  accepts a = rw (a.scale_fine, a.opcode_fine, le-leb i.count 8 a.few, a.hold, a.operands_fine)

  -- what was accepted and written, anywhere in a code, is decoded there as it was given
  pub written_decodes : check_write ops types rfs i ≡ Ok tt → (s u : List ℕ) → decodes (s ++ (written_bytes ops types rfs i ++ u)) ops types rfs (length s)
      ≡ Ok (Some (instr_of (length s) i.opcode i.scale (length (s ++ written_bytes ops types rfs i)) (given i)))
  written_decodes ok s u =
      let a = accepted ok in
      let t = written_bytes ops types rfs i in
      rw (length-append s t) (write_reads ops types rfs i.scale i.opcode (given i) (s ++ (t ++ u)) s u a.scale_fine a.opcode_fine a.operands_fine refl)

module _ (ops types layout : List ℕ) (i : Instr) where
  -- of a buffer that begins with what was written
  pub reads_back_lem : {o' : List ℕ} {n : ℕ} (rest : List ℕ) → check_write (opcodes_of ops) types (signed_value layout 13) i ≡ Ok tt
      → o' ≡ written_bytes (opcodes_of ops) types (signed_value layout 13) i ++ rest → n ≡ length (written_bytes (opcodes_of ops) types (signed_value layout 13) i) → ReadsBack ops types layout i (Ok n) o'
  reads_back_lem rest ok is many s u =
      let t = written_bytes (opcodes_of ops) types (signed_value layout 13) i in
      rw (many, is, take-append_seam t rest) (written_decodes (opcodes_of ops) types (signed_value layout 13) i ok s u)

  -- of the call, whatever it answers
  pub call_reads_back : (out : List ℕ) → ReadsBack ops types layout i (write_call ops types layout i out).0 (write_call ops types layout i out).1
  unfolding write_call
  call_reads_back out = go (check_table ops types [] [] layout) (check_write (opcodes_of ops) types (signed_value layout 13) i) refl
    where
      t : List ℕ
      t = written_bytes (opcodes_of ops) types (signed_value layout 13) i

      put : check_write (opcodes_of ops) types (signed_value layout 13) i ≡ Ok tt → (b : Bool)
          → let x : Result ℕ Refusal × List ℕ = cond b (Ok (length t), t ++ drop (length t) out) (Err (refusal_at fault.ShortOutput 0), out) in ReadsBack ops types layout i x.0 x.1
      put ok true = reads_back_lem (drop (length t) out) ok refl refl
      put ok false = tt

      go : (a b : Check) → check_write (opcodes_of ops) types (signed_value layout 13) i ≡ b
          → let x : Result ℕ Refusal × List ℕ = guarded_on (first_refusal a b) Err out (put_text t out) in ReadsBack ops types layout i x.0 x.1
      go (Err r) b e = tt
      go (Ok x) (Err r) e = tt
      go (Ok x) (Ok y) e = put e (leb (length t) (length out))

  pub answer_reads_back : (out : List ℕ) {o' : List ℕ} {r : Result ℕ Refusal} → WrittenBy (write_call ops types layout i out) r o' → ReadsBack ops types layout i r o'
  answer_reads_back out w = rw (w.0, w.1) (call_reads_back out)

-- ---- the call, from its parts
module _ (ops types layout : List ℕ) (i : Instr) (out : List ℕ) where
  abbrev all_checks : Check
  all_checks = first_refusal (check_table ops types [] [] layout) (check_write (opcodes_of ops) types (signed_value layout 13) i)

  pub call_refused : {r : Refusal} → all_checks ≡ Err r → WrittenBy (write_call ops types layout i out) (Err r) out
  unfolding write_call
  call_refused h = rw h (refl, refl)

  pub call_written : {o' : List ℕ} {r : Result ℕ Refusal} → all_checks ≡ Ok tt → WrittenBy (put_text (written_bytes (opcodes_of ops) types (signed_value layout 13) i) out) r o'
      → WrittenBy (write_call ops types layout i out) r o'
  unfolding write_call
  call_written h w = rw h w
