-- Answers of calls that write into a buffer, as they are told. Assumes nothing.
use Prim.Native.Nat.{ℕ}
use mathlib.Core.Path.{◌≡◌, refl, sym, ap, subst, ◌∙◌}
use mathlib.Core.Bool.{true, false}
use mathlib.Core.List.{List, []}
use native.Mathlib.Omega.{arith}
use Rattle.std.specs.Prelude.{Result, Ok, Err}
use Rattle.refusal.specs.Refusal.{Refusal}
use Rattle.refusal.specs.Check.{Check}
use Rattle.refusal.specs.declared.Fault.TheVariants as fault
use Rattle.refusal.specs.Check.{refuse_unless}
use Rattle.refusal.specs.Numbers.{Numbers}
use Rattle.text.specs.Numbers.{written_numbers, WrittenAs}
use Rattle.text.proofs.Numbers.{written_by}
use Rattle.tables.specs.Check.{check_table}
use Rattle.flow.specs.Opcodes.{opcodes_of}
use Rattle.decoder.specs.declared.Instr.{Instr}
use Rattle.numbers.specs.Back.{opcode_known, told_instr}
use Rattle.writer.specs.Write.{scale_ok, check_scale, write_call, ReadsBack}
use Rattle.capi.specs.Told.{written_told, buffer_told, no_opcode, write_numbers, WriteReads}
use Rattle.walk.proofs.Rows.{table_row}
use Rattle.capi.proofs.Rows.{Numbered, some_unless, some_first, write_row}

-- an answer w and a buffer that are those of a call
pub buffer_told_lem : (a : Result ℕ Refusal × List ℕ) (w : Result ℕ Refusal) {o' : List ℕ} {r p : ℕ} → WrittenAs a w o' → (r, p) ≡ written_told w → (r, p, o') ≡ buffer_told a
buffer_told_lem a w {o'} x e =
    ap (λ (t : ℕ × ℕ). (t.0, t.1, o')) e ∙ ap (λ (n : Numbers). (n.number, n.place, o')) x.0
    ∙ ap (λ (l : List ℕ). ((written_numbers a.0).number, (written_numbers a.0).place, l)) x.1

module _ (ops types layout ns out : List ℕ) where
  -- 28 numbers whose first is an opcode's
  pub known_told : (w : Result ℕ Refusal) {o' : List ℕ} {r p : ℕ} {i : Instr} → opcode_known ns ≡ true → i ≡ told_instr ns
      → WrittenAs (write_call ops types layout i out) w o' × ReadsBack ops types layout i w o' → (r, p) ≡ written_told w
      → ((r, p, o') ≡ buffer_told (write_numbers ops types layout ns out)) × WriteReads ops types layout ns r p o'
  unfolding write_numbers
  known_told w {o'} {r} {p} {i} known is x e = (
    rw (known, ← is) (buffer_told_lem (write_call ops types layout i out) w x.0 e),
    λ zero. rw (← is) (go w (written_by x.0).0 x.1 e zero),
  )
    where
      go : (v : Result ℕ Refusal) → v ≡ (write_call ops types layout i out).0 → ReadsBack ops types layout i v o' → (r, p) ≡ written_told v → r ≡ 0 → ReadsBack ops types layout i (Ok p) o'
      go (Ok n) of back told zero = let z : p ≡ n = ap (λ (t : ℕ × ℕ). t.1) told in subst (λ (k : ℕ). ReadsBack ops types layout i (Ok k) o') (sym z) back
      go (Err q) of back told zero = absurd (omega (arith, write_row ops types layout i out q (sym of), ap (λ (t : ℕ × ℕ). t.0) told))

  some_scale : (scale : ℕ) → Numbered (check_scale ops types layout scale)
  some_scale scale =
      some_first (check_table ops types [] [] layout) (refuse_unless (scale_ok (opcodes_of ops) scale) fault.WrongScale) (λ q e. ((table_row ops types [] [] layout).row q e).least)
      (some_unless (scale_ok (opcodes_of ops) scale) fault.WrongScale (omega arith))

  -- and others
  pub unknown_told : {w : Result ℕ Refusal} {r p : ℕ} {i : Instr} → opcode_known ns ≡ false → i ≡ told_instr ns → w ≡ no_opcode (check_scale ops types layout i.scale) → (r, p) ≡ written_told w
      → ((r, p, out) ≡ buffer_told (write_numbers ops types layout ns out)) × WriteReads ops types layout ns r p out
  unfolding write_numbers
  unknown_told {w} {r} {p} {i} known is of e = (
    rw (known, ← is, ← of) (ap (λ (t : ℕ × ℕ). (t.0, t.1, out)) e),
    λ zero. absurd (none (check_scale ops types layout i.scale) (some_scale i.scale) of zero),
  )
    where
      none : (c : Check) → Numbered c → w ≡ no_opcode c → r ≡ 0 → ⊥
      none (Ok tt) s f zero = omega (arith, ap (λ (t : ℕ × ℕ). t.0) (e ∙ ap written_told f))
      none (Err q) s f zero = omega (arith, s q refl, ap (λ (t : ℕ × ℕ). t.0) (e ∙ ap written_told f))
