-- A pass over the instructions that writes their lines: what holds at each of them, and what its end says. Assumes nothing.
use Prim.Native.Nat.{ℕ, suc, ◌+◌, ◌-◌, ◌<◌, ◌≤◌, ◌^◌}
use mathlib.Core.Path.{◌≡◌, sym, ap, subst, ◌∙◌}
use mathlib.Core.List.{List}
use native.Mathlib.Omega.{arith}
use lib.ListN.{length}
use Rattle.refusal.specs.Refusal.{Refusal}
use Rattle.std.specs.Prelude.{Some, None, Ok, Err}
use Rattle.refusal.proofs.Laws.{never}
use Rattle.text.specs.Put.{Put, place}
use Rattle.decoder.specs.declared.Instr.{Instr}
use Rattle.decoder.specs.Decode.{Decoded, instr_in, Done}
use Rattle.decoder.proofs.Laws.{done_is}
use Rattle.decoder.proofs.Passing.{all_of, rest_of, PassInv, pass_start, pass_refused, pass_end, pass_instrs, pass_done}
use Rattle.lines.specs.Line.{View, line_text}
use Rattle.text.proofs.PutUpTo.{PutUpTo, up_to_none, up_to_more, up_to_all}
use Rattle.disasm.specs.Listing.{lines_text}

module _ (v : View) (d : ℕ → Decoded) (len : ℕ) where
  -- some instructions are passed, up to place i of the code, and their lines are put
  pub record WriteInv (o : List ℕ) (p₀ : ℕ) (o' : List ℕ) (p i : ℕ) : Type 0 where
    pub passed : ℕ
    pub pass : PassInv d len passed i
    pub lines : PutUpTo o p₀ (lines_text v (all_of d len).instrs) (lines_text v (rest_of d len passed i).instrs) o' p

  pub write_start : (o : List ℕ) (p : ℕ) {r : ℕ} → r ≡ place (p + 0) → WriteInv o p o r 0
  write_start o p e = let z : suc len - 0 ≡ suc len = omega arith in record { passed = 0; pass = pass_start d len; lines = rw z (up_to_none o p _ e) }

  module _ {o o' : List ℕ} {p₀ p i : ℕ} (s : WriteInv o p₀ o' p i) where
    pub write_refused : (r : Refusal) → d i ≡ Err r → (all_of d len).check ≡ Ok tt → ⊥
    write_refused r e ok = never r (sym (pass_refused d len s.pass r e) ∙ ok)

    pub write_end : d i ≡ Ok None → Put o p₀ (lines_text v (all_of d len).instrs) o' p
    unfolding lines_text
    write_end e = up_to_all (ap (lines_text v) (pass_end d len s.pass e).1) s.lines

    write_done : {o'' : List ℕ} {p' : ℕ} → length o ≤ 2 ^ 63 → Done (d i) → i < (instr_in (d i)).end → (instr_in (d i)).end ≤ len
        → Put o' p (line_text v (instr_in (d i))) o'' p' → WriteInv o p₀ o'' p' (instr_in (d i)).end
    unfolding lines_text
    write_done small e low high put = record {
      passed = suc s.passed;
      pass = pass_done d len s.pass e low high;
      lines = up_to_more (line_text v (instr_in (d i))) (lines_text v (rest_of d len (suc s.passed) (instr_in (d i)).end).instrs) small
          (ap (lines_text v) (pass_instrs d len s.pass e)) s.lines put;
    }

    -- the same, of what a call gave: x is the instruction that was decoded at i
    pub done_at : (x : Instr) → d i ≡ Ok (Some x) → {o'' : List ℕ} {p' : ℕ} → length o ≤ 2 ^ 63 → i < x.end → x.end ≤ len
        → Put o' p (line_text v x) o'' p' → WriteInv o p₀ o'' p' x.end
    done_at x is {o''} {p'} small =
        subst (λ (y : Instr). i < y.end → y.end ≤ len → Put o' p (line_text v y) o'' p' → WriteInv o p₀ o'' p' y.end) (ap instr_in is) (write_done small (done_is is))
