-- A pass over the instructions of a code that makes the checks 11 to 16: what holds at each of them, and what its end says. Assumes nothing.
use Prim.Native.Nat.{ℕ, suc, ◌-◌, ◌<◌, ◌≤◌}
use mathlib.Core.Path.{◌≡◌, sym, ap, ◌∙◌}
use mathlib.Core.Bool.{Bool}
use mathlib.Core.List.{List, [], ◌∷◌}
use native.Mathlib.Omega.{arith}
use Rattle.refusal.specs.Refusal.{Refusal}
use Rattle.std.specs.Prelude.{None, Ok, Err}
use Rattle.refusal.specs.Check.{Check}
use Rattle.refusal.specs.Check.{first_refusal}
use Rattle.refusal.proofs.Laws.{never, or_none, or_assoc}
use Rattle.decoder.specs.declared.Instr.{Instr}
use Rattle.decoder.specs.Decode.{Decoded, Done, instr_in}
use Rattle.decoder.proofs.Passing.{PassInv, pass_start, pass_refused, pass_end, pass_instrs, pass_done}
use Rattle.flow.specs.Opcodes.{Opcodes}
use Rattle.targets.specs.Targets.{jump_table}
use Rattle.function.specs.Code.{table_check, switch_check, listing_check}
pub use Rattle.decoder.proofs.Passing.{all_of, rest_of}

module _ (ops : Opcodes) (pooled : Bool) (d : ℕ → Decoded) (len : ℕ) where
  -- some instructions are passed, up to place i of the code; check is the first fault of their switches
  pub record Going (check : Check) (i : ℕ) : Type 0 where
    pub passed : ℕ
    pub pass : PassInv d len passed i
    pub switches : switch_check ops pooled (all_of d len).instrs ≡ first_refusal check (switch_check ops pooled (rest_of d len passed i).instrs)

  unfoldable pub going_start : Going (Ok tt) 0
  going_start = let z : suc len - 0 ≡ suc len = omega arith in record { passed = 0; pass = pass_start d len; switches = rw z }

  module _ {i : ℕ} {check : Check} (s : Going check i) where
    pub going_refused : (r : Refusal) → d i ≡ Err r → (Err r ≡ listing_check ops pooled (all_of d len)) × ((all_of d len).check ≡ Ok tt → ⊥)
    going_refused r e =
        let f = pass_refused d len s.pass r e in
        (sym (ap (λ (x : Check). first_refusal x (switch_check ops pooled (all_of d len).instrs)) f), λ ok. never r (sym f ∙ ok))

    pub going_end : d i ≡ Ok None → (check ≡ listing_check ops pooled (all_of d len)) × ((rest_of d len s.passed i).instrs ≡ [])
    unfolding switch_check
    going_end e =
        let f = pass_end d len s.pass e in
        let g = s.switches ∙ ap (λ (is : List Instr). first_refusal check (switch_check ops pooled is)) f.1 ∙ or_none check in
        (sym (ap (λ (x : Check). first_refusal x (switch_check ops pooled (all_of d len).instrs)) f.0 ∙ g), f.1)

    -- the instruction at i, and what is left behind it
    pub going_instrs : Done (d i) → (rest_of d len s.passed i).instrs ≡ instr_in (d i) ∷ (rest_of d len (suc s.passed) (instr_in (d i)).end).instrs
    going_instrs e = pass_instrs d len s.pass e

    unfoldable pub going_done : (c' : Check) → Done (d i) → i < (instr_in (d i)).end → (instr_in (d i)).end ≤ len
        → c' ≡ first_refusal check (table_check (jump_table pooled (ops.flow (instr_in (d i)).opcode) (instr_in (d i))) (instr_in (d i)).offset)
        → Going c' (instr_in (d i)).end
    unfolding switch_check
    going_done c' e low high is =
        let t = table_check (jump_table pooled (ops.flow (instr_in (d i)).opcode) (instr_in (d i))) (instr_in (d i)).offset in
        let rest = (rest_of d len (suc s.passed) (instr_in (d i)).end).instrs in
        record {
          passed = suc s.passed;
          pass = pass_done d len s.pass e low high;
          switches = rw is (s.switches ∙ ap (λ (is : List Instr). first_refusal check (switch_check ops pooled is)) (going_instrs e) ∙ sym (or_assoc check t (switch_check ops pooled rest)));
        }
