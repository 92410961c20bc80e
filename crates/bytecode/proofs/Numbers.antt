-- What the numbers of a decoding say: whether it was refused, and where an instruction was decoded all of it but its start. Assumes nothing.
use Prim.Native.Nat.{ℕ}
use mathlib.Core.Path.{◌≡◌, refl, sym, ap, ◌∙◌}
use mathlib.Core.List.{List, [], ◌∷◌}
use native.Mathlib.Omega.{arith}
use lib.ListN.{length, drop}
use Rattle.refusal.specs.Numbers.{Numbers}
use Rattle.refusal.specs.Refusal.{Refusal}
use Rattle.refusal.proofs.Numbers.{refusal_back, refused_or, end_or, count}
use Rattle.operand.proofs.Numbers.{Leading, leading, operand_leads}
use Rattle.std.specs.Prelude.{Some, None, Ok, Err}
use Rattle.decoder.specs.declared.OperandRecord.{OperandRecord}
use Rattle.decoder.specs.declared.Instr.{Instr}
use Rattle.decoder.specs.Decode.{Decoded, instr_in}
use Rattle.bytecode.specs.Numbers.{operands_numbers, instr_numbers, decoded_numbers}

-- ---- the answer

-- an answer with this instruction, if it has one
abbrev answer_of : Instr → Numbers → Decoded
answer_of i n = refused_or Err (λ vs. end_or (Ok None) (Ok (Some i)) n) n

answer_back : (start : ℕ) (d : Decoded) → answer_of (instr_in d) (decoded_numbers start d) ≡ d
answer_back start (Ok (Some i)) = refl
answer_back start (Ok None) = refl
answer_back start (Err r) = ap (λ (x : Refusal). Err x) (refusal_back r)

-- with the instruction, which is blank unless one was decoded, the numbers say all
pub decoded_numbers_one : (start : ℕ) (a b : Decoded) → decoded_numbers start a ≡ decoded_numbers start b → instr_in a ≡ instr_in b → a ≡ b
decoded_numbers_one start a b e i =
    sym (answer_back start a) ∙ ap (λ (x : Instr). answer_of x (decoded_numbers start a)) i ∙ ap (answer_of (instr_in b)) e ∙ answer_back start b

-- ---- the instruction

operands_one : (a b : List OperandRecord) → length a ≡ length b → operands_numbers a ≡ operands_numbers b → a ≡ b
operands_one [] [] n h = refl
operands_one [] (r ∷ rs) n h = absurd (omega arith)
operands_one (r ∷ rs) [] n h = absurd (omega arith)
operands_one (r ∷ rs) (q ∷ qs) n h =
    let e = sym (operand_leads r.operand (operands_numbers rs)) ∙ ap leading h ∙ operand_leads q.operand (operands_numbers qs) in
    let rest = operands_one rs qs (omega arith) (ap (λ (l : Leading). l.rest) e) in
    λ k. record { operand = (e k).operand } ∷ rest k

-- instructions with one start and as many places for operands: all have eight
pub instr_numbers_one : (a b : Instr) → a.offset ≡ b.offset → length a.operands ≡ length b.operands → instr_numbers a ≡ instr_numbers b → a ≡ b
instr_numbers_one a b s n e =
    let os = operands_one a.operands b.operands n (ap (drop 4) e) in
    λ k. record {
      offset = s k;
      opcode = count 0 (e k);
      scale = count 1 (e k);
      end = count 2 (e k);
      count = count 3 (e k);
      operands = os k;
    }
