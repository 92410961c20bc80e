-- The answers of the calls as numbers, for C.
use Rattle.std.specs.Prelude.{ℕ, zero, suc, ◌≤◌, ◌≡◌, List, [], ◌∷◌, map, cond, eqb, ℤ, nat_abs}
use Rattle.std.specs.Prelude.{Option, Some, None, Result, Ok, Err}
use Rattle.refusal.specs.Refusal.{Refusal}
use Rattle.refusal.specs.Check.{Check}
use Rattle.search.specs.declared.Walked.{Walked}
use Rattle.refusal.specs.declared.Fault.TheVariants as fault
use Rattle.search.specs.declared.Walked.TheVariants as walked
use Rattle.refusal.specs.Check.{refusal_at}
use Rattle.refusal.specs.Numbers.{Numbers}
use Rattle.numbers.specs.Told.{told64}
use Rattle.steps.specs.Steps.{Source}
use Rattle.text.specs.Numbers.{written_numbers}
use Rattle.numbers.specs.Back.{opcode_known, told_instr}
use Rattle.writer.specs.Write.{check_scale, write_call, ReadsBack}
use Rattle.walk.specs.Numbers.{walked_numbers}
use Rattle.walk.specs.Walk.{Promise}

-- The answer of a call that writes into a buffer in 01's numbers, as it is told: its number, and its place, which of an answer is the length of what
-- is written; then the buffer.
abbrev pub written_told : Result ℕ Refusal → ℕ × ℕ
written_told w = let n = written_numbers w in (n.number, n.place)

abbrev pub buffer_told : Result ℕ Refusal × List ℕ → ℕ × ℕ × List ℕ
buffer_told a = let n = written_told a.0 in (n.0, n.1, a.1)

-- What 28 numbers ask to be written into a buffer. "22: no such opcode" where the first is no opcode's; what is checked before it comes before it.
abbrev pub no_opcode : Check → Result ℕ Refusal
no_opcode (Ok tt) = Err (refusal_at fault.WrongOpcode 0)
no_opcode (Err r) = Err r

unfoldable pub write_numbers : List ℕ → List ℕ → List ℕ → List ℕ → List ℕ → Result ℕ Refusal × List ℕ
write_numbers ops types layout ns out =
    cond (opcode_known ns) (write_call ops types layout (told_instr ns) out) (no_opcode (check_scale ops types layout (told_instr ns).scale), out)

-- "Decoding what was written gives back scale, opcode and operands": where 0 is told, of the place and the buffer
abbrev pub WriteReads : List ℕ → List ℕ → List ℕ → List ℕ → ℕ → ℕ → List ℕ → Type 0
WriteReads ops types layout ns number place o' = number ≡ 0 → ReadsBack ops types layout (told_instr ns) (Ok place) o'

-- the steps that a walk check's numbers tell: their value, or 0 where they have none
abbrev pub steps_in : List ℤ → ℕ
steps_in [] = 0
steps_in (v ∷ vs) = nat_abs v

-- The answer of a walk check in 01's numbers, as it is told: its number, the steps, the place; then the marks.
abbrev pub walk_numbers : Result Walked Refusal → ℕ × ℕ × ℕ
walk_numbers w = let n = walked_numbers w in (n.number, steps_in n.values, n.place)

abbrev pub walk_told : Result Walked Refusal × List ℕ → ℕ × ℕ × ℕ × List ℕ
walk_told a = let n = walk_numbers a.0 in (n.0, n.1, n.2, a.1)

-- Demand 3 in the numbers that are told: 0 means that no walk ever leaves; 254, that a shortest walk that leaves has so many steps, from that place;
-- and of the marks what they mean after either. Any other number is a refusal's, 1 to 26.
pub record WalkPromise (s : Source) (M : List ℕ) (number steps place : ℕ) : Type 0 where
  pub closed : number ≡ 0 → Promise s (Ok walked.Closed) M
  pub leaves : number ≡ 254 → Promise s (Ok (walked.Leaves steps place)) M
  pub refused : (number ≡ 0 → ⊥) → (number ≡ 254 → ⊥) → number ≤ 26

-- whether an object is lent for lent code, 0 if not, and its number
abbrev pub pool_object : ℕ → ℕ → Option ℕ
pool_object lent n = cond (eqb lent 0) None (Some n)

-- k values: those of an answer, and 0 for one that is not there
abbrev pub values_told : ℕ → List ℤ → List ℕ
values_told zero vs = []
values_told (suc k) [] = 0 ∷ values_told k []
values_told (suc k) (v ∷ vs) = told64 v ∷ values_told k vs

-- An answer in 01's numbers, as it is told: its number, its place and k values. proofs/Rows.antt: a refusal's number is 1 to 26.
abbrev pub numbers_told : ℕ → Numbers → ℕ × ℕ × List ℕ
numbers_told k n = (n.number, n.place, values_told k n.values)

-- The 28 numbers after decoding: an instruction's; as they were after a refusal, which has no values, and at the end, which has one.
abbrev pub numbers_after : List ℤ → List ℕ → List ℕ
numbers_after [] ns = ns
numbers_after (v ∷ []) ns = ns
numbers_after (v ∷ w ∷ vs) ns = map told64 (v ∷ w ∷ vs)

-- The answer of decoding in 01's numbers, as it is told: its number, its place, and the numbers that were ns.
abbrev pub decode_told : Numbers → List ℕ → ℕ × ℕ × List ℕ
decode_told n ns = (n.number, n.place, numbers_after n.values ns)
